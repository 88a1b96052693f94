use Rattle.std.proofs.Common.{List, map, ◌+◌, drop, ap, ◌∙◌}
use Rattle.std.specs.Borrow.{Bor}
use Rattle.nm_types.specs.Path.{PathStep}
use Rattle.nm_config.specs.Rows.{Rows}
use Rattle.nm_validate_rules.specs.Values.{key_in_entry}
use Rattle.nm_validate_leafref.specs.Kept.{with_value, with_values}
use Rattle.nm_validate_leafref.proofs.Steps.{step_on, end_on}
use Rattle.nm_validate_leafref.proofs.known.keep_all_keys.Goals as goal

pub loop-entry-preserved : goal.loop-entry-preserved
loop-entry-preserved c =
    let t = c.args.schema.now in
    let x = c.args.at in
    let d = c.args.depth in
    let kept = c.in_ok-keep_value.ensures ∙ ap (with_value x d c.loop-entry.kept c.entry-item.result.now) (c.as_ref.ensures.value ∙ c.in_ok-value.ensures) in
    step_on (λ (m : Rows) (es : List (Bor (List PathStep))). with_values x d (key_in_entry t x) m (map (λ entry. entry.now) es)) c.args.entries.now c.loop-entry.entry-index c.entry-item.result c.loop-entry.kept c.keep_value.new.kept _
    c.loop-entry-test.true c.entry-item.is (ap (λ (m : Rows). with_values x d (key_in_entry t x) m (map (λ (entry : Bor (List PathStep)). entry.now) (drop (c.loop-entry.entry-index + 1) c.args.entries.now))) kept)
    c.loop-entry.invariant

pub returns : goal.returns
returns c =
    end_on (λ (es : List (Bor (List PathStep))). with_values c.args.at c.args.depth (key_in_entry c.args.schema.now c.args.at) c.loop-entry.kept (map (λ entry. entry.now) es)) c.args.entries.now c.loop-entry.entry-index _
    c.loop-entry-test.false c.loop-entry.invariant
