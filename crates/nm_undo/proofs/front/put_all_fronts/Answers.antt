use Rattle.std.proofs.Common.{◌+◌, drop, sym, ap, ◌∙◌}
use Rattle.std.proofs.lemmas.List.{drop_all}
use Rattle.std.specs.List.{flat_map}
use Rattle.nm_config.specs.Rows.{with_entries}
use Rattle.nm_edit.proofs.Steps.{one_taken}
use Rattle.nm_undo.specs.Inverse.{fronts_of}
use Rattle.nm_undo.proofs.Maps.{with_append}
use Rattle.nm_undo.proofs.front.put_all_fronts.Goals as goal

pub loop-path-preserved : goal.loop-path-preserved
loop-path-preserved c =
    let t = c.args.schema.now in
    let items = c.args.said.now in
    let i = c.loop-path.path-index in
    let one = c.loop-path-item.result in
    let left = flat_map (fronts_of t) (drop (i + 1) items) in
    ap (λ m. with_entries m left) c.in_ok-put_fronts.ensures
    ∙ sym (with_append c.loop-path.nodes (fronts_of t one) left)
    ∙ ap (λ ss. with_entries c.loop-path.nodes (flat_map (fronts_of t) ss)) (sym (one_taken items i one c.loop-path-test.true c.loop-path-item.is))
    ∙ c.loop-path.invariant

pub returns : goal.returns
returns c =
    ap (λ ss. with_entries c.loop-path.nodes (flat_map (fronts_of c.args.schema.now) ss)) (sym (drop_all c.loop-path.path-index c.args.said.now c.loop-path-test.false))
    ∙ c.loop-path.invariant
