use Rattle.std.proofs.Common.{List, ◌+◌, drop, ap, ◌∙◌}
use Rattle.nm_types.specs.Path.{PathStep}
use Rattle.nm_config.specs.Rows.{Rows}
use Rattle.nm_validate_rules.specs.Values.{default_in_use}
use Rattle.nm_validate_leafref.specs.Kept.{with_value, with_values}
use Rattle.nm_validate_leafref.proofs.Steps.{step_on, end_on}
use Rattle.nm_validate_leafref.proofs.known.keep_all_defaults.Goals as goal

pub loop-path-preserved : goal.loop-path-preserved
loop-path-preserved g c =
    let t = c.args.schema.now in
    let rows = g.M.RowMap.rows c.args.config.now in
    let x = c.args.at in
    let d = c.args.depth in
    let kept = c.in_ok-keep_value.ensures ∙ ap (with_value x d c.loop-path.kept c.path-item.result) (c.as_ref.ensures.value ∙ c.in_ok-value.ensures) in
    step_on (λ (m : Rows) (ps : List (List PathStep)). with_values x d (λ path. default_in_use t rows path x) m ps) c.args.places.now c.loop-path.path-index c.path-item.result c.loop-path.kept c.keep_value.new.kept _
    c.loop-path-test.true c.path-item.is (ap (λ (m : Rows). with_values x d (λ path. default_in_use t rows path x) m (drop (c.loop-path.path-index + 1) c.args.places.now)) kept) c.loop-path.invariant

pub returns : goal.returns
returns g c =
    end_on (with_values c.args.at c.args.depth (λ path. default_in_use c.args.schema.now (g.M.RowMap.rows c.args.config.now) path c.args.at) c.loop-path.kept) c.args.places.now c.loop-path.path-index _
    c.loop-path-test.false c.loop-path.invariant
