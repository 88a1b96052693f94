use Rattle.std.proofs.Common.{List, map, ◌+◌, drop, ap, ◌∙◌}
use Rattle.std.specs.Borrow.{Bor}
use Rattle.std.specs.FinMap.{get}
use Rattle.nm_types.specs.Path.{PathStep}
use Rattle.nm_config.specs.Rows.{Rows}
use Rattle.nm_validate_leafref.specs.Kept.{with_value, with_values}
use Rattle.nm_validate_leafref.proofs.Steps.{step_on, end_on}
use Rattle.nm_validate_leafref.proofs.known.keep_all_rows.Goals as goal

pub loop-path-preserved : goal.loop-path-preserved
loop-path-preserved g c =
    let rows = g.M.RowMap.rows c.args.config.now in
    let x = c.args.at in
    let d = c.args.depth in
    let kept = c.in_ok-keep_value.ensures ∙ ap (with_value x d c.loop-path.kept c.path-item.result.now) c.value.ensures in
    step_on (λ (m : Rows) (ps : List (Bor (List PathStep))). with_values x d (get rows) m (map (λ path. path.now) ps)) c.args.paths.now c.loop-path.path-index c.path-item.result c.loop-path.kept c.keep_value.new.kept _
    c.loop-path-test.true c.path-item.is (ap (λ (m : Rows). with_values x d (get rows) m (map (λ (path : Bor (List PathStep)). path.now) (drop (c.loop-path.path-index + 1) c.args.paths.now))) kept) c.loop-path.invariant

pub returns : goal.returns
returns g c =
    end_on (λ (ps : List (Bor (List PathStep))). with_values c.args.at c.args.depth (get (g.M.RowMap.rows c.args.config.now)) c.loop-path.kept (map (λ path. path.now) ps)) c.args.paths.now c.loop-path.path-index _
    c.loop-path-test.false c.loop-path.invariant
