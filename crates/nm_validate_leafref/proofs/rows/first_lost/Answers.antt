use Rattle.std.proofs.Common.{◌+◌, drop, cond, Some, option_map, refl, sym, ap, subst, ◌∙◌}
use Rattle.std.specs.List.{find}
use Rattle.std.proofs.lemmas.List.{drop_all}
use Rattle.nm_config.specs.Rows.{Rows}
use Rattle.nm_validate_places.specs.declared.areas.NodeRow.{NodeRow}
use Rattle.nm_validate_leafref.specs.Known.{Knows}
use Rattle.nm_validate_leafref.specs.Lost.{is_lost_at, first_lost}
use Rattle.nm_validate_leafref.proofs.Knowing.{knows_nothing}
use Rattle.nm_validate_leafref.proofs.Steps.{one_taken}
use Rattle.nm_validate_leafref.proofs.rows.first_lost.Goals as goal

pub loop-row-init : goal.loop-row-init
loop-row-init g c =
    let rows = g.M.RowMap.rows c.args.config.now in
    (subst (λ (m : Rows). Knows c.args.schema.now rows m) (sym c.new-kept.ensures) (knows_nothing c.args.schema.now rows), refl)

pub loop-row-preserved : goal.loop-row-preserved
loop-row-preserved g c =
    let t = c.args.schema.now in
    let rows = g.M.RowMap.rows c.args.config.now in
    let i = c.loop-row.row-index in
    let row = c.row-item.result in
    let lost = λ (r : NodeRow). is_lost_at t rows r.node r.path.now r.value.now in
    let left = find lost (drop (i + 1) c.args.rows.now) in
    let same = ap (first_lost t rows) (one_taken c.args.rows.now i row c.loop-row-test.true c.row-item.is)
    ∙ ap (λ b. option_map (λ (r : NodeRow). r.path.now) (cond b (Some row) left)) (sym c.in_ok-is_lost_row.ensures.told ∙ c.if-branch.false) in
    (c.in_ok-is_lost_row.ensures.knows, sym same ∙ c.loop-row.invariant.1)

pub returns : goal.returns
returns g c =
    ap (first_lost c.args.schema.now (g.M.RowMap.rows c.args.config.now)) (sym (drop_all c.loop-row.row-index c.args.rows.now c.loop-row-test.false)) ∙ c.loop-row.invariant.1
