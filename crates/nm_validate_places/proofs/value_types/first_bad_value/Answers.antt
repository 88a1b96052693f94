use Rattle.std.proofs.Common.{◌+◌, drop, not, sym, ap, ◌∙◌}
use Rattle.std.proofs.lemmas.List.{drop_all}
use Rattle.nm_validate_places.specs.declared.areas.NodeRow.{NodeRow}
use Rattle.nm_validate_places.specs.Listed.{has_its_type, first_bad_value}
use Rattle.nm_validate_places.proofs.Steps.{one_taken, passed_on}
use Rattle.nm_validate_places.proofs.value_types.first_bad_value.Goals as goal

pub loop-row-preserved : goal.loop-row-preserved
loop-row-preserved c =
    let nodes = c.args.schema.now.nodes in
    let rows = c.args.rows.now in
    let i = c.loop-row.row-index in
    let row = c.row-item.result in
    sym (passed_on (λ (r : NodeRow). not (has_its_type nodes r)) row (drop i rows) (drop (i + 1) rows) (one_taken rows i row c.loop-row-test.true c.row-item.is) (ap not (sym c.in_ok-fits_row.ensures ∙ c.if-not-branch.false)))
    ∙ c.loop-row.invariant

pub returns : goal.returns
returns c = ap (first_bad_value c.args.schema.now.nodes) (sym (drop_all c.loop-row.row-index c.args.rows.now c.loop-row-test.false)) ∙ c.loop-row.invariant
