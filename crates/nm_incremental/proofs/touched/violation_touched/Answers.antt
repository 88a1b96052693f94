use Rattle.std.proofs.Common.{◌≡◌, List, Option, IfOk, ap, subst, ◌∙◌}
use Rattle.nm_types.specs.Path.{PathStep}
use Rattle.nm_validate_rules.specs.Rule.{all_rules}
use Rattle.nm_validate_rules.specs.Violation.{Violation}
use Rattle.nm_incremental.specs.Differing.{differing}
use Rattle.nm_incremental.specs.Read.{first_found}
use Rattle.nm_incremental.proofs.Bounding.{bounded_by}
use Rattle.nm_incremental.proofs.Covering.{differ_among}
use Rattle.nm_incremental.proofs.Joined.{violation_found}
use Rattle.nm_incremental.proofs.touched.violation_touched.Goals as goal

pub returns-clause-found : goal.returns-clause-found
returns-clause-found g c =
    let t = c.args.schema.now in
    let base = g.B.RowMap.rows c.args.base.now in
    let next = g.M.RowMap.rows c.args.next.now in
    let touched = c.args.touched.now in
    subst (λ (v : Option Violation). IfOk c.violation_in.result (λ found. found ≡ v)) (
    ap (λ (rows : List (List PathStep)). first_found t next rows all_rules) (c.deref.ensures.value ∙ c.in_ok-differing.ensures)
    ∙ violation_found t base next (differing base next touched) c.requires.sound c.requires.base c.requires.next c.requires.valid (differ_among base next touched c.requires.covers)) c.violation_in.ensures.found

pub returns-clause-bound : goal.returns-clause-bound
returns-clause-bound g c =
    bounded_by c.args.schema.now (g.B.RowMap.rows c.args.base.now) (g.M.RowMap.rows c.args.next.now) c.args.touched.now c.args.steps.now c.violation_in.new.steps c.deref.result.now
    (c.deref.ensures.value ∙ c.in_ok-differing.ensures) c.violation_in.ensures.steps
