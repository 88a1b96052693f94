use Rattle.std.proofs.Common.{◌≡◌, ◌+◌, ◌≤◌, sym, ap, ◌∙◌, arith}
use Rattle.std.proofs.lemmas.Bool.Decides.{nat_tests}
use Rattle.nm_cells.specs.Faults.{FaultsState, due}
use Rattle.nm_cells.proofs.Cursor.{stands_next, few_came}
use Rattle.nm_cells.proofs.faults.Faults.come.Goals as goal

pub invariant_of-self : goal.invariant_of-self
invariant_of-self c =
    let it = c.self.inside in
    let same : it.reached ≡ it.counted = grind (arith, nat_tests, c.if-self.false) in
    let f : FaultsState = record { plan = it.plan.items; spent = it.spent; reached = it.reached; counted = it.counted } in (
      stands_next f c.due.result c.count_of.result c.self.invariant.0 same (c.due.ensures ∙ sym (ap due c.self.view_is)) c.count_of.ensures,
      omega (arith, same),
      omega (arith, same),
      c.self.invariant.3,
    )

pub returns-then-self-clause-few : goal.returns-then-self-clause-few
returns-then-self-clause-few c =
    let it = c.self.inside in
    let few : it.spent ≤ 1000 = few_came it.reached it.spent 1000 it.plan.items c.self.invariant.0 c.self.invariant.3 in
    let same = ap (λ s. s.spent) c.self.view_is in
    omega (arith, few, same)

pub overflow_add-self : goal.overflow_add-self
overflow_add-self c =
    let it = c.self.inside in
    let same : it.reached ≡ it.counted = grind (arith, nat_tests, c.if-self.false) in
    let f : FaultsState = record { plan = it.plan.items; spent = it.spent; reached = it.reached; counted = it.counted } in
    let few : it.spent + c.count_of.result ≤ 1000 = few_came (it.reached + 1) (it.spent + c.count_of.result) 1000 it.plan.items (stands_next f c.due.result c.count_of.result c.self.invariant.0 same (c.due.ensures ∙ sym (ap due c.self.view_is)) c.count_of.ensures) c.self.invariant.3 in
    omega (arith, few)

pub returns-clause-few : goal.returns-clause-few
returns-clause-few c =
    let it = c.self.inside in
    let same : it.reached ≡ it.counted = grind (arith, nat_tests, c.if-self.false) in
    let f : FaultsState = record { plan = it.plan.items; spent = it.spent; reached = it.reached; counted = it.counted } in
    few_came (it.reached + 1) (it.spent + c.count_of.result) 1000 it.plan.items (stands_next f c.due.result c.count_of.result c.self.invariant.0 same (c.due.ensures ∙ sym (ap due c.self.view_is)) c.count_of.ensures) c.self.invariant.3
