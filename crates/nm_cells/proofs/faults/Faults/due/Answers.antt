use Rattle.std.proofs.Common.{◌≡◌, ◌+◌, ◌<◌, ◌≤◌, false, None, Some, is_some, length, sym, ap, ◌∙◌, arith}
use Rattle.std.proofs.lemmas.Bool.Decides.{nat_tests}
use Rattle.nm_cells.specs.Faults.{due}
use Rattle.nm_cells.proofs.Cursor.{hit, miss, past, due_now}
use Rattle.nm_cells.proofs.faults.Faults.due.Goals as goal

pub returns-in-Some : goal.returns-in-Some
returns-in-Some c =
    let it = c.self.inside in
    let same : it.reached ≡ it.counted = grind (arith, nat_tests, c.if-self.false) in
    let at = c.in-Some.ensures.lookup in
    let within : it.spent < length c.as_slice.result.now = grind (arith, nat_tests, at.0) in
    let now : c.in-Some.entry.now.at ≡ it.reached + 1 = grind (arith, nat_tests, c.if-entry-self.true, same) in
    sym (due_now it.reached it.counted it.plan.items (Some c.in-Some.entry.now.fault) same (hit it.reached it.spent it.plan.items c.as_slice.result.now c.in-Some.entry.now c.as_slice.ensures.value within at.1 c.self.invariant.0 now)) ∙ ap due c.self.view_is

pub returns-in_default : goal.returns-in_default
returns-in_default c =
    let it = c.self.inside in
    let same : it.reached ≡ it.counted = grind (arith, nat_tests, c.if-self.false) in
    let at = c.in-Some.ensures.lookup in
    let within : it.spent < length c.as_slice.result.now = grind (arith, nat_tests, at.0) in
    let other = c.if-entry-self.false in
    sym (due_now it.reached it.counted it.plan.items None same (miss it.reached it.spent it.plan.items c.as_slice.result.now c.in-Some.entry.now c.as_slice.ensures.value within at.1 c.self.invariant.0 (λ e. other (e ∙ ap (λ n. n + 1) same)))) ∙ ap due c.self.view_is

pub returns-in_default-2 : goal.returns-in_default-2
returns-in_default-2 c =
    let it = c.self.inside in
    let same : it.reached ≡ it.counted = grind (arith, nat_tests, c.if-self.false) in
    let none : is_some c.get.result ≡ false = ap is_some c.in_default.is in
    let at = c.get.ensures.lookup.0 in
    let out : length c.as_slice.result.now ≤ it.spent = grind (arith, nat_tests, at, none) in
    sym (due_now it.reached it.counted it.plan.items None same (past it.reached it.spent it.plan.items c.as_slice.result.now c.as_slice.ensures.value out c.self.invariant.0)) ∙ ap due c.self.view_is
