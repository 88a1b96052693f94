use Rattle.std.proofs.Common.{◌∙◌, ◌-◌, length, rules, sym, arith}
use Rattle.std.proofs.lemmas.Bool.Decides.{nat_tests}
use Rattle.nm_path.specs.Reading.{step_at, steps_at}
use Rattle.nm_path.proofs.Loops.{fails_by, steps_some, steps_fail, steps_end, all_front_empty}
use Rattle.nm_path.proofs.steps.steps_at.Goals as goal

pub steps-init : goal.steps-init
steps-init c = (length c.args.text.now, omega arith, rw c.new-all.ensures.items (all_front_empty (steps_at (length c.args.text.now) c.args.text.now)), c.utf8.text)

pub is_empty-requires-text-self : goal.is_empty-requires-text-self
is_empty-requires-text-self c κs = c.steps.invariant.3

pub step_at-requires : goal.step_at-requires
step_at-requires c = tt

pub steps-preserved : goal.steps-preserved
steps-preserved c =
    let l = c.steps.invariant in
    let s = c.in-Ok.ensures in
    let now = steps_some l.0 c.steps.all.items c.in-Ok.step c.steps.rest.now c.in-Ok.after.now l.1 (grind (arith, nat_tests)) s.read in
    (l.0 - 1, omega (arith, s.shorter, l.1), rw c.in_ok-push-in-Ok.ensures.items (sym now ∙ l.2), search rules)

pub returns-in-Err : goal.returns-in-Err
returns-in-Err c =
    let l = c.steps.invariant in
    fails_by c.in-Err.error (step_at c.steps.rest.now) (steps_at (length c.args.text.now) c.args.text.now)
    (λ none. sym l.2 ∙ steps_fail l.0 c.steps.all.items c.steps.rest.now l.1 (grind (arith, nat_tests)) none) c.in-Err.ensures.read

pub returns : goal.returns
returns c =
    let l = c.steps.invariant in
    sym l.2 ∙ steps_end l.0 c.steps.all.items c.steps.rest.now (grind (arith, nat_tests))
