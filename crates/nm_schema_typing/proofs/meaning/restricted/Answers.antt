use Rattle.std.proofs.Common.{rules, ◌≡◌, ◌∙◌, sym, ap, subst, IfOk, Option, Result, true}
use Rattle.std.specs.Arc.{arc_value}
use Rattle.nm_schema_derive.specs.Built.{Derivation}
use Rattle.nm_schema_derive.specs.Step.{Gives}
use Rattle.nm_schema_derive.specs.Restricted as derive
use Rattle.nm_schema_derive.specs.declared.derived.StepFault.{StepFault}
use Rattle.nm_schema_typing.specs.Restricting.{restrictions_in}
use Rattle.nm_schema_typing.specs.Meaning as spec
use Rattle.nm_schema_typing.proofs.Stepping.{step_same, unrestricted_stays}
use Rattle.nm_schema_typing.proofs.meaning.restricted.Goals as goal

pub returns-then-is_unrestricted : goal.returns-then-is_unrestricted
returns-then-is_unrestricted c =
    let is : spec.is_unrestricted (restrictions_in c.args.restrictions.now) ≡ true = search rules in
    let same : arc_value c.in_ok-try_clone.field-0 ≡ arc_value c.args.base.now = search rules in
    rw (unrestricted_stays (restrictions_in c.args.restrictions.now) (arc_value c.args.base.now) is, sym same) c.whole.ensures

pub returns : goal.returns
returns c =
    let same : c.in_ok-copied.copied ≡ arc_value c.args.base.now = search rules in
    let steps : derive.step c.in_ok-copied.copied c.args.restrictions.now ≡ spec.restricted (restrictions_in c.args.restrictions.now) (arc_value c.args.base.now) =
    step_same c.args.restrictions.now c.in_ok-copied.copied ∙ ap (spec.restricted (restrictions_in c.args.restrictions.now)) same in
    c.whole_step.ensures (spec.restricted (restrictions_in c.args.restrictions.now) (arc_value c.args.base.now)) (subst (λ (m : Result Derivation StepFault). Gives c.step.result m) steps c.step.ensures.exact)
