use Rattle.std.proofs.Common.{◌∙◌, ◌++◌, ◌∷◌, [], List, take, sym, ap}
use Rattle.std.proofs.lemmas.List.{take_all, take_more}
use Rattle.nm_types.specs.Path.{PathStep}
use Rattle.nm_types.proofs.path.copy_steps.Goals as goal

pub loop-step-preserved : goal.loop-step-preserved
loop-step-preserved c =
    let all = c.args.steps.now in
    let i = c.loop-step.step-index in
    c.in_ok-push.ensures.items
    ∙ ap (λ (l : List PathStep). l ++ c.in_ok-copy.field-0 ∷ []) c.loop-step.invariant
    ∙ ap (λ (x : PathStep). take i all ++ x ∷ []) (c.in_ok-copy.ensures ∙ c.step-item.is)
    ∙ sym (take_more all i c.step-item.result c.loop-step-test.true)

pub returns : goal.returns
returns c = c.loop-step.invariant ∙ take_all c.loop-step.step-index c.args.steps.now c.loop-step-test.false
