use Rattle.std.proofs.Common.{◌+◌, ◌∷◌, [], ◌++◌, drop, sym, ap, ◌∙◌, append-nil, append_assoc}
use Rattle.std.proofs.lemmas.List.{drop_all}
use Rattle.nm_validate.proofs.Steps.{one_taken}
use Rattle.nm_validate.proofs.places.first_steps.Goals as goal

pub loop-step-preserved : goal.loop-step-preserved
loop-step-preserved c =
    let steps = c.args.steps.now in
    let copies = c.loop-step.copies.items in
    let i = c.loop-step.step-index in
    let step = c.step-item.result in
    let left = drop (i + 1) steps in
    ap (λ ss. ss ++ left) (c.in_ok-push.ensures.items ∙ ap (λ s. copies ++ s ∷ []) c.in_ok-copy.ensures)
    ∙ append_assoc copies (step ∷ []) left
    ∙ ap (λ ss. copies ++ ss) (sym (one_taken steps i step c.loop-step-test.true c.step-item.is))
    ∙ c.loop-step.invariant

pub returns : goal.returns
returns c =
    let copies = c.loop-step.copies.items in
    sym (append-nil copies) ∙ ap (λ ss. copies ++ ss) (sym (drop_all c.loop-step.step-index c.args.steps.now c.loop-step-test.false)) ∙ c.loop-step.invariant
