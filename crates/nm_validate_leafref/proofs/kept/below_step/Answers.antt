use Rattle.std.proofs.Common.{◌≡◌, ◌+◌, ◌∷◌, [], ◌++◌, take, sym, ap, ◌∙◌}
use Rattle.std.proofs.lemmas.List.{take_all, take_more}
use Rattle.nm_validate_leafref.proofs.kept.below_step.Goals as goal

pub loop-step-preserved : goal.loop-step-preserved
loop-step-preserved c =
    let items = c.deref-step-items.result.now in
    let i = c.loop-step.step-index in
    let step = c.step-item.result in
    let more : take (i + 1) items ≡ take i items ++ step ∷ [] = take_more items i step c.loop-step-test.true ∙ ap (λ s. take i items ++ s ∷ []) (sym c.step-item.is) in
    record {
      items = c.loop-step.invariant.items;
      copied = c.in_ok-push-2.ensures.items
          ∙ ap (λ s. c.loop-step.steps.items ++ s ∷ []) c.in_ok-copy.ensures
          ∙ ap (λ ss. ss ++ step ∷ []) c.loop-step.invariant.copied
          ∙ ap (λ ss. c.args.first ∷ ss) (sym more);
    }

pub returns : goal.returns
returns c =
    c.loop-step.invariant.copied ∙ ap (λ ss. c.args.first ∷ ss) (take_all c.loop-step.step-index c.deref-step-items.result.now c.loop-step-test.false ∙ c.loop-step.invariant.items)
