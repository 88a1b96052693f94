use Rattle.std.proofs.Common.{◌≡◌, ◌+◌, ◌-◌, ◌∷◌, [], ◌++◌, length, take, drop, sym, ap, ◌∙◌, arith, append-nil, append_assoc}
use Rattle.std.proofs.lemmas.List.{drop_all, drop_more, take_rest}
use Rattle.nm_json.specs.Places.{printed, printed_at_top}
use Rattle.nm_json.proofs.gathered.printed.Goals as goal

pub loop-step-init : goal.loop-step-init
loop-step-init c =
    let steps = c.args.steps.now in
    let first = c.first-item.result in
    let rest = take (length steps - 1) (drop 1 steps) in
    let steps_are : steps ≡ first ∷ drop 1 steps = drop_more steps 0 first (omega (arith, c.in-len1-up.len_at_least)) ∙ ap (λ s. s ∷ drop 1 steps) (sym c.first-item.is) in
    ap (λ ss. ss ++ rest) (c.in_ok-push.ensures.items ∙ ap (λ ss. ss ++ c.in_ok-printed_at_top.field-0 ∷ []) c.new-all.ensures.items ∙ ap (λ s. s ∷ []) c.in_ok-printed_at_top.ensures)
    ∙ ap (λ ss. printed_at_top first ∷ ss) (take_rest steps 1)
    ∙ ap printed (sym steps_are)

pub loop-step-preserved : goal.loop-step-preserved
loop-step-preserved c =
    let all = c.loop-step.all.items in
    let rest = take (length c.args.steps.now - 1) (drop 1 c.args.steps.now) in
    let i = c.loop-step.step-index in
    let step = c.step-item.result in
    let left = drop (i + 1) rest in
    ap (λ ss. ss ++ left) (c.in_ok-push-2.ensures.items ∙ ap (λ s. all ++ s ∷ []) c.in_ok-copy.ensures)
    ∙ append_assoc all (step ∷ []) left
    ∙ ap (λ ss. all ++ ss) (sym (drop_more rest i step c.loop-step-test.true ∙ ap (λ s. s ∷ left) (sym c.step-item.is)))
    ∙ c.loop-step.invariant

pub returns : goal.returns
returns c =
    let all = c.loop-step.all.items in
    let rest = take (length c.args.steps.now - 1) (drop 1 c.args.steps.now) in
    sym (append-nil all) ∙ ap (λ ss. all ++ ss) (sym (drop_all c.loop-step.step-index rest c.loop-step-test.false)) ∙ c.loop-step.invariant
