use Rattle.std.proofs.Common.{◌∙◌, ◌++◌, ◌∷◌, [], List, take, sym, ap}
use Rattle.std.proofs.lemmas.List.{take_all, take_more}
use Rattle.nm_types.specs.declared.value.Value.{Value}
use Rattle.nm_types.proofs.path.copy_values.Goals as goal

pub loop-value-preserved : goal.loop-value-preserved
loop-value-preserved c =
    let all = c.args.values.now in
    let i = c.loop-value.value-index in
    c.in_ok-push.ensures.items
    ∙ ap (λ (l : List Value). l ++ c.in_ok-copy.field-0 ∷ []) c.loop-value.invariant
    ∙ ap (λ (x : Value). take i all ++ x ∷ []) (c.in_ok-copy.ensures ∙ c.value-item.is)
    ∙ sym (take_more all i c.value-item.result c.loop-value-test.true)

pub returns : goal.returns
returns c = c.loop-value.invariant ∙ take_all c.loop-value.value-index c.args.values.now c.loop-value-test.false
