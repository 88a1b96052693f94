use Rattle.std.proofs.Common.{◌∙◌, ◌++◌, ◌∷◌, [], ℕ, List, get_or, map, take, sym, ap}
use Rattle.std.proofs.lemmas.List.{map-append, take_all, take_more}
use Rattle.nm_schema_uses.specs.Arguments.{argument_at}
use Rattle.nm_schema.specs.Choices.{module_names}
use Rattle.nm_schema.proofs.node.module_names.Goals as goal

pub loop-root-preserved : goal.loop-root-preserved
loop-root-preserved c =
    let name = argument_at c.args.rows.now in
    let roots = c.roots-root-items.result.now in
    let i = c.loop-root.root-index in
    c.in_ok-push.ensures.items
    ∙ ap (λ (l : List (List ℕ)). l ++ c.in_ok-argument_at.field-0 ∷ []) c.loop-root.invariant
    ∙ ap (λ (text : List ℕ). map name (take i roots) ++ text ∷ []) c.in_ok-argument_at.ensures
    ∙ sym (ap (map name) (take_more roots i 0 c.loop-root-test.true) ∙ map-append name (take i roots) (get_or roots i 0 ∷ []))

pub returns : goal.returns
unfolding module_names
returns c =
    let name = argument_at c.args.rows.now in
    c.loop-root.invariant ∙ ap (map name) (take_all c.loop-root.root-index c.roots-root-items.result.now c.loop-root-test.false ∙ c.roots-root-items.ensures)
