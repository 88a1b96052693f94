use Rattle.std.proofs.Common.{◌≡◌, ◌∙◌, ◌++◌, ◌∷◌, [], List, Option, Some, None, slice_index_or, ap, sym, arith}
use Rattle.std.proofs.lemmas.List.{replicate_more}
use Rattle.nm_types.specs.LeafType.{TypeOfLeaf}
use Rattle.nm_schema_leafref.proofs.Lists.{one_value}
use Rattle.nm_schema_leafref.proofs.types.none_kept.Goals as goal

none_some : {X : Type 0} (x : X) → None ≡ Some x → ⊥
none_some x e = grind arith

pub loop-preserved : goal.loop-preserved
loop-preserved c = c.in_ok-push.ensures.items ∙ ap (λ (l : List (Option TypeOfLeaf)). l ++ None ∷ []) c.loop.invariant ∙ replicate_more c.loop.counter None

pub returns : goal.returns
returns c = λ meanings i t is.
    let none : slice_index_or c.loop.kept.items i None ≡ None = ap (λ (l : List (Option TypeOfLeaf)). slice_index_or l i None) c.loop.invariant ∙ one_value c.loop.counter i None in
    absurd (none_some t (sym none ∙ is))
