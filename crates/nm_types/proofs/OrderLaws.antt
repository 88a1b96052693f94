-- A node before what is below it, and one value of a text.
use Rattle.std.proofs.Common.{◌≡◌, ℕ, List, [], ◌∷◌, ◌++◌, map, ap, refl, ◌∙◌}
use Rattle.std.specs.Ordering.{ordering_then}
use Rattle.std.specs.Cmp.Lexicographic.{slice_cmp}
use Rattle.std.specs.declared.cmp.Ordering.{Ordering}
use Rattle.std.specs.declared.cmp.Ordering.TheVariants.{Less}
use Rattle.nm_types.specs.declared.value.Value.{Value}
use Rattle.nm_types.specs.LeafType.{Kind}
use Rattle.nm_types.specs.Spells.{SpellsValue}
use Rattle.nm_types.specs.Path.{PathStep, PrintedStep, at_top, below_top, printed_cmp, path_cmp}
use Rattle.nm_types.specs.PathLaws.{printed_cmp-same}
use Rattle.nm_types.proofs.Readings.{spelled-complete}

front-first : (xs ys : List PrintedStep) (y : PrintedStep) → slice_cmp printed_cmp xs (xs ++ y ∷ ys) ≡ Less
front-first [] ys y = refl
front-first (x ∷ xs) ys y = ap (λ (o : Ordering). ordering_then o (slice_cmp printed_cmp xs (xs ++ y ∷ ys))) (printed_cmp-same x) ∙ front-first xs ys y

below-append : (ss ts : List PathStep) → map below_top (ss ++ ts) ≡ map below_top ss ++ map below_top ts
below-append [] ts = refl
below-append (s ∷ ss) ts = ap (λ (l : List PrintedStep). below_top s ∷ l) (below-append ss ts)

-- a node stands before what is below it
pub path_cmp-prefix : (ss : List PathStep) (t : PathStep) (ts : List PathStep) → path_cmp ss (ss ++ t ∷ ts) ≡ Less
unfolding path_cmp
path_cmp-prefix [] t ts = refl
path_cmp-prefix (s ∷ ss) t ts =
    ap (λ (o : Ordering). ordering_then o (slice_cmp printed_cmp (map below_top ss) (map below_top (ss ++ t ∷ ts)))) (printed_cmp-same (at_top s))
    ∙ ap (slice_cmp printed_cmp (map below_top ss)) (below-append ss (t ∷ ts))
    ∙ front-first (map below_top ss) (map below_top ts) (below_top t)

-- a text spells one value at most
pub spells-one : (k : Kind) (text : List ℕ) (v w : Value) → SpellsValue k text v → SpellsValue k text w → v ≡ w
spells-one k text v w s u = let a = spelled-complete k text v s in let b = spelled-complete k text w u in cc
