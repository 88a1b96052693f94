-- The nearest range stands for those behind it.
use Rattle.std.proofs.Common.{ℤ, List, [], ◌∷◌, subst}
use Rattle.std.specs.Prelude.{All, Any}
use Rattle.nm_types.specs.Limits.{IsWithin}
use Rattle.nm_schema_derive.specs.Cover.{IsInside}
use Rattle.nm_schema_derive.specs.Nearest.{Narrows, MeetsEach}

-- a number of a range is one of a range that it is inside of
meets_next : (n : ℤ) (nearest next : List (ℤ × ℤ)) → All (IsInside next) nearest → Any (IsWithin n) nearest → Any (IsWithin n) next
meets_next n nearest next inside any = subst (λ (part : ℤ × ℤ). IsInside next part) any.3 (inside any.0 any.1 any.2) n any.4

pub meets_all : (n : ℤ) (nearest : List (ℤ × ℤ)) (further : List (List (ℤ × ℤ))) → Narrows nearest further → Any (IsWithin n) nearest → MeetsEach n further
meets_all n nearest [] narrows any = tt
meets_all n nearest (next ∷ further) narrows any =
    let here = meets_next n nearest next narrows.0 any in
    (here, meets_all n next further narrows.1 here)
