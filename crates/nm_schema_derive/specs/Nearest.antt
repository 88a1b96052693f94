-- The nearest range or length along a derivation stands for those behind it (RFC 7950 sections 9.2.4 and 9.4.4).
use Rattle.std.specs.Prelude.{ℤ, List, [], ◌∷◌, All, Any, ⊤}
use Rattle.nm_types.specs.Limits.{IsWithin}
use Rattle.nm_schema_derive.specs.Cover.{IsInside}

-- each range along a derivation has only numbers of the one behind it; the nearest is first
abbrev pub Narrows : List (ℤ × ℤ) → List (List (ℤ × ℤ)) → Type 0
Narrows nearest [] = ⊤
Narrows nearest (next ∷ further) = All (IsInside next) nearest × Narrows next further

-- a number is in each of some ranges
abbrev pub MeetsEach : ℤ → List (List (ℤ × ℤ)) → Type 0
MeetsEach n [] = ⊤
MeetsEach n (parts ∷ further) = Any (IsWithin n) parts × MeetsEach n further
