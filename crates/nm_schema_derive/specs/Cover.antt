-- Which parts are within others.
use Rattle.std.specs.Prelude.{ℤ, pos, ◌+ℤ◌, int_le, int_lt, Bool, List, [], ◌∷◌, Any, if◌then◌else◌, Option, Some, None}
use Rattle.std.specs.Option.{is_some}
use Rattle.nm_types.specs.Limits.{IsWithin}

-- each number of a part is a number of some part of the base
abbrev pub IsInside : List (ℤ × ℤ) → ℤ × ℤ → Type 0
IsInside base part = (n : ℤ) → IsWithin n part → Any (IsWithin n) base

-- the parts from the one with the number `high` on, where they have all numbers from `low` to it
abbrev pub rest_from : List (ℤ × ℤ) → ℤ → ℤ → Option (List (ℤ × ℤ))
rest_from [] low high = None
rest_from (p ∷ ps) low high =
    if int_lt p.1 low then rest_from ps low high else (
    if int_lt low p.0 then None else (
    if int_le high p.1 then Some (p ∷ ps) else rest_from ps (p.1 +ℤ pos 1) high))

-- whether parts have all numbers of a part, as a test
unfoldable pub is_inside : List (ℤ × ℤ) → ℤ × ℤ → Bool
is_inside base part = is_some (rest_from base part.0 part.1)
