-- Parts of ranges and lengths that ascend, and where numbers are in them.
use Rattle.std.specs.Prelude.{ℕ, ℤ, int_le, int_lt, Bool, true, not, ◌&&◌, List, [], ◌∷◌}
use Rattle.std.specs.List.{position_or_len}

-- the first of some parts begins above a number
abbrev pub begins_above : ℤ → List (ℤ × ℤ) → Bool
begins_above n [] = true
begins_above n (p ∷ ps) = int_lt n p.0

-- each part ends at or above its beginning, and begins above the end of the part before (RFC 7950 sections 9.2.4 and 9.4.4)
abbrev pub is_ascending : List (ℤ × ℤ) → Bool
is_ascending [] = true
is_ascending (p ∷ ps) = int_le p.0 p.1 && begins_above p.1 ps && is_ascending ps

-- whether a part ends at or above a number
abbrev pub reaches : ℤ → ℤ × ℤ → Bool
reaches z part = not (int_lt part.1 z)

-- the place of the first part that ends at or above a number, and how many parts there are where none does
unfoldable pub place_of : List (ℤ × ℤ) → ℤ → ℕ
place_of parts z = position_or_len (reaches z) parts
