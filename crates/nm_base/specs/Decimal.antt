-- Decimals (this project's own): digits without a sign and without a leading zero, `0` itself a spelling.
use Rattle.std.specs.Prelude.{ℕ, ◌+◌, ◌-◌, ◌*◌, ◌^◌, List, [], ◌∷◌, ◌&&◌, ◌==◌, nat_lt, if◌then◌else◌, Option, Some, None}
use Rattle.std.specs.Char.{is_ascii_digit}

-- the number below 2 ^ 64 that more digits make of n
abbrev pub digits_after : ℕ → List ℕ → Option ℕ
digits_after n [] = Some n
digits_after n (b ∷ bs) = if is_ascii_digit b && nat_lt (n * 10 + (b - 48)) (2 ^ 64) then digits_after (n * 10 + (b - 48)) bs else None

-- the number below 2 ^ 64 that a text spells: one or more digits, of which the first is 0 only where it is alone
unfoldable pub number_of : List ℕ → Option ℕ
number_of [] = None
number_of (b ∷ []) = digits_after 0 (b ∷ [])
number_of (b ∷ c ∷ bs) = if b == 48 then None else digits_after 0 (b ∷ c ∷ bs)
