-- The canonical text of a value.
use Rattle.std.specs.Prelude.{ℕ, ◌+◌, ◌-◌, ◌==◌, ℤ, pos, true, false, List, [], ◌∷◌, ◌++◌, take, drop, length, replicate, codes, int_lt, unsigned_abs, if◌then◌else◌, FitsSigned, ⊤}
use Rattle.std.specs.Int.{w64, w128}
use Rattle.std.specs.Fmt.{decimal, signed_decimal}
use Rattle.nm_types.specs.declared.value.Value.{Value}
use Rattle.nm_types.specs.declared.value.Value.TheVariants.{Int, Decimal, Text, Name, Bits, Empty, Present, Bool as Flag}

-- a minus sign before what is below zero, and no sign before anything else (RFC 7950 sections 9.2.2 and 9.3.2)
abbrev pub minus : ℤ → List ℕ
minus z = if int_lt z (pos 0) then 45 ∷ [] else []

-- the decimal digits of a number, with zeros before them up to one more than the fraction digits
abbrev pub padded : ℕ → ℕ → List ℕ
padded digits m = replicate (digits + 1 - length (decimal m)) 48 ++ decimal m

-- a digit before others from which the zeros at the end were taken
abbrev pub digit_before : ℕ → List ℕ → List ℕ
digit_before d [] = if d == 48 then [] else d ∷ []
digit_before d (e ∷ es) = d ∷ e ∷ es

-- digits without the zeros at their end
unfoldable pub shortened : List ℕ → List ℕ
shortened [] = []
shortened (d ∷ ds) = digit_before d (shortened ds)

-- at least one digit
abbrev pub at_least_one : List ℕ → List ℕ
at_least_one [] = 48 ∷ []
at_least_one (d ∷ ds) = d ∷ ds

-- the digits before the point
abbrev pub whole_digits : ℕ → ℕ → List ℕ
whole_digits digits m = take (length (padded digits m) - digits) (padded digits m)

-- the digits behind the point
abbrev pub part_digits : ℕ → ℕ → List ℕ
part_digits digits m = drop (length (padded digits m) - digits) (padded digits m)

-- a decimal with a point, at least one digit before and behind it, and no further zeros at either end (RFC 7950 section 9.3.2)
unfoldable pub decimal_text : ℤ → ℕ → List ℕ
decimal_text z digits = minus z ++ whole_digits digits (unsigned_abs z) ++ 46 ∷ at_least_one (shortened (part_digits digits (unsigned_abs z)))

-- the canonical text of a value (RFC 7950 sections 9.2.2, 9.3.2, 9.4.2, 9.5.2, 9.6.2, 9.7.2 and 9.11.2)
unfoldable pub canonical : Value → List ℕ
canonical (Int z) = signed_decimal z
canonical (Decimal z digits) = decimal_text z digits
canonical (Flag true) = codes "true"
canonical (Flag false) = codes "false"
canonical (Text t) = t
canonical (Name t) = t
canonical (Bits t) = t
canonical Empty = []
canonical Present = []

-- a number is one that a `Value` holds
abbrev pub IsHeld : Value → Type 0
IsHeld (Int z) = FitsSigned w128 z
IsHeld (Decimal z digits) = FitsSigned w64 z
IsHeld _ = ⊤
