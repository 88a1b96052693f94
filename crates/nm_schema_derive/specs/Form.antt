-- Numbers as ranges, lengths, values and positions spell them (RFC 7950 section 14).
use Rattle.std.specs.Prelude.{ℕ, ◌-◌, ◌*◌, ◌^◌, zero, suc, ℤ, pos, neg_ℤ, Bool, true, false, List, [], ◌∷◌, length, nat_lt, ◌==◌, if◌then◌else◌, Option, Some, None, option_map}
use Rattle.std.specs.List.{position_or_len, before_first, after_first}
use Rattle.nm_base.specs.Decimal.{digits_after, number_of as digits_of}
use Rattle.nm_schema_derive.specs.declared.form.NumberForm.{NumberForm}
use Rattle.nm_schema_derive.specs.declared.form.NumberForm.TheVariants.{Integer, Decimal, Length}

-- a number with its digits moved to the left by some places, where that is below 2 ^ 64
abbrev pub moved : ℕ → ℕ → Option ℕ
moved zero n = Some n
moved (suc places) n = if nat_lt (n * 10) (2 ^ 64) then moved places (n * 10) else None

-- the same of a number that may be missing
abbrev pub moved_if : ℕ → Option ℕ → Option ℕ
moved_if places None = None
moved_if places (Some n) = moved places n

-- a number with more digits behind it, if it is there
abbrev pub behind : List ℕ → Option ℕ → Option ℕ
behind part None = None
behind part (Some whole) = digits_after whole part

-- one to so many digits stand behind the point
abbrev pub fits_point : ℕ → List ℕ → Bool
fits_point digits [] = false
fits_point digits (b ∷ bs) = nat_lt (length bs) digits

-- the scaled value of whole digits and those behind the point: zeros fill up the fraction digits (RFC 7950 sections 9.3.1 and 9.3.4)
unfoldable pub pointed_of : ℕ → List ℕ → List ℕ → Option ℕ
pointed_of digits whole part = if fits_point digits part then moved_if (digits - length part) (behind part (digits_of whole)) else None

-- the byte `.`
abbrev pub is_point : ℕ → Bool
is_point b = b == 46

-- the scaled value of a decimal-value without its sign (RFC 7950 section 14); there are at most 18 fraction digits (RFC 7950 section 9.3.4)
unfoldable pub scaled_of : ℕ → List ℕ → Option ℕ
scaled_of digits text =
    if nat_lt 18 digits then None else (
    if nat_lt (position_or_len is_point text) (length text)
    then pointed_of digits (before_first is_point text) (after_first is_point text)
    else moved_if digits (digits_of text))

-- the magnitude that a text without its sign spells: digits without a leading zero (RFC 7950 section 14, non-negative-integer-value), or a decimal
abbrev pub magnitude_of : NumberForm → List ℕ → Option ℕ
magnitude_of Integer text = digits_of text
magnitude_of (Decimal digits) text = scaled_of digits text
magnitude_of Length text = digits_of text

-- lengths and positions have no sign (RFC 7950 section 14)
abbrev pub may_be_signed : NumberForm → Bool
may_be_signed Integer = true
may_be_signed (Decimal digits) = true
may_be_signed Length = false

-- a number with a minus sign before it
abbrev pub negated : ℕ → ℤ
negated magnitude = neg_ℤ (pos magnitude)

-- a magnitude behind a minus sign
unfoldable pub signed_of : NumberForm → List ℕ → Option ℤ
signed_of form rest = if may_be_signed form then option_map negated (magnitude_of form rest) else None

-- a magnitude without a sign
unfoldable pub unsigned_of : NumberForm → List ℕ → Option ℤ
unsigned_of form text = option_map pos (magnitude_of form text)

-- the number that a text spells (RFC 7950 section 14, integer-value, decimal-value and non-negative-integer-value)
abbrev pub number_of : NumberForm → List ℕ → Option ℤ
number_of form [] = None
number_of form (b ∷ bs) = if b == 45 then signed_of form bs else unsigned_of form (b ∷ bs)
