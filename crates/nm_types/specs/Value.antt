-- The values of leafs and their order.
use Rattle.std.specs.Prelude.{ℕ, ℤ, pos, Bool, true, false, List, []}
use Rattle.std.specs.Ordering.{on, then_cmp, nat_cmp, int_cmp, eq_by_cmp}
use Rattle.std.specs.Cmp.Lexicographic.{slice_cmp}
use Rattle.std.specs.declared.cmp.Ordering.{Ordering}
use Rattle.nm_types.specs.declared.value.Value.{Value}
use Rattle.nm_types.specs.declared.value.Value.TheVariants.{Int, Decimal, Text, Name, Bits, Empty, Present, Bool as Flag}

-- the kinds of values in their order (this project's own)
abbrev pub value_rank : Value → ℕ
value_rank (Int z) = 0
value_rank (Decimal z d) = 1
value_rank (Flag b) = 2
value_rank (Text t) = 3
value_rank (Name t) = 4
value_rank (Bits t) = 5
value_rank Empty = 6
value_rank Present = 7

-- the number of a value: a decimal's is scaled, false is 0 and true 1, and what is no number has 0 (this project's own)
abbrev pub value_number : Value → ℤ
value_number (Int z) = z
value_number (Decimal z d) = z
value_number (Flag true) = pos 1
value_number (Flag false) = pos 0
value_number (Text t) = pos 0
value_number (Name t) = pos 0
value_number (Bits t) = pos 0
value_number Empty = pos 0
value_number Present = pos 0

-- how many digits a decimal has after the point (RFC 7950 section 9.3.4)
abbrev pub value_digits : Value → ℕ
value_digits (Int z) = 0
value_digits (Decimal z d) = d
value_digits (Flag b) = 0
value_digits (Text t) = 0
value_digits (Name t) = 0
value_digits (Bits t) = 0
value_digits Empty = 0
value_digits Present = 0

-- the bytes of a value that is a text, in its canonical form
abbrev pub value_text : Value → List ℕ
value_text (Int z) = []
value_text (Decimal z d) = []
value_text (Flag b) = []
value_text (Text t) = t
value_text (Name t) = t
value_text (Bits t) = t
value_text Empty = []
value_text Present = []

-- the order of values: numbers by value, false before true, others by the bytes of their canonical text, and values of two
-- kinds by kind (this project's own). Decimals with equally many digits are ordered by value; those of one type have that.
unfoldable pub value_cmp : Value → Value → Ordering
value_cmp = then_cmp (on value_rank nat_cmp) (then_cmp (on value_number int_cmp) (then_cmp (on value_digits nat_cmp) (on value_text (slice_cmp nat_cmp))))

-- what the order doesn't tell apart
abbrev pub is_same_value : Value → Value → Bool
is_same_value = eq_by_cmp value_cmp
