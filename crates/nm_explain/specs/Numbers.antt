-- The numbers that a type has, in words (this project's own).
use Rattle.std.specs.Prelude.{ℕ, ℤ, pos, List, [], ◌∷◌, ◌++◌, codes, if◌then◌else◌}
use Rattle.std.specs.Ordering.{int_eq}
use Rattle.nm_types.specs.declared.value.Value.{Value}
use Rattle.nm_types.specs.declared.value.Value.TheVariants.{Int, Decimal}
use Rattle.nm_types.specs.Canonical.{canonical}
use Rattle.nm_types.specs.Limits.{is_within, i64_part}
use Rattle.nm_explain.specs.declared.numbers.Numbers.{Numbers}
use Rattle.nm_explain.specs.declared.numbers.Numbers.TheVariants.{Whole, Scaled, Length}

-- the value that a number of a type stands for: a scaled one has its point before so many digits (RFC 7950 section 9.3.4)
abbrev pub value_of : Numbers → ℤ → Value
value_of (Scaled digits) z = if is_within z i64_part then Decimal z digits else Int z
value_of Whole z = Int z
value_of Length z = Int z

-- a number of a type, as a value of it is spelled
abbrev pub number_text : Numbers → ℤ → List ℕ
number_text numbers z = canonical (value_of numbers z)

-- two numbers of a type as the ends of a part
abbrev pub ends_text : Numbers → ℤ → ℤ → List ℕ
ends_text numbers low high = number_text numbers low ++ codes " to " ++ number_text numbers high

-- the numbers from one to another, where there are more than one. The highest length says that there is no bound (RFC 7950 section 9.4.4)
abbrev pub span_text : Numbers → ℤ → ℤ → List ℕ
span_text Length low high =
    if int_eq high (pos 18446744073709551615) then number_text Length low ++ codes " or more" else ends_text Length low high
span_text Whole low high = codes "from " ++ ends_text Whole low high
span_text (Scaled digits) low high = codes "from " ++ ends_text (Scaled digits) low high

-- a part of a range or a length: one number or more
abbrev pub part_text : Numbers → ℤ × ℤ → List ℕ
part_text numbers part = if int_eq part.0 part.1 then number_text numbers part.0 else span_text numbers part.0 part.1

-- the parts behind the first
abbrev pub others_text : Numbers → List (ℤ × ℤ) → List ℕ
others_text numbers [] = []
others_text numbers (part ∷ parts) = codes " or " ++ part_text numbers part ++ others_text numbers parts

-- the parts of a range or a length (RFC 7950 sections 9.2.4 and 9.4.4)
abbrev pub parts_text : Numbers → List (ℤ × ℤ) → List ℕ
parts_text numbers [] = []
parts_text numbers (part ∷ parts) = part_text numbers part ++ others_text numbers parts
