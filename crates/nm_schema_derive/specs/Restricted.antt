-- A step of a derivation with all restrictions of a `type` statement (RFC 7950 section 7.4).
use Rattle.std.specs.Prelude.{ℕ, List, [], ◌∷◌, Option, Some, None, Result, Ok, Err}
use Rattle.nm_schema_derive.specs.declared.derived.StepFault.{StepFault}
use Rattle.nm_schema_derive.specs.declared.members.Listed.{Listed}
use Rattle.nm_schema_derive.specs.declared.restrictions.Restrictions.{Restrictions}
use Rattle.nm_schema_derive.specs.Built.{Derivation}
use Rattle.nm_schema_derive.specs.Step.{with_digits, with_range, with_length, with_names, with_bits}

-- a restriction that is there is made, and without it the type stays
abbrev pub digits_if : Derivation → Option (List ℕ) → Result Derivation StepFault
digits_if d None = Ok d
digits_if d (Some text) = with_digits d text

-- a type with the range of a `range` statement, where there is one
abbrev pub range_if : Derivation → Option (List ℕ) → Result Derivation StepFault
range_if d None = Ok d
range_if d (Some text) = with_range d text

-- a type with the length of a `length` statement, where there is one
abbrev pub length_if : Derivation → Option (List ℕ) → Result Derivation StepFault
length_if d None = Ok d
length_if d (Some text) = with_length d text

-- a type with the names of `enum` statements, where there are any
abbrev pub names_if : Derivation → List Listed → Result Derivation StepFault
names_if d [] = Ok d
names_if d (s ∷ ss) = with_names d (s ∷ ss)

-- a type with the names of `bit` statements, where there are any
abbrev pub bits_if : Derivation → List Listed → Result Derivation StepFault
bits_if d [] = Ok d
bits_if d (s ∷ ss) = with_bits d (s ∷ ss)

-- one restriction after the other, and a fault stays
abbrev pub then_bits : Restrictions → Result Derivation StepFault → Result Derivation StepFault
then_bits r (Err fault) = Err fault
then_bits r (Ok d) = bits_if d r.bits.items

-- after the length: the names of an enumeration, then bits
abbrev pub then_names : Restrictions → Result Derivation StepFault → Result Derivation StepFault
then_names r (Err fault) = Err fault
then_names r (Ok d) = then_bits r (names_if d r.names.items)

-- after the range: the length, then names and bits
abbrev pub then_length : Restrictions → Result Derivation StepFault → Result Derivation StepFault
then_length r (Err fault) = Err fault
then_length r (Ok d) = then_names r (length_if d r.length)

-- after fraction digits: the range, then all that follows it
abbrev pub then_range : Restrictions → Result Derivation StepFault → Result Derivation StepFault
then_range r (Err fault) = Err fault
then_range r (Ok d) = then_length r (range_if d r.range)

-- the type that a `type` statement makes of the one that it names
abbrev pub step : Derivation → Restrictions → Result Derivation StepFault
step d r = then_range r (digits_if d r.digits)
