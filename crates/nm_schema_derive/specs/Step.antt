-- One step of a derivation: what a restriction makes of a type (RFC 7950 sections 9.2 to 9.7).
use Rattle.std.specs.Prelude.{◌≡◌, ℕ, ℤ, pos, nat_abs, List, [], ◌∷◌, if◌then◌else◌, Option, Some, None, Result, Ok, Err, ⊤}
use Rattle.std.specs.Option.{unwrap_or}
use Rattle.nm_types.specs.Limits.{is_within, i64_part}
use Rattle.nm_schema_derive.specs.declared.form.NumberForm.{NumberForm}
use Rattle.nm_schema_derive.specs.declared.form.NumberForm.TheVariants.{Integer, Decimal, Length}
use Rattle.nm_schema_derive.specs.declared.names.BuiltIn.{BuiltIn}
use Rattle.nm_schema_derive.specs.declared.names.BuiltIn.TheVariants.{Integer as AnInteger, Decimal64, Boolean, String, Enumeration, Bits, Empty, Leafref}
use Rattle.nm_schema_derive.specs.declared.members.Listed.{Listed}
use Rattle.nm_schema_derive.specs.declared.members.Member.{Member}
use Rattle.nm_schema_derive.specs.declared.members.Numbering.TheVariants.{Values, Positions}
use Rattle.nm_schema_derive.specs.declared.members.ListFault.{ListFault}
use Rattle.nm_schema_derive.specs.declared.members.ListFault.TheVariants.{Flawed, NoMemory as NoMemoryForList}
use Rattle.nm_schema_derive.specs.declared.derived.StepFault.{StepFault}
use Rattle.nm_schema_derive.specs.declared.derived.StepFault.TheVariants.{Misplaced, BadArgument, Listed as AtListed, NoMemory}
use Rattle.nm_schema_derive.specs.declared.derived.Lacking.{Lacking}
use Rattle.nm_schema_derive.specs.declared.derived.Lacking.TheVariants.{FractionDigits, Enum, Bit}
use Rattle.nm_schema_derive.specs.Built.{Built, Derivation, integer, bare_decimal, decimal, boolean, string, bare_names, names, bare_bits, bits, empty, reference}
use Rattle.nm_schema_derive.specs.Form.{number_of}
use Rattle.nm_schema_derive.specs.Parts.{parts_read}
use Rattle.nm_schema_derive.specs.Members.{members_of}

-- a built-in type, without the statements that stand in it
abbrev pub start : BuiltIn → Built
start (AnInteger low high) = integer low high
start Decimal64 = bare_decimal
start Boolean = boolean
start String = string
start Enumeration = bare_names
start Bits = bare_bits
start Empty = empty
start Leafref = reference

-- a number of fraction digits: 1 to 18 (RFC 7950 section 9.3.4)
abbrev pub digits_within : Option ℤ → Option ℕ
digits_within None = None
digits_within (Some number) = if is_within number (pos 1, pos 18) then Some (nat_abs number) else None

-- the fraction digits that a text gives (RFC 7950 section 9.3.4)
unfoldable pub digits_read : List ℕ → Option ℕ
digits_read text = digits_within (number_of Length text)

-- the range or length along a derivation that is nearest, or the type's own bounds
unfoldable pub nearest : ℤ × ℤ → Option (List (ℤ × ℤ)) → List (ℤ × ℤ)
nearest own limits = unwrap_or limits (own ∷ [])

-- the parts that a text makes of it (RFC 7950 sections 9.2.4 and 9.4.4)
abbrev pub narrowed : NumberForm → ℤ × ℤ → Option (List (ℤ × ℤ)) → List ℕ → Option (List (ℤ × ℤ))
narrowed form own limits text = parts_read form (nearest own limits) text

-- a type with a range or length, which stands for those behind it
abbrev pub limited : Derivation → Option (List (ℤ × ℤ)) → Result Derivation StepFault
limited d None = Err BadArgument
limited d (Some parts) = Ok (record { built = d.built; limits = Some parts })

-- a decimal64 with its fraction digits
abbrev pub digits_put : Derivation → Option ℕ → Result Derivation StepFault
digits_put d None = Err BadArgument
digits_put d (Some digits) = Ok (record { built = decimal digits; limits = d.limits })

-- fraction-digits stand directly in decimal64 (RFC 7950 section 9.3.4)
abbrev pub digits_on : Derivation → List ℕ → Built → Result Derivation StepFault
digits_on d text bare_decimal = digits_put d (digits_read text)
digits_on d text _ = Err Misplaced

-- a type with the fraction digits that a text says, or why they don't stand there or are wrong
abbrev pub with_digits : Derivation → List ℕ → Result Derivation StepFault
with_digits d text = digits_on d text d.built

-- integers and decimal64 have ranges (RFC 7950 sections 9.2.3 and 9.3.3)
abbrev pub range_on : Derivation → List ℕ → Built → Result Derivation StepFault
range_on d text (integer low high) = limited d (narrowed Integer (low, high) d.limits text)
range_on d text (decimal digits) = limited d (narrowed (Decimal digits) i64_part d.limits text)
range_on d text bare_decimal = Ok d
range_on d text _ = Err Misplaced

-- a type with the range that a text says, or why it doesn't stand there or is wrong
abbrev pub with_range : Derivation → List ℕ → Result Derivation StepFault
with_range d text = range_on d text d.built

-- strings have lengths (RFC 7950 section 9.4.3), from 0 to what 64 bits hold (RFC 7950 section 9.4.4)
abbrev pub length_on : Derivation → List ℕ → Built → Result Derivation StepFault
length_on d text string = limited d (narrowed Length (pos 0, pos 18446744073709551615) d.limits text)
length_on d text _ = Err Misplaced

-- a type with the length that a text says, or why it doesn't stand there or is wrong
abbrev pub with_length : Derivation → List ℕ → Result Derivation StepFault
with_length d text = length_on d text d.built

-- a fault of `enum` or `bit` statements as one of a restriction
abbrev pub step_fault : ListFault → StepFault
step_fault (Flawed at flaw) = AtListed at flaw
step_fault NoMemoryForList = NoMemory

-- the enumeration of members
abbrev pub named : Option (List (ℤ × ℤ)) → Result (List Member) ListFault → Result Derivation StepFault
named limits (Err fault) = Err (step_fault fault)
named limits (Ok members) = Ok (record { built = names members; limits = limits })

-- `enum` statements stand in an enumeration, and restrict one that has names (RFC 7950 section 9.6.4)
abbrev pub names_on : Derivation → List Listed → Built → Result Derivation StepFault
names_on d statements bare_names = named d.limits (members_of Values None statements)
names_on d statements (names base) = named d.limits (members_of Values (Some base) statements)
names_on d statements _ = Err Misplaced

-- a type with the names of `enum` statements, or why they don't stand there or which is wrong
abbrev pub with_names : Derivation → List Listed → Result Derivation StepFault
with_names d statements = names_on d statements d.built

-- the bits type of members
abbrev pub flagged : Option (List (ℤ × ℤ)) → Result (List Member) ListFault → Result Derivation StepFault
flagged limits (Err fault) = Err (step_fault fault)
flagged limits (Ok members) = Ok (record { built = bits members; limits = limits })

-- `bit` statements stand in a bits type, and restrict one that has names (RFC 7950 section 9.7.4)
abbrev pub bits_on : Derivation → List Listed → Built → Result Derivation StepFault
bits_on d statements bare_bits = flagged d.limits (members_of Positions None statements)
bits_on d statements (bits base) = flagged d.limits (members_of Positions (Some base) statements)
bits_on d statements _ = Err Misplaced

-- a type with the names of `bit` statements, or why they don't stand there or which is wrong
abbrev pub with_bits : Derivation → List Listed → Result Derivation StepFault
with_bits d statements = bits_on d statements d.built

-- what a built-in type cannot do without (RFC 7950 sections 9.3.4, 9.6.4 and 9.7.4)
abbrev pub lacking : Built → Option Lacking
lacking bare_decimal = Some FractionDigits
lacking bare_names = Some Enum
lacking bare_bits = Some Bit
lacking _ = None

-- an answer is what the step gives, unless memory ran out
abbrev pub Gives : Result Derivation StepFault → Result Derivation StepFault → Type 0
Gives (Ok d) given = given ≡ Ok d
Gives (Err Misplaced) given = given ≡ Err Misplaced
Gives (Err BadArgument) given = given ≡ Err BadArgument
Gives (Err (AtListed at flaw)) given = given ≡ Err (AtListed at flaw)
Gives (Err NoMemory) given = ⊤
