-- The names and the numbers of enumerations and of bits (RFC 7950 sections 9.6.4 and 9.7.4).
use Rattle.std.specs.Prelude.{◌≡◌, ℕ, ℤ, pos, negsuc, ◌+ℤ◌, Bool, true, List, [], ◌∷◌, ◌++◌, length, fold, if◌then◌else◌, Option, Some, None, is_some, Result, Ok, Err, ⊤}
use Rattle.std.specs.Int.{int_max}
use Rattle.std.specs.List.{list_any}
use Rattle.std.specs.Ordering.{int_eq}
use Rattle.std.specs.Str.{bytes_eq}
use Rattle.nm_types.specs.Limits.{is_within}
use Rattle.nm_schema_derive.specs.declared.form.NumberForm.{NumberForm}
use Rattle.nm_schema_derive.specs.declared.form.NumberForm.TheVariants.{Integer, Length}
use Rattle.nm_schema_derive.specs.declared.members.Listed.{Listed}
use Rattle.nm_schema_derive.specs.declared.members.Member.{Member}
use Rattle.nm_schema_derive.specs.declared.members.Numbering.{Numbering}
use Rattle.nm_schema_derive.specs.declared.members.Numbering.TheVariants.{Values, Positions}
use Rattle.nm_schema_derive.specs.declared.members.ListFlaw.{ListFlaw}
use Rattle.nm_schema_derive.specs.declared.members.ListFlaw.TheVariants.{NameRepeated, BadNumber, NumberRepeated, NoNumberLeft, NotInBase, OtherThanBase}
use Rattle.nm_schema_derive.specs.declared.members.ListFault.{ListFault}
use Rattle.nm_schema_derive.specs.declared.members.ListFault.TheVariants.{Flawed, NoMemory}
use Rattle.nm_schema_derive.specs.Form.{number_of}

-- values are integers, positions have no sign (RFC 7950 section 14, integer-value-arg and position-value-arg)
abbrev pub form_of : Numbering → NumberForm
form_of Values = Integer
form_of Positions = Length

-- the lowest and the highest value or position (RFC 7950 sections 9.6.4.2 and 9.7.4.2)
abbrev pub limits_of : Numbering → ℤ × ℤ
limits_of Values = (negsuc 2147483647, pos 2147483647)
limits_of Positions = (pos 0, pos 4294967295)

-- a number that is within some limits
unfoldable pub between : ℤ × ℤ → ℤ → Option ℤ
between limits number = if is_within number limits then Some number else None

-- a number that is within the limits of a numbering
abbrev pub within : Numbering → ℤ → Option ℤ
within numbering number = between (limits_of numbering) number

-- a number within the limits, if it is there
abbrev pub within_if : Numbering → Option ℤ → Option ℤ
within_if numbering None = None
within_if numbering (Some number) = within numbering number

-- the number that the argument of a value or a position gives
unfoldable pub given_number : Numbering → List ℕ → Option ℤ
given_number numbering text = within_if numbering (number_of (form_of numbering) text)

-- the number of a name among members; of two with it the later one's
abbrev pub later_number : List ℕ → Option ℤ → Member → Option ℤ
later_number name found member = if bytes_eq member.name name then Some member.number else found

-- the number of a name among members, the last one's where it comes twice; none where it isn't there
unfoldable pub number_in : List ℕ → List Member → Option ℤ
number_in name members = fold (later_number name) None members

-- whether a member has a number
abbrev pub is_numbered : ℤ → Member → Bool
is_numbered number member = int_eq member.number number

-- one of the members has this number
unfoldable pub has_number : ℤ → List Member → Bool
has_number number members = list_any (is_numbered number) members

-- the higher of a number and one that may be missing
abbrev pub higher : Option ℤ → ℤ → Option ℤ
higher None number = Some number
higher (Some before) number = Some (int_max before number)

-- the higher of the highest number so far and the next member's
abbrev pub higher_of : Option ℤ → Member → Option ℤ
higher_of highest member = higher highest member.number

-- the highest number of members
unfoldable pub highest_in : List Member → Option ℤ
highest_in members = fold higher_of None members

-- one above the highest number, and 0 for the first (RFC 7950 sections 9.6.4.2 and 9.7.4.2)
abbrev pub next_after : Option ℤ → ℤ
next_after None = pos 0
next_after (Some highest) = highest +ℤ pos 1

-- a number that no member before has (RFC 7950 sections 9.6.4.2 and 9.7.4.2)
abbrev pub fresh : List Member → Option ℤ → Result ℤ ListFlaw
fresh before None = Err BadNumber
fresh before (Some number) = if has_number number before then Err NumberRepeated else Ok number

-- a number that is left
abbrev pub left : Option ℤ → Result ℤ ListFlaw
left None = Err NoNumberLeft
left (Some number) = Ok number

-- the number of a statement after others, in a type that restricts no other (RFC 7950 sections 9.6.4.2 and 9.7.4.2)
abbrev pub own_number : Numbering → List Member → Option (List ℕ) → Result ℤ ListFlaw
own_number numbering before None = left (within numbering (next_after (highest_in before)))
own_number numbering before (Some text) = fresh before (given_number numbering text)

-- a given number that must be that of the base
abbrev pub same_number : ℤ → Option ℤ → Result ℤ ListFlaw
same_number base None = Err BadNumber
same_number base (Some number) = if int_eq number base then Ok base else Err OtherThanBase

-- the number of a statement whose name may have one in the type that is restricted: the same (RFC 7950 sections 9.6.4.2 and 9.7.4.2)
abbrev pub based_number : Numbering → Option ℤ → Option (List ℕ) → Result ℤ ListFlaw
based_number numbering None text = Err NotInBase
based_number numbering (Some base) None = Ok base
based_number numbering (Some base) (Some text) = same_number base (given_number numbering text)

-- the number of a statement with a name that none before it has (RFC 7950 sections 9.6.4 and 9.7.4)
abbrev pub new_number : Numbering → Option (List Member) → List Member → Listed → Result ℤ ListFlaw
new_number numbering None before listed = own_number numbering before listed.number
new_number numbering (Some base) before listed = based_number numbering (number_in listed.name base) listed.number

-- the number of a statement after others; no two may have one name (RFC 7950 sections 9.6.4 and 9.7.4)
unfoldable pub number_for : Numbering → Option (List Member) → List Member → Listed → Result ℤ ListFlaw
number_for numbering base before listed = if is_some (number_in listed.name before) then Err NameRepeated else new_number numbering base before listed

-- members and one more, or the flaw of the statement behind them
abbrev pub one_more : List Member → List ℕ → Result ℤ ListFlaw → Result (List Member) ListFault
one_more before name (Err flaw) = Err (Flawed (length before) flaw)
one_more before name (Ok number) = Ok (before ++ record { name = name; number = number } ∷ [])

-- what statements so far make, and one more statement
abbrev pub with_statement : Numbering → Option (List Member) → Result (List Member) ListFault → Listed → Result (List Member) ListFault
with_statement numbering base (Err fault) listed = Err fault
with_statement numbering base (Ok before) listed = one_more before listed.name (number_for numbering base before listed)

-- the members that statements make, alone or as a restriction of others, or the first flaw (RFC 7950 sections 9.6.4 and 9.7.4)
unfoldable pub members_of : Numbering → Option (List Member) → List Listed → Result (List Member) ListFault
members_of numbering base statements = fold (with_statement numbering base) (Ok []) statements

-- an answer is what statements make, unless memory ran out
abbrev pub Gives : Result (List Member) ListFault → Result (List Member) ListFault → Type 0
Gives (Ok members) made = made ≡ Ok members
Gives (Err (Flawed at flaw)) made = made ≡ Err (Flawed at flaw)
Gives (Err NoMemory) made = ⊤

-- a member of a bits type has a position (RFC 7950 section 9.7.4.2)
abbrev pub IsPosition : Member → Type 0
IsPosition member = is_within member.number (limits_of Positions) ≡ true

-- the name that an `enum` or a `bit` statement gives
abbrev pub listed_name : Listed → List ℕ
listed_name listed = listed.name
