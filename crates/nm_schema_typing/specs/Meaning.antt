-- What types mean (RFC 7950 sections 7.3, 7.4 and 9).
use Rattle.std.specs.Prelude.{ℕ, Bool, true, false, ◌&&◌, List, [], ◌∷◌, Option, Some, None, is_none, Result, Ok, Err, if◌then◌else◌, slice_get}
use Rattle.nm_schema_statements.specs.declared.row.Row.{Row}
use Rattle.nm_schema_statements.specs.declared.word.Word.TheVariants as word
use Rattle.nm_schema_statements.specs.Rows.{first_below}
use Rattle.nm_schema_statements.specs.Flaw.{text_of}
use Rattle.nm_schema_derive.specs.declared.names.BuiltIn.{BuiltIn}
use Rattle.nm_schema_derive.specs.declared.names.BuiltIn.TheVariants.{Leafref}
use Rattle.nm_schema_derive.specs.declared.members.Listed.{Listed}
use Rattle.nm_schema_derive.specs.declared.derived.StepFault.{StepFault}
use Rattle.nm_schema_derive.specs.BuiltIn.{built_in_of}
use Rattle.nm_schema_derive.specs.Built.{Derivation}
use Rattle.nm_schema_derive.specs.Step.{start, lacking}
use Rattle.nm_schema_derive.specs.Restricted.{digits_if, range_if, length_if, names_if, bits_if}
use Rattle.nm_schema_typing.specs.Leafref.{path_read}
use Rattle.nm_schema_typing.specs.Restricting.{TypeRestrictions, restrictions_of, argument_at}
use Rattle.nm_schema_typing.specs.TypeGraph.{is_typed, is_type}

-- a type of its own, or a leafref by the row of its `path` statement
pub data Meaning : Type 0 where
  plain : Derivation → Meaning
  reference : ℕ → Meaning

-- the type, where it is no leafref
abbrev pub derivation_of : Meaning → Option Derivation
derivation_of (plain d) = Some d
derivation_of (reference p) = None

-- the row of a leafref's `path` statement
abbrev pub path_of : Meaning → Option ℕ
path_of (plain d) = None
path_of (reference p) = Some p

-- ---- one step of a derivation with the restrictions of a `type` statement (RFC 7950 section 7.4)

-- one restriction after the other: fraction digits, range, length, names, bits; a fault stays
abbrev pub then_bits : TypeRestrictions → Result Derivation StepFault → Result Derivation StepFault
then_bits r (Err fault) = Err fault
then_bits r (Ok d) = bits_if d r.bits

-- after the length: the names of an enumeration, then bits
abbrev pub then_names : TypeRestrictions → Result Derivation StepFault → Result Derivation StepFault
then_names r (Err fault) = Err fault
then_names r (Ok d) = then_bits r (names_if d r.names)

-- after the range: the length, then names and bits
abbrev pub then_length : TypeRestrictions → Result Derivation StepFault → Result Derivation StepFault
then_length r (Err fault) = Err fault
then_length r (Ok d) = then_names r (length_if d r.length)

-- after fraction digits: the range, then all that follows it
abbrev pub then_range : TypeRestrictions → Result Derivation StepFault → Result Derivation StepFault
then_range r (Err fault) = Err fault
then_range r (Ok d) = then_length r (range_if d r.range)

-- the type that restrictions make of another, or the fault of the first that is refused
unfoldable pub restricted : TypeRestrictions → Derivation → Result Derivation StepFault
restricted r d = then_range r (digits_if d r.digits)

-- ---- the meaning of a `type` statement

-- no `enum` or `bit` statement is given
abbrev pub has_no : List Listed → Bool
has_no [] = true
has_no (s ∷ ss) = false

-- nothing is restricted
abbrev pub is_unrestricted : TypeRestrictions → Bool
is_unrestricted r = is_none r.digits && is_none r.range && is_none r.length && has_no r.names && has_no r.bits

-- a type that lacks nothing (RFC 7950 sections 9.3.4, 9.6.4 and 9.7.4)
abbrev pub whole_of : Derivation → Option Meaning
whole_of d = if is_none (lacking d.built) then Some (plain d) else None

-- the meaning of a type that was restricted, where no restriction was refused and nothing is lacking
abbrev pub whole : Result Derivation StepFault → Option Meaning
whole (Err fault) = None
whole (Ok d) = whole_of d

-- a type that is no leafref, as the `type` statement of row i restricts it; `path` has no place there (RFC 7950 section 9.9.2)
unfoldable pub restricted_at : List Row → ℕ → Derivation → Option Meaning
restricted_at rows i d = if is_none (first_below rows i word.Path) then whole (restricted (restrictions_of rows i) d) else None

-- whether the argument of a row is a path (RFC 7950 section 9.9.2)
abbrev pub is_present : {X : Type 0} → Option X → Bool
is_present None = false
is_present (Some x) = true

-- row p is a path that can be read
unfoldable pub is_path : List Row → ℕ → Bool
is_path rows p = is_present (path_read (text_of (argument_at rows (Some p))))

-- a leafref by its `path` statement, where there is one that can be read
abbrev pub leads_to : List Row → Option ℕ → Option Meaning
leads_to rows None = None
leads_to rows (Some p) = if is_path rows p then Some (reference p) else None

-- a leafref with its path and no restriction (RFC 7950 section 9.9)
unfoldable pub leafref_at : List Row → ℕ → Option Meaning
leafref_at rows i = if is_unrestricted (restrictions_of rows i) then leads_to rows (first_below rows i word.Path) else None

-- a type that leads to a leafref, which holds no restriction and no path of its own (this project's own)
unfoldable pub kept_at : List Row → ℕ → ℕ → Option Meaning
kept_at rows i p = if is_none (first_below rows i word.Path) then (if is_unrestricted (restrictions_of rows i) then Some (reference p) else None) else None

-- a type of that meaning, as row i restricts it
abbrev pub narrowed_at : List Row → ℕ → Meaning → Option Meaning
narrowed_at rows i (plain d) = restricted_at rows i d
narrowed_at rows i (reference p) = kept_at rows i p

-- the built-in type `leafref`
abbrev pub is_leafref : BuiltIn → Bool
is_leafref Leafref = true
is_leafref _ = false

-- a built-in type, before any restriction
abbrev pub bare : BuiltIn → Derivation
bare b = record { built = start b; limits = None }

-- the meaning of row i where it restricts a built-in type
abbrev pub built_in_at : List Row → ℕ → Option BuiltIn → Option Meaning
built_in_at rows i None = None
built_in_at rows i (Some b) = if is_leafref b then leafref_at rows i else restricted_at rows i (bare b)

-- the built-in type of a name, where there is a name
abbrev pub named_built_in : Option (List ℕ) → Option BuiltIn
named_built_in None = None
named_built_in (Some name) = built_in_of name

-- the built-in type that row i names (RFC 7950 section 4.2.4)
unfoldable pub built_in_named : List Row → ℕ → Option BuiltIn
built_in_named rows i = named_built_in (argument_at rows (Some i))

-- the meaning of the `type` statement of row i, by that of the typedef that it names, or by its built-in type
abbrev pub type_meaning : List Row → ℕ → Option Meaning → Option Meaning
type_meaning rows i None = built_in_at rows i (built_in_named rows i)
type_meaning rows i (Some base) = narrowed_at rows i base

-- the meaning of a row, from that of the row that it leads to: a leaf's or typedef's is that of its type
abbrev pub meaning_from : List Row → ℕ → Option Meaning → Option Row → Option Meaning
meaning_from rows i base None = None
meaning_from rows i base (Some r) = if is_typed r.word then base else (if is_type r.word then type_meaning rows i base else None)

-- the meaning of row i, by that of the row that it leads to
unfoldable pub meaning_at : List Row → ℕ → Option Meaning → Option Meaning
meaning_at rows i base = meaning_from rows i base (slice_get rows i)

-- the meaning of the first row that it leads to, where there is one
abbrev pub first_known : List Meaning → Option Meaning
first_known [] = None
first_known (meaning ∷ meanings) = Some meaning

-- the meaning of row i, by those of the rows that it leads to
abbrev pub meaning_step : List Row → ℕ → List Meaning → Option Meaning
meaning_step rows i known = meaning_at rows i (first_known known)
