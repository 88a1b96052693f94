-- What is wrong with the restrictions of types (RFC 7950 sections 7.4 and 9).
use Rattle.std.specs.Prelude.{◌≡◌, ℕ, Bool, true, false, List, [], ◌∷◌, Option, Some, None, option_map, is_none, Result, Ok, Err, if◌then◌else◌, slice_get, slice_index_or}
use Rattle.nm_schema_statements.specs.declared.row.Row.{Row}
use Rattle.nm_schema_statements.specs.declared.flaw.Flaw.{Flaw}
use Rattle.nm_schema_statements.specs.declared.flaw.Flaw.TheVariants as flaw
use Rattle.nm_schema_statements.specs.declared.word.Word.{Word}
use Rattle.nm_schema_statements.specs.declared.word.Word.TheVariants as word
use Rattle.nm_schema_statements.specs.Word.{word_text}
use Rattle.nm_schema_statements.specs.Rows.{has_word, first_below}
use Rattle.nm_schema_derive.specs.declared.names.BuiltIn.{BuiltIn}
use Rattle.nm_schema_derive.specs.declared.names.BuiltIn.TheVariants.{Leafref}
use Rattle.nm_schema_derive.specs.declared.derived.StepFault.{StepFault}
use Rattle.nm_schema_derive.specs.declared.derived.StepFault.TheVariants.{Misplaced, BadArgument, Listed as AtListed, NoMemory}
use Rattle.nm_schema_derive.specs.declared.derived.Lacking.{Lacking}
use Rattle.nm_schema_derive.specs.declared.derived.Lacking.TheVariants.{FractionDigits, Enum, Bit}
use Rattle.nm_schema_derive.specs.Built.{Derivation}
use Rattle.nm_schema_derive.specs.Step.{lacking, with_range, with_length, with_digits}
use Rattle.nm_schema_derive.specs.Restricted.{digits_if}
use Rattle.nm_schema_typing.specs.Leafref.{LeafrefPath, path_read, has_predicate}
use Rattle.nm_schema_typing.specs.Restricting.{argument_below}
use Rattle.nm_schema_typing.specs.TypeGraph.{named_typedef}
use Rattle.nm_schema_typing.specs.Meaning.{Meaning, plain, reference, is_leafref, bare, built_in_named}
use Rattle.nm_schema_typing.specs.Along.{meaning_of}

-- the meanings of all rows, in their order
abbrev pub AreMeanings : List Row → List (Option ℕ) → List (Option Meaning) → Type 0
AreMeanings rows typedefs meanings = (i : ℕ) → slice_index_or meanings i None ≡ meaning_of rows typedefs i

-- ---- what a `type` statement restricts

-- a type to restrict; a leafref takes no restriction, as the built-in type doesn't
abbrev pub to_restrict : Meaning → Derivation
to_restrict (plain d) = d
to_restrict (reference p) = bare Leafref

-- the type that row i restricts: that of the typedef that it names, else a built-in one
abbrev pub base_by : List Row → List (Option ℕ) → ℕ → List ℕ → Option Derivation
base_by rows typedefs i [] = option_map bare (built_in_named rows i)
base_by rows typedefs i (n ∷ ns) = option_map to_restrict (meaning_of rows typedefs n)

-- the type that the `type` statement of row i restricts: the typedef's or the built-in one; none where that has no meaning
unfoldable pub base_of : List Row → List (Option ℕ) → ℕ → Option Derivation
base_of rows typedefs i = base_by rows typedefs i (named_typedef rows typedefs i)

-- the type that what stands in a `type` statement restricts; none where it stands elsewhere
unfoldable pub base_above : List Row → List (Option ℕ) → Option ℕ → Option Derivation
base_above rows typedefs None = None
base_above rows typedefs (Some i) = if has_word word.«Type» (slice_get rows i) then base_of rows typedefs i else None

-- ---- ranges, lengths and fraction digits

-- a restriction that the type doesn't take is Unknown, one that is refused BadArgument, each by its keyword (this project's own)
abbrev pub flaw_on : List ℕ → Result Derivation StepFault → Option Flaw
flaw_on keyword (Ok d) = None
flaw_on keyword (Err Misplaced) = Some (flaw.Unknown keyword)
flaw_on keyword (Err BadArgument) = Some (flaw.BadArgument keyword)
flaw_on keyword (Err (AtListed at f)) = None
flaw_on keyword (Err NoMemory) = None

-- a type after a restriction; where that was refused, the type as it was
abbrev pub kept : Derivation → Result Derivation StepFault → Derivation
kept d (Ok made) = made
kept d (Err fault) = d

-- a decimal64 has its fraction digits before its range is read (RFC 7950 section 9.3.4)
unfoldable pub after_digits : List Row → Option ℕ → Derivation → Derivation
after_digits rows None d = d
after_digits rows (Some i) d = kept d (digits_if d (argument_below rows i word.FractionDigits))

-- a type with the restriction of a row; other rows restrict nothing
abbrev pub restricted_by : List Row → Row → List ℕ → Derivation → Word → Result Derivation StepFault
restricted_by rows r text d word.Range = with_range (after_digits rows r.parent d) text
restricted_by rows r text d word.Length = with_length d text
restricted_by rows r text d word.FractionDigits = with_digits d text
restricted_by rows r text d _ = Ok d

-- the flaw of a restriction with this text on this type; none where either is missing
abbrev pub restriction_in : List Row → Row → Option (List ℕ) → Option Derivation → Option Flaw
restriction_in rows r None base = None
restriction_in rows r (Some text) None = None
restriction_in rows r (Some text) (Some d) = flaw_on r.keyword (restricted_by rows r text d r.word)

-- the flaw of a `range`, `length` or `fraction-digits` statement
unfoldable pub restriction_flaw : List Row → List (Option ℕ) → Row → Option Flaw
restriction_flaw rows typedefs r = restriction_in rows r r.argument (base_above rows typedefs r.parent)

-- ---- paths

-- whether a `type` statement is that of the built-in leafref
abbrev pub is_built_in_leafref : Option BuiltIn → Bool
is_built_in_leafref None = false
is_built_in_leafref (Some b) = is_leafref b

-- a `type` statement names no typedef and is the built-in leafref
abbrev pub takes_path_by : List Row → ℕ → List ℕ → Bool
takes_path_by rows i [] = is_built_in_leafref (built_in_named rows i)
takes_path_by rows i (n ∷ ns) = false

-- a `path` may stand in row i: it is a `type` statement of the built-in leafref
unfoldable pub takes_path : List Row → List (Option ℕ) → ℕ → Bool
takes_path rows typedefs i = takes_path_by rows i (named_typedef rows typedefs i)

-- a text that is no path of a leafref is a bad argument
abbrev pub form_flaw : Option LeafrefPath → Option Flaw
form_flaw None = Some (flaw.BadArgument (word_text word.Path))
form_flaw (Some path) = None

-- a predicate is left out; another text that is no path is a bad argument (RFC 7950 section 9.9.2)
unfoldable pub path_form : List ℕ → Option Flaw
path_form text = if has_predicate text then Some (flaw.Unsupported (word_text word.Path)) else form_flaw (path_read text)

-- the flaw of a `path` statement in a type that takes it or not; none where the type or the text is missing
abbrev pub path_in : Bool → Option Derivation → Option (List ℕ) → Option Flaw
path_in takes base None = None
path_in takes None (Some text) = None
path_in takes (Some d) (Some text) = if takes then path_form text else Some (flaw.Unknown (word_text word.Path))

-- the flaw of a `path` statement in row i
abbrev pub path_below : List Row → List (Option ℕ) → Row → Option ℕ → Option Flaw
path_below rows typedefs r None = None
path_below rows typedefs r (Some i) = path_in (takes_path rows typedefs i) (base_above rows typedefs (Some i)) r.argument

-- the flaw of a `path` statement: it has its place in the built-in leafref alone (RFC 7950 section 9.9.2)
unfoldable pub path_flaw : List Row → List (Option ℕ) → Row → Option Flaw
path_flaw rows typedefs r = path_below rows typedefs r r.parent

-- ---- what is lacking

-- the statement that would give what a type lacks
abbrev pub word_lacking : Lacking → Word
word_lacking FractionDigits = word.FractionDigits
word_lacking Enum = word.Enum
word_lacking Bit = word.Bit

-- a statement that must stand in row i
abbrev pub needs : List Row → ℕ → Word → Option Flaw
needs rows i wanted = if is_none (first_below rows i wanted) then Some (flaw.BadArgument (word_text wanted)) else None

-- the flaw of row i where a statement that gives what its type lacks isn't there
abbrev pub needs_what : List Row → ℕ → Option Lacking → Option Flaw
needs_what rows i None = None
needs_what rows i (Some lacks) = needs rows i (word_lacking lacks)

-- the flaw of row i where the type that it restricts lacks something
abbrev pub lacking_in : List Row → ℕ → Option Derivation → Option Flaw
lacking_in rows i None = None
lacking_in rows i (Some d) = needs_what rows i (lacking d.built)

-- the flaw of the `type` statement of row i: fraction digits, names, bits or a path must stand in it, and don't (RFC 7950
-- sections 9.3.4, 9.6.4, 9.7.4 and 9.9.2)
unfoldable pub lacking_flaw : List Row → List (Option ℕ) → ℕ → Option Flaw
lacking_flaw rows typedefs i = if takes_path rows typedefs i then needs rows i word.Path else lacking_in rows i (base_of rows typedefs i)
