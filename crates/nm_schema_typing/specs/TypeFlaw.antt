-- What is wrong with types (RFC 7950 sections 7.3, 7.4 and 9).
use Rattle.std.specs.Prelude.{ℕ, List, Option, Some, None, if◌then◌else◌, slice_get}
use Rattle.nm_schema_statements.specs.declared.row.Row.{Row}
use Rattle.nm_schema_statements.specs.declared.flaw.Flaw.{Flaw}
use Rattle.nm_schema_statements.specs.declared.flaw.Flaw.TheVariants as flaw
use Rattle.nm_schema_statements.specs.declared.word.Word.{Word}
use Rattle.nm_schema_statements.specs.declared.word.Word.TheVariants as word
use Rattle.nm_schema_statements.specs.Flaw.{text_of}
use Rattle.nm_schema_typing.specs.Restricting.{argument_at}
use Rattle.nm_schema_typing.specs.Flaws.{restriction_flaw, path_flaw, lacking_flaw}
use Rattle.nm_schema_typing.specs.Listing.{listed_flaw, is_at}

-- what is wrong with the type that a row is part of, by the row's keyword
abbrev pub flaw_by : List Row → List (Option ℕ) → ℕ → Row → Word → Option Flaw
flaw_by rows typedefs at r word.«Type» = lacking_flaw rows typedefs at
flaw_by rows typedefs at r word.Path = path_flaw rows typedefs r
flaw_by rows typedefs at r word.Range = restriction_flaw rows typedefs r
flaw_by rows typedefs at r word.Length = restriction_flaw rows typedefs r
flaw_by rows typedefs at r word.FractionDigits = restriction_flaw rows typedefs r
flaw_by rows typedefs at r word.Enum = listed_flaw rows typedefs at
flaw_by rows typedefs at r word.Bit = listed_flaw rows typedefs at
flaw_by rows typedefs at r word.Value = listed_flaw rows typedefs at
flaw_by rows typedefs at r word.Position = listed_flaw rows typedefs at
flaw_by rows typedefs at r _ = None

-- the flaw of row `at`, where there is such a row
abbrev pub flaw_in : List Row → List (Option ℕ) → ℕ → Option Row → Option Flaw
flaw_in rows typedefs at None = None
flaw_in rows typedefs at (Some r) = flaw_by rows typedefs at r r.word

-- the flaw of a `type` statement or of what stands in it, each by itself against the type that is restricted; none where that has no meaning
unfoldable pub type_flaw : List Row → List (Option ℕ) → ℕ → Option Flaw
type_flaw rows typedefs at = flaw_in rows typedefs at (slice_get rows at)

-- the flaw of a row that is the first to lead to itself, by its name (RFC 7950 section 7.3)
unfoldable pub cycle_flaw : List Row → Option ℕ → ℕ → Option Flaw
cycle_flaw rows cycle at = if is_at cycle at then Some (flaw.Cycle (text_of (argument_at rows (Some at)))) else None
