-- What is wrong with the names of a row (RFC 7950 sections 5.5, 6.2.1, 7.1.4 and 7.1.5).
use Rattle.std.specs.Prelude.{ℕ, List, Option, Some, None, if◌then◌else◌, is_some, slice_get}
use Rattle.nm_schema_statements.specs.declared.word.Word.{Word}
use Rattle.nm_schema_statements.specs.declared.word.Word.TheVariants as word
use Rattle.nm_schema_statements.specs.declared.row.Row.{Row}
use Rattle.nm_schema_statements.specs.declared.flaw.Flaw.{Flaw}
use Rattle.nm_schema_statements.specs.declared.flaw.Flaw.TheVariants as flaw
use Rattle.nm_schema_statements.specs.Flaw.{is_before}
use Rattle.nm_schema_statements.specs.Text.{is_builtin}
use Rattle.nm_schema_names.specs.Named.{named, named_within, is_marker, module_named}
use Rattle.nm_schema_names.specs.Leads.{definition}

-- an earlier row has the name, which may be there once (RFC 7950 section 6.2.1)
abbrev pub again_flaw : Option ℕ → ℕ → List ℕ → Option Flaw
again_flaw first at name = if is_before first at then Some (flaw.Duplicate name) else None

-- an earlier module has the name, or it is that of the module that this project adds
abbrev pub module_flaw : List Row → ℕ → List ℕ → Option Flaw
module_flaw rows at name =
    if is_marker name then Some (flaw.Duplicate name) else again_flaw (named rows None word.Module name) at name

-- no given module has the name
abbrev pub import_flaw : List Row → List ℕ → Option Flaw
import_flaw rows name = if is_some (module_named rows name) then None else Some (flaw.Unknown name)

-- a name that has to lead to a definition doesn't
abbrev pub reference_flaw : Option ℕ → List ℕ → Option Flaw
reference_flaw target text = if is_some target then None else Some (flaw.BadReference text)

-- a type that isn't built in leads nowhere (RFC 7950 section 7.4)
abbrev pub type_flaw : List Row → ℕ → List ℕ → Option Flaw
type_flaw rows at text = if is_builtin text then None else reference_flaw (definition rows at word.Typedef text) text

-- what is wrong with the name that is a row's argument
abbrev pub text_flaw : List Row → ℕ → Row → Word → List ℕ → Option Flaw
text_flaw rows at r word.Module name = module_flaw rows at name
text_flaw rows at r word.Import name = import_flaw rows name
text_flaw rows at r word.Prefix name = again_flaw (named_within rows r.«module» word.Prefix name) at name
text_flaw rows at r word.Typedef name = again_flaw (named rows r.parent word.Typedef name) at name
text_flaw rows at r word.Grouping name = again_flaw (named rows r.parent word.Grouping name) at name
text_flaw rows at r word.«Type» text = type_flaw rows at text
text_flaw rows at r word.Uses text = reference_flaw (definition rows at word.Grouping text) text
text_flaw rows at r _ text = None

-- what is wrong with the name that an argument is; without an argument nothing is
abbrev pub argument_flaw : List Row → ℕ → Row → Option (List ℕ) → Option Flaw
argument_flaw rows at r None = None
argument_flaw rows at r (Some text) = text_flaw rows at r r.word text

-- what is wrong with the name of a row; where there is no row nothing is
abbrev pub row_flaw : List Row → ℕ → Option Row → Option Flaw
row_flaw rows at None = None
row_flaw rows at (Some r) = argument_flaw rows at r r.argument

-- what is wrong with the names of the row at a place
unfoldable pub name_flaw : List Row → ℕ → Option Flaw
name_flaw rows at = row_flaw rows at (slice_get rows at)
