-- The first row of a name, in a statement and in a module (RFC 7950 sections 5.5, 6.2.1, 7.1.4 and 7.1.5).
use Rattle.std.specs.Prelude.{ℕ, List, codes, Bool, false, ◌==◌, ◌&&◌, Option, Some, None, if◌then◌else◌, is_some, slice_get}
use Rattle.std.specs.Str.{bytes_eq}
use Rattle.std.specs.List.{position_from}
use Rattle.nm_base.specs.Words.{marker_name}
use Rattle.nm_schema_statements.specs.declared.word.Word.{Word}
use Rattle.nm_schema_statements.specs.declared.word.Word.TheVariants as word
use Rattle.nm_schema_statements.specs.declared.row.Row.{Row}
use Rattle.nm_schema_statements.specs.Word.{word_number, same_word}
use Rattle.nm_schema_statements.specs.Rows.{same_parent, roots}
use Rattle.nm_schema_names.specs.declared.key.Reach.{Reach}
use Rattle.nm_schema_names.specs.declared.key.Reach.TheVariants as reach

-- ---- names in a statement and in a module

-- what a row's name stands in: the statement around it (none outermost), or its module
abbrev pub space_of : Reach → Row → Option ℕ
space_of reach.Statement r = r.parent
space_of reach.Module r = Some r.«module»

-- an argument is this name
abbrev pub is_called : Option (List ℕ) → List ℕ → Bool
is_called None name = false
is_called (Some argument) name = bytes_eq argument name

-- a row stands in a space, and has a word, by its number, and a name
abbrev pub has_key : Reach → Option ℕ → ℕ → List ℕ → Row → Bool
has_key reach space number name r =
    same_parent (space_of reach r) space && (word_number r.word == number && is_called r.argument name)

-- the first row that does
unfoldable pub first_keyed : Reach → List Row → Option ℕ → ℕ → List ℕ → Option ℕ
first_keyed reach rows space number name = position_from (has_key reach space number name) 0 rows

-- the first row directly in row `parent`, or outermost, that has a word and a name
abbrev pub named : List Row → Option ℕ → Word → List ℕ → Option ℕ
named rows parent w name = first_keyed reach.Statement rows parent (word_number w) name

-- the first row anywhere in module m that has a word and a name
abbrev pub named_within : List Row → ℕ → Word → List ℕ → Option ℕ
named_within rows m w name = first_keyed reach.Module rows (Some m) (word_number w) name

-- the first row directly in a row, if there is one, that has a word and a name
abbrev pub named_in : List Row → Option ℕ → Word → List ℕ → Option ℕ
named_in rows None w name = None
named_in rows (Some i) w name = named rows (Some i) w name

-- ---- modules and prefixes

-- the row of module m
abbrev pub top : List Row → ℕ → Option ℕ
top rows m = slice_get (roots rows) m

-- the module that this project adds by itself (this project's own)
unfoldable pub is_marker : List ℕ → Bool
is_marker name = bytes_eq name marker_name

-- the given module of a name (RFC 7950 section 6.2.1); the marker module is none of them
unfoldable pub module_named : List Row → List ℕ → Option ℕ
module_named rows name = if is_marker name then None else named rows None word.Module name

-- the given module of a name, where there is a name
abbrev pub module_called : List Row → Option (List ℕ) → Option ℕ
module_called rows None = None
module_called rows (Some name) = module_named rows name

-- a prefix of module m stands directly in it (RFC 7950 section 7.1.4)
unfoldable pub is_own : List Row → ℕ → List ℕ → Bool
is_own rows m prefix = is_some (named_in rows (top rows m) word.Prefix prefix)

-- the name of the module that an import takes in (RFC 7950 section 7.1.5)
abbrev pub imported : Option Row → Option (List ℕ)
imported None = None
imported (Some r) = if same_word r.word word.Import then r.argument else None

-- the row of a number, where there is one
abbrev pub row_at : List Row → Option ℕ → Option Row
row_at rows None = None
row_at rows (Some i) = slice_get rows i

-- the row that a row stands in
abbrev pub parent_in : Option Row → Option ℕ
parent_in None = None
parent_in (Some r) = r.parent

-- the row that row i stands in
abbrev pub parent_of : List Row → ℕ → Option ℕ
parent_of rows i = parent_in (slice_get rows i)

-- the module that the import around a prefix takes in
abbrev pub import_leads : List Row → Option ℕ → Option ℕ
import_leads rows None = None
import_leads rows (Some i) = module_called rows (imported (row_at rows (parent_of rows i)))

-- the module that a prefix leads to in module m: m itself, or one that it imports (RFC 7950 sections 7.1.4 and 7.1.5)
unfoldable pub prefix_leads : List Row → ℕ → List ℕ → Option ℕ
prefix_leads rows m prefix =
    if is_own rows m prefix then top rows m else import_leads rows (named_within rows m word.Prefix prefix)
