-- What the grammar asks of each statement (RFC 7950 sections 7 and 14).
use Rattle.std.specs.Prelude.{ℕ, List, [], codes, Bool, true, false, not, ◌&&◌, nat_lt, Option, Some, None, unwrap_or, if◌then◌else◌, slice_get}
use Rattle.std.specs.Option.{option_or}
use Rattle.std.specs.Str.{bytes_eq}
use Rattle.nm_schema_statements.specs.declared.word.Word.{Word}
use Rattle.nm_schema_statements.specs.declared.word.Word.TheVariants as word
use Rattle.nm_schema_statements.specs.declared.row.Row.{Row}
use Rattle.nm_schema_statements.specs.declared.flaw.Flaw.{Flaw}
use Rattle.nm_schema_statements.specs.declared.flaw.Flaw.TheVariants as flaw
use Rattle.nm_schema_statements.specs.declared.fault.Fault.{Fault}
use Rattle.nm_schema_statements.specs.declared.fault.Fault.TheVariants as fault
use Rattle.nm_schema_statements.specs.Word.{word_text}
use Rattle.nm_schema_statements.specs.Text.{is_identifier, is_reference, is_truth, is_version, is_order, is_count, is_limit, is_digit_count, is_some_text, is_enum_name, is_builtin, is_left_out_type}
use Rattle.nm_schema_statements.specs.Rows.{those_in, first_with, first_below}

-- ---- what may stand in what

-- nodes of data (RFC 7950 sections 7.5 to 7.8)
abbrev pub is_data : Word → Bool
is_data word.Container = true
is_data word.Leaf = true
is_data word.LeafList = true
is_data word.List = true
is_data _ = false

-- definitions, choices and nodes of data, which stand in a module, a container, a list and a grouping (RFC 7950 section 7)
abbrev pub is_scoped : Word → Bool
is_scoped word.Typedef = true
is_scoped word.Grouping = true
is_scoped word.Uses = true
is_scoped word.Choice = true
is_scoped w = is_data w

-- RFC 7950 section 7.1.1
abbrev pub in_module : Word → Bool
in_module word.YangVersion = true
in_module word.Namespace = true
in_module word.Prefix = true
in_module word.Import = true
in_module w = is_scoped w

-- RFC 7950 section 7.1.5
abbrev pub in_import : Word → Bool
in_import word.Prefix = true
in_import _ = false

-- RFC 7950 section 7.5.2
abbrev pub in_container : Word → Bool
in_container word.Presence = true
in_container word.Config = true
in_container w = is_scoped w

-- RFC 7950 section 7.6.2
abbrev pub in_leaf : Word → Bool
in_leaf word.«Type» = true
in_leaf word.Default = true
in_leaf word.Mandatory = true
in_leaf word.Config = true
in_leaf _ = false

-- RFC 7950 section 7.7.3
abbrev pub in_leaf_list : Word → Bool
in_leaf_list word.«Type» = true
in_leaf_list word.Default = true
in_leaf_list word.MinElements = true
in_leaf_list word.MaxElements = true
in_leaf_list word.OrderedBy = true
in_leaf_list word.Config = true
in_leaf_list _ = false

-- RFC 7950 section 7.8.1
abbrev pub in_list : Word → Bool
in_list word.Key = true
in_list word.Unique = true
in_list word.MinElements = true
in_list word.MaxElements = true
in_list word.OrderedBy = true
in_list word.Config = true
in_list w = is_scoped w

-- cases, nodes that are each a case of its own, and the properties of a choice (RFC 7950 sections 7.9.1 and 7.9.2)
abbrev pub in_choice : Word → Bool
in_choice word.Choice = true
in_choice word.Case = true
in_choice word.Default = true
in_choice word.Mandatory = true
in_choice word.Config = true
in_choice w = is_data w

-- RFC 7950 section 7.9.2.1
abbrev pub in_case : Word → Bool
in_case word.Choice = true
in_case word.Uses = true
in_case w = is_data w

-- RFC 7950 section 7.3.1
abbrev pub in_typedef : Word → Bool
in_typedef word.«Type» = true
in_typedef word.Default = true
in_typedef _ = false

-- RFC 7950 section 7.4.1
abbrev pub in_type : Word → Bool
in_type word.Range = true
in_type word.Length = true
in_type word.Enum = true
in_type word.Bit = true
in_type word.FractionDigits = true
in_type word.Path = true
in_type _ = false

-- RFC 7950 section 9.6.4.1
abbrev pub in_enum : Word → Bool
in_enum word.Value = true
in_enum _ = false

-- RFC 7950 section 9.7.4.1
abbrev pub in_bit : Word → Bool
in_bit word.Position = true
in_bit _ = false

-- the keyword is `module`: the one that may stand outermost
abbrev pub is_module : Word → Bool
is_module word.Module = true
is_module _ = false

-- what may stand directly in a statement
abbrev pub holds : Word → Word → Bool
holds word.Module child = in_module child
holds word.Import child = in_import child
holds word.Container child = in_container child
holds word.Leaf child = in_leaf child
holds word.LeafList child = in_leaf_list child
holds word.List child = in_list child
holds word.Choice child = in_choice child
holds word.Case child = in_case child
holds word.Typedef child = in_typedef child
holds word.«Type» child = in_type child
holds word.Enum child = in_enum child
holds word.Bit child = in_bit child
holds word.Grouping child = is_scoped child
holds _ child = false

-- what may stand in a statement, or outermost
abbrev pub may_stand : Option Word → Word → Bool
may_stand None child = is_module child
may_stand (Some parent) child = holds parent child

-- the keyword's word of a row, where there is a row
abbrev pub word_in : Option Row → Option Word
word_in None = None
word_in (Some r) = Some r.word

-- the word of the statement that a row stands in
abbrev pub word_above : List Row → Option ℕ → Option Word
word_above rows None = None
word_above rows (Some i) = word_in (slice_get rows i)

-- a keyword of YANG that this project leaves out
abbrev pub is_unsupported : Word → Bool
is_unsupported word.Unsupported = true
is_unsupported _ = false

-- the keyword is left out, or may not stand there
unfoldable pub place_fault : List Row → Row → Option Fault
place_fault rows r =
    if is_unsupported r.word then Some fault.Unsupported else (
    if may_stand (word_above rows r.parent) r.word then None else Some fault.Unknown)

-- ---- how often

-- the statement around is a leaf-list, in which `default` may come more than once (RFC 7950 section 7.7.4)
abbrev pub is_leaf_list : Option Word → Bool
is_leaf_list None = false
is_leaf_list (Some word.LeafList) = true
is_leaf_list (Some _) = false

-- what may stand once at most (RFC 7950 section 7, the tables of substatements)
abbrev pub comes_once : Option Word → Word → Bool
comes_once parent word.YangVersion = true
comes_once parent word.Namespace = true
comes_once parent word.Prefix = true
comes_once parent word.Presence = true
comes_once parent word.Key = true
comes_once parent word.«Type» = true
comes_once parent word.Range = true
comes_once parent word.Length = true
comes_once parent word.Value = true
comes_once parent word.Position = true
comes_once parent word.FractionDigits = true
comes_once parent word.Path = true
comes_once parent word.Default = not (is_leaf_list parent)
comes_once parent word.Mandatory = true
comes_once parent word.MinElements = true
comes_once parent word.MaxElements = true
comes_once parent word.Config = true
comes_once parent word.OrderedBy = true
comes_once parent _ = false

-- a row comes before row `at`; no row doesn't
abbrev pub is_before : Option ℕ → ℕ → Bool
is_before None at = false
is_before (Some i) at = nat_lt i at

-- an earlier statement beside it has the same keyword
abbrev pub is_again : List Row → ℕ → Row → Bool
is_again rows at r = is_before (first_with rows r.word (those_in 0 r.parent rows)) at

-- a second one of what may stand once
unfoldable pub times_fault : List Row → ℕ → Row → Option Fault
times_fault rows at r = if comes_once (word_above rows r.parent) r.word && is_again rows at r then Some fault.Duplicate else None

-- there is such a row
abbrev pub is_there : Option ℕ → Bool
is_there None = false
is_there (Some i) = true

-- a statement that has to stand in row i isn't there
abbrev pub lack : List Row → ℕ → Word → Option Fault
lack rows i wanted = if is_there (first_below rows i wanted) then None else Some (fault.Lacks wanted)

-- the first statement that is missing in row i (RFC 7950 sections 7.1.1, 7.1.5, 7.3.1, 7.6.2 and 7.7.3)
abbrev pub lack_fault : List Row → ℕ → Word → Option Fault
lack_fault rows i word.Module = option_or (lack rows i word.Namespace) (lack rows i word.Prefix)
lack_fault rows i word.Import = lack rows i word.Prefix
lack_fault rows i word.Leaf = lack rows i word.«Type»
lack_fault rows i word.LeafList = lack rows i word.«Type»
lack_fault rows i word.Typedef = lack rows i word.«Type»
lack_fault rows i _ = None

-- ---- arguments

-- a text has the form of a keyword's argument (RFC 7950 section 14)
abbrev pub has_form : Word → List ℕ → Bool
has_form word.Module text = is_identifier text
has_form word.YangVersion text = is_version text
has_form word.Namespace text = is_some_text text
has_form word.Prefix text = is_identifier text
has_form word.Import text = is_identifier text
has_form word.Container text = is_identifier text
has_form word.Leaf text = is_identifier text
has_form word.LeafList text = is_identifier text
has_form word.List text = is_identifier text
has_form word.Choice text = is_identifier text
has_form word.Case text = is_identifier text
has_form word.«Type» text = is_reference text
has_form word.Enum text = is_enum_name text
has_form word.Bit text = is_identifier text
has_form word.FractionDigits text = is_digit_count text
has_form word.Typedef text = is_identifier text && not (is_builtin text)
has_form word.Grouping text = is_identifier text
has_form word.Uses text = is_reference text
has_form word.Mandatory text = is_truth text
has_form word.MinElements text = is_count text
has_form word.MaxElements text = is_limit text
has_form word.Config text = is_truth text
has_form word.OrderedBy text = is_order text
has_form _ text = true

-- each statement that is used has an argument of its form
abbrev pub form_fault : Word → Option (List ℕ) → Option Fault
form_fault w None = Some fault.BadArgument
form_fault w (Some text) = if has_form w text then None else Some fault.BadArgument

-- entries that users order are left out (this project's own; RFC 7950 section 7.7.7)
unfoldable pub is_user : List ℕ → Bool
is_user text = bytes_eq text (codes "user")

-- a leaf-list or a choice, whose defaults are left out (this project's own; RFC 7950 sections 7.7.4 and 7.9.3)
abbrev pub is_undefaulted : Option Word → Bool
is_undefaulted None = false
is_undefaulted (Some word.LeafList) = true
is_undefaulted (Some word.Choice) = true
is_undefaulted (Some _) = false

-- what is left out by its argument or by where it stands (this project's own)
abbrev pub left_out : Option Word → Word → List ℕ → Option Fault
left_out parent word.«Type» text = if is_left_out_type text then Some fault.UnsupportedType else None
left_out parent word.OrderedBy text = if is_user text then Some fault.Unsupported else None
left_out parent word.Default text = if is_undefaulted parent then Some fault.Unsupported else None
left_out parent _ text = None

-- the text of an argument; without an argument the empty one
abbrev pub text_of : Option (List ℕ) → List ℕ
text_of argument = unwrap_or argument []

-- ---- the flaw of a row

-- the first fault of a statement
unfoldable pub row_fault : List Row → ℕ → Row → Option Fault
row_fault rows at r =
    option_or (place_fault rows r) (
    option_or (times_fault rows at r) (
    option_or (lack_fault rows at r.word) (
    option_or (form_fault r.word r.argument) (
    left_out (word_above rows r.parent) r.word (text_of r.argument)))))

-- a fault by its name: the keyword, the keyword that is missing, or the type
abbrev pub flaw_of : Row → Fault → Flaw
flaw_of r fault.Unsupported = flaw.Unsupported r.keyword
flaw_of r fault.UnsupportedType = flaw.Unsupported (text_of r.argument)
flaw_of r fault.Unknown = flaw.Unknown r.keyword
flaw_of r fault.Duplicate = flaw.Duplicate r.keyword
flaw_of r (fault.Lacks wanted) = flaw.BadArgument (word_text wanted)
flaw_of r fault.BadArgument = flaw.BadArgument r.keyword

-- the flaw of a row, where it has a fault
abbrev pub flaw_from : Row → Option Fault → Option Flaw
flaw_from r None = None
flaw_from r (Some fault) = Some (flaw_of r fault)

-- the flaw of row `at`, where there is such a row
abbrev pub flaw_at : List Row → ℕ → Option Row → Option Flaw
flaw_at rows at None = None
flaw_at rows at (Some r) = flaw_from r (row_fault rows at r)

-- what is wrong with the row at a place
unfoldable pub grammar_flaw : List Row → ℕ → Option Flaw
grammar_flaw rows at = flaw_at rows at (slice_get rows at)
