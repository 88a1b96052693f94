-- Keywords (RFC 7950 section 14): those that this project uses, skips and leaves out.
use Rattle.std.specs.Prelude.{ℕ, List, codes, Bool, true, false, ◌==◌, ◌||◌, Option, Some, None, unwrap_or, if◌then◌else◌}
use Rattle.std.specs.Str.{bytes_eq}
use Rattle.std.specs.List.{list_any}
use Rattle.nm_schema_statements.specs.declared.word.Word.{Word}
use Rattle.nm_schema_statements.specs.declared.word.Word.TheVariants as word

-- the heading of a module (RFC 7950 section 7.1)
unfoldable pub heading_word : List ℕ → Option Word
heading_word keyword =
    if bytes_eq keyword (codes "module") then Some word.Module else (
    if bytes_eq keyword (codes "yang-version") then Some word.YangVersion else (
    if bytes_eq keyword (codes "namespace") then Some word.Namespace else (
    if bytes_eq keyword (codes "prefix") then Some word.Prefix else (
    if bytes_eq keyword (codes "import") then Some word.Import else None))))

-- nodes, with choices and their cases (RFC 7950 sections 7.5 to 7.9)
unfoldable pub node_word : List ℕ → Option Word
node_word keyword =
    if bytes_eq keyword (codes "container") then Some word.Container else (
    if bytes_eq keyword (codes "presence") then Some word.Presence else (
    if bytes_eq keyword (codes "leaf") then Some word.Leaf else (
    if bytes_eq keyword (codes "leaf-list") then Some word.LeafList else (
    if bytes_eq keyword (codes "list") then Some word.List else (
    if bytes_eq keyword (codes "key") then Some word.Key else (
    if bytes_eq keyword (codes "unique") then Some word.Unique else (
    if bytes_eq keyword (codes "choice") then Some word.Choice else (
    if bytes_eq keyword (codes "case") then Some word.Case else None))))))))

-- types and their restrictions (RFC 7950 sections 7.4 and 9)
unfoldable pub type_word : List ℕ → Option Word
type_word keyword =
    if bytes_eq keyword (codes "type") then Some word.«Type» else (
    if bytes_eq keyword (codes "range") then Some word.Range else (
    if bytes_eq keyword (codes "length") then Some word.Length else (
    if bytes_eq keyword (codes "enum") then Some word.Enum else (
    if bytes_eq keyword (codes "value") then Some word.Value else (
    if bytes_eq keyword (codes "bit") then Some word.Bit else (
    if bytes_eq keyword (codes "position") then Some word.Position else (
    if bytes_eq keyword (codes "fraction-digits") then Some word.FractionDigits else (
    if bytes_eq keyword (codes "path") then Some word.Path else None))))))))

-- definitions that are used elsewhere (RFC 7950 sections 7.3, 7.12 and 7.13)
unfoldable pub shared_word : List ℕ → Option Word
shared_word keyword =
    if bytes_eq keyword (codes "typedef") then Some word.Typedef else (
    if bytes_eq keyword (codes "grouping") then Some word.Grouping else (
    if bytes_eq keyword (codes "uses") then Some word.Uses else None))

-- properties of nodes (RFC 7950 sections 7.6 and 7.7)
unfoldable pub property_word : List ℕ → Option Word
property_word keyword =
    if bytes_eq keyword (codes "default") then Some word.Default else (
    if bytes_eq keyword (codes "mandatory") then Some word.Mandatory else (
    if bytes_eq keyword (codes "min-elements") then Some word.MinElements else (
    if bytes_eq keyword (codes "max-elements") then Some word.MaxElements else (
    if bytes_eq keyword (codes "config") then Some word.Config else (
    if bytes_eq keyword (codes "ordered-by") then Some word.OrderedBy else None)))))

-- texts for people and their like (RFC 7950 sections 7.1.7 to 7.1.9 and 7.21)
unfoldable pub is_meta : List ℕ → Bool
is_meta keyword =
    if bytes_eq keyword (codes "organization") then true else (
    if bytes_eq keyword (codes "contact") then true else (
    if bytes_eq keyword (codes "description") then true else (
    if bytes_eq keyword (codes "reference") then true else (
    if bytes_eq keyword (codes "revision") then true else (
    if bytes_eq keyword (codes "revision-date") then true else (
    if bytes_eq keyword (codes "units") then true else (
    if bytes_eq keyword (codes "status") then true else false)))))))

-- what is no node of data, or an error's text (RFC 7950 sections 7.5.4 and 7.14 to 7.19)
unfoldable pub is_aside : List ℕ → Bool
is_aside keyword =
    if bytes_eq keyword (codes "error-message") then true else (
    if bytes_eq keyword (codes "error-app-tag") then true else (
    if bytes_eq keyword (codes "rpc") then true else (
    if bytes_eq keyword (codes "action") then true else (
    if bytes_eq keyword (codes "notification") then true else (
    if bytes_eq keyword (codes "identity") then true else (
    if bytes_eq keyword (codes "extension") then true else false))))))

-- constraints, patterns and changes of other definitions (this project's own list)
unfoldable pub is_left_out_node : List ℕ → Bool
is_left_out_node keyword =
    if bytes_eq keyword (codes "must") then true else (
    if bytes_eq keyword (codes "when") then true else (
    if bytes_eq keyword (codes "pattern") then true else (
    if bytes_eq keyword (codes "augment") then true else (
    if bytes_eq keyword (codes "deviation") then true else (
    if bytes_eq keyword (codes "refine") then true else (
    if bytes_eq keyword (codes "anydata") then true else (
    if bytes_eq keyword (codes "anyxml") then true else false)))))))

-- submodules and features (this project's own list)
unfoldable pub is_left_out_part : List ℕ → Bool
is_left_out_part keyword =
    if bytes_eq keyword (codes "include") then true else (
    if bytes_eq keyword (codes "submodule") then true else (
    if bytes_eq keyword (codes "belongs-to") then true else (
    if bytes_eq keyword (codes "feature") then true else (
    if bytes_eq keyword (codes "if-feature") then true else false))))

-- a keyword with a prefix, of an extension of YANG (RFC 7950 section 6.3.1)
abbrev pub has_colon : List ℕ → Bool
has_colon keyword = list_any (λ b. b == 58) keyword

-- a statement that is read and skipped, with all that is within (this project's own)
abbrev pub is_passed_over : List ℕ → Bool
is_passed_over keyword = has_colon keyword || is_meta keyword || is_aside keyword

-- a keyword of YANG that this project leaves out
abbrev pub is_left_out : List ℕ → Bool
is_left_out keyword = is_left_out_node keyword || is_left_out_part keyword

-- the word of a keyword that this project doesn't use: it is skipped, left out, or no keyword of YANG
abbrev pub other_word : List ℕ → Word
other_word keyword =
    if is_passed_over keyword then word.Skipped else (
    if is_left_out keyword then word.Unsupported else word.Unknown)

-- what a keyword is
unfoldable pub word_of : List ℕ → Word
word_of keyword =
    unwrap_or (heading_word keyword) (
    unwrap_or (node_word keyword) (
    unwrap_or (type_word keyword) (
    unwrap_or (shared_word keyword) (
    unwrap_or (property_word keyword) (other_word keyword)))))

-- the keyword of a word that has one
abbrev pub word_text : Word → List ℕ
word_text word.Module = codes "module"
word_text word.YangVersion = codes "yang-version"
word_text word.Namespace = codes "namespace"
word_text word.Prefix = codes "prefix"
word_text word.Import = codes "import"
word_text word.Container = codes "container"
word_text word.Presence = codes "presence"
word_text word.Leaf = codes "leaf"
word_text word.LeafList = codes "leaf-list"
word_text word.List = codes "list"
word_text word.Key = codes "key"
word_text word.Unique = codes "unique"
word_text word.Choice = codes "choice"
word_text word.Case = codes "case"
word_text word.«Type» = codes "type"
word_text word.Range = codes "range"
word_text word.Length = codes "length"
word_text word.Enum = codes "enum"
word_text word.Value = codes "value"
word_text word.Bit = codes "bit"
word_text word.Position = codes "position"
word_text word.FractionDigits = codes "fraction-digits"
word_text word.Path = codes "path"
word_text word.Typedef = codes "typedef"
word_text word.Grouping = codes "grouping"
word_text word.Uses = codes "uses"
word_text word.Default = codes "default"
word_text word.Mandatory = codes "mandatory"
word_text word.MinElements = codes "min-elements"
word_text word.MaxElements = codes "max-elements"
word_text word.Config = codes "config"
word_text word.OrderedBy = codes "ordered-by"
word_text _ = codes ""

-- words are told apart by these numbers (this project's own)
abbrev pub word_number : Word → ℕ
word_number word.Module = 0
word_number word.YangVersion = 1
word_number word.Namespace = 2
word_number word.Prefix = 3
word_number word.Import = 4
word_number word.Container = 5
word_number word.Presence = 6
word_number word.Leaf = 7
word_number word.LeafList = 8
word_number word.List = 9
word_number word.Key = 10
word_number word.Unique = 11
word_number word.«Type» = 12
word_number word.Range = 13
word_number word.Length = 14
word_number word.Enum = 15
word_number word.Value = 16
word_number word.Bit = 17
word_number word.Position = 18
word_number word.FractionDigits = 19
word_number word.Path = 20
word_number word.Typedef = 21
word_number word.Grouping = 22
word_number word.Uses = 23
word_number word.Default = 24
word_number word.Mandatory = 25
word_number word.MinElements = 26
word_number word.MaxElements = 27
word_number word.Config = 28
word_number word.OrderedBy = 29
word_number word.Skipped = 30
word_number word.Unsupported = 31
word_number word.Unknown = 32
word_number word.Choice = 33
word_number word.Case = 34

-- two words are the same
abbrev pub same_word : Word → Word → Bool
same_word one other = word_number one == word_number other
