-- The keys of lists (RFC 7950 section 7.8.2).
use Rattle.std.specs.Prelude.{◌≡◌, ℕ, List, [], ◌∷◌, ◌++◌, Bool, false, ◌==◌, ◌||◌, ◌&&◌, Contains, Option, Some, None, is_some, is_none, if◌then◌else◌}
use Rattle.std.specs.Option.{option_or}
use Rattle.nm_schema_statements.specs.declared.word.Word.TheVariants as word
use Rattle.nm_schema_statements.specs.declared.row.Row.{Row}
use Rattle.nm_schema_statements.specs.declared.flaw.Flaw.{Flaw}
use Rattle.nm_schema_statements.specs.declared.flaw.Flaw.TheVariants as flaw
use Rattle.nm_schema_statements.specs.Word.{word_text}
use Rattle.nm_schema_statements.specs.Text.{name_of}
use Rattle.nm_schema_statements.specs.Rows.{first_below}
use Rattle.nm_schema_uses.specs.Passing.{plain_members}
use Rattle.nm_schema_keys.specs.declared.found.Found.{Found}
use Rattle.nm_schema_keys.specs.declared.found.Found.TheVariants as found
use Rattle.nm_schema_keys.specs.ConfigUse.{ConfigUse, loses_state}
use Rattle.nm_schema_keys.specs.Words.{words_of}
use Rattle.nm_schema_keys.specs.Found.{fit_among}
use Rattle.nm_schema_keys.specs.Said.{Said, said_at}

-- ---- the words of a key

-- the leaf that a word of a key names, among the members of its list that stand in no choice
unfoldable pub key_leaf : List Row → Option (List ℕ) → Bool → ℕ → List ℕ → Found
key_leaf rows nodes loses m text = fit_among rows nodes loses m word.Leaf text

-- row i is one of these
abbrev pub has_row : List ℕ → ℕ → Bool
has_row [] i = false
has_row (n ∷ ns) i = i == n || has_row ns i

-- what is wrong with a word of a key, after words that name these leafs: it names no leaf that fits, or one of those (RFC 7950 section 7.8.2)
abbrev pub word_flaw : List ℕ → List ℕ → Found → Option Flaw
word_flaw taken text (found.Row i) = if has_row taken i then Some (flaw.Duplicate (name_of text)) else None
word_flaw taken text found.Missing = Some (flaw.BadReference text)
word_flaw taken text found.Unknown = None

-- the row that is found, if any
abbrev pub row_found : Found → List ℕ
row_found (found.Row i) = i ∷ []
row_found found.Missing = []
row_found found.Unknown = []

-- what is wrong with the first word that has a flaw, after words that name these leafs
abbrev pub words_flaw : (List ℕ → Found) → List ℕ → List (List ℕ) → Option Flaw
words_flaw leaf taken [] = None
words_flaw leaf taken (text ∷ texts) = option_or (word_flaw taken text (leaf text)) (words_flaw leaf (taken ++ row_found (leaf text)) texts)

-- the leafs that words name, in order
abbrev pub leafs_named : (List ℕ → Found) → List (List ℕ) → List ℕ
leafs_named leaf [] = []
leafs_named leaf (text ∷ texts) = row_found (leaf text) ++ leafs_named leaf texts

-- a key has at least one word (RFC 7950 section 14: key-arg)
abbrev pub key_words_flaw : (List ℕ → Found) → List (List ℕ) → Option Flaw
key_words_flaw leaf [] = Some (flaw.BadArgument (word_text word.Key))
key_words_flaw leaf (text ∷ texts) = words_flaw leaf [] (text ∷ texts)

-- the leafs of a key that has no flaw, in a list whose members are known
abbrev pub key_words_leafs : (List ℕ → Found) → Bool → List (List ℕ) → Option (List ℕ)
key_words_leafs leaf known texts = if is_none (key_words_flaw leaf texts) && known then Some (leafs_named leaf texts) else None

-- ---- key statements

-- what is wrong with a `key` statement, where there is one
abbrev pub said_key_flaw : List Row → List (Option ℕ) → ConfigUse → Option Said → Option Flaw
said_key_flaw rows groupings standing None = None
said_key_flaw rows groupings standing (Some s) =
    key_words_flaw (key_leaf rows (plain_members rows groupings s.list) (loses_state standing s.list) s.owner) (words_of s.text)

-- what is wrong with the `key` statement of row i in a list; none of other rows (RFC 7950 section 7.8.2)
unfoldable pub key_flaw : List Row → List (Option ℕ) → ConfigUse → ℕ → Option Flaw
key_flaw rows groupings standing i = said_key_flaw rows groupings standing (said_at rows word.Key i)

-- the leafs that a `key` statement names, where there is one without a flaw
abbrev pub said_keys : List Row → List (Option ℕ) → ConfigUse → Option Said → Option (List ℕ)
said_keys rows groupings standing None = None
said_keys rows groupings standing (Some s) =
    key_words_leafs (key_leaf rows (plain_members rows groupings s.list) (loses_state standing s.list) s.owner)
    (is_some (plain_members rows groupings s.list)) (words_of s.text)

-- the leafs that the `key` statement of a row names, where there is the row and it has no flaw
abbrev pub keys_at : List Row → List (Option ℕ) → ConfigUse → Option ℕ → Option (List ℕ)
keys_at rows groupings standing None = None
keys_at rows groupings standing (Some i) = said_keys rows groupings standing (said_at rows word.Key i)

-- the key leafs of list l, in the order of its `key`; none where there is no `key`, or one with a flaw, or the members aren't known (RFC 7950 section 7.8.2)
unfoldable pub keys_of : List Row → List (Option ℕ) → ConfigUse → ℕ → Option (List ℕ)
keys_of rows groupings standing l = keys_at rows groupings standing (first_below rows l word.Key)

-- row i is one of the key leafs, where these are known
abbrev pub has_known : Option (List ℕ) → ℕ → Bool
has_known None i = false
has_known (Some keys) i = has_row keys i

-- row i is a key leaf of a list
pub record IsKey (rows : List Row) (groupings : List (Option ℕ)) (standing : ConfigUse) (i : ℕ) : Type 0 where
  pub list : ℕ
  pub keys : List ℕ
  pub known : keys_of rows groupings standing list ≡ Some keys
  pub among : Contains keys i
