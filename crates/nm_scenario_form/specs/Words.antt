-- Lists that begin with a word, as events and requests do: the word, how many items there are, and numbers by their places (this
-- project's own).
use Rattle.std.specs.Prelude.{ℕ, List, [], Bool, Option, option_and_then, unwrap_or}
use Rattle.std.specs.Str.{bytes_eq}
use Rattle.serde_json.specs.Data.{Data, null, boolean, number, string, array, object}
use Rattle.serde_json.specs.Find.{at, as_str}
use Rattle.nm_scenario_form.specs.Reading.{natural_of, count_of}

-- the word of a list
abbrev pub word_of : Data → Option (List ℕ)
word_of whole = option_and_then as_str (at 0 whole)

-- a list begins with this word
abbrev pub is_word : Data → List ℕ → Bool
is_word whole word = bytes_eq (unwrap_or (word_of whole) []) word

-- how many items a list has
abbrev pub item_count : Data → ℕ
item_count (array items) = count_of items
item_count null = 0
item_count (boolean b) = 0
item_count (number n) = 0
item_count (string text) = 0
item_count (object m) = 0

-- the number at a place of a list
abbrev pub natural_in : ℕ → Data → Option ℕ
natural_in place whole = option_and_then natural_of (at place whole)
