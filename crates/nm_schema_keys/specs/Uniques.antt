-- What is unique in lists (RFC 7950 section 7.8.3).
use Rattle.std.specs.Prelude.{ℕ, List, [], ◌∷◌, ◌++◌, map, filter, Bool, true, false, Option, Some, None, option_map, slice_get}
use Rattle.std.specs.List.{find}
use Rattle.nm_schema_statements.specs.declared.word.Word.{Word}
use Rattle.nm_schema_statements.specs.declared.word.Word.TheVariants as word
use Rattle.nm_schema_statements.specs.declared.row.Row.{Row}
use Rattle.nm_schema_statements.specs.declared.flaw.Flaw.{Flaw}
use Rattle.nm_schema_statements.specs.declared.flaw.Flaw.TheVariants as flaw
use Rattle.nm_schema_statements.specs.Word.{word_text}
use Rattle.nm_schema_statements.specs.Rows.{has_word, children}
use Rattle.nm_graph.specs.Value.{all_there}
use Rattle.nm_schema_keys.specs.declared.found.Found.{Found}
use Rattle.nm_schema_keys.specs.declared.found.Found.TheVariants as found
use Rattle.nm_schema_keys.specs.declared.passage.Passage.{Passage}
use Rattle.nm_schema_keys.specs.declared.passage.Passage.TheVariants as passage
use Rattle.nm_schema_keys.specs.ConfigUse.{ConfigUse, loses_state}
use Rattle.nm_schema_keys.specs.Words.{words_of, pieces_of}
use Rattle.nm_schema_keys.specs.Found.{fit_member}
use Rattle.nm_schema_keys.specs.Said.{Said, said_at}

-- ---- the words of a `unique`

-- a word leads through containers to a leaf at its end (RFC 7950 section 7.8.3)
abbrev pub word_before : List (List ℕ) → Word
word_before [] = word.Leaf
word_before (piece ∷ pieces) = word.Container

-- the member of row i that a piece of a word names, with more pieces behind it
unfoldable pub next_row : List Row → List (Option ℕ) → Bool → ℕ → ℕ → List ℕ → List (List ℕ) → Found
next_row rows groupings loses m i piece pieces = fit_member rows groupings loses i m (word_before pieces) piece

-- rows in front of a passage
abbrev pub behind : List ℕ → Passage → Passage
behind front (passage.Through way) = passage.Through (front ++ way)
behind front passage.Missing = passage.Missing
behind front passage.Unknown = passage.Unknown

-- a passage that goes on where a row is found
abbrev pub passage_from : Found → (ℕ → Passage) → Passage
passage_from (found.Row i) next = behind (i ∷ []) (next i)
passage_from found.Missing next = passage.Missing
passage_from found.Unknown next = passage.Unknown

-- the rows that pieces of a word lead through from row i
abbrev pub passage_along : List Row → List (Option ℕ) → Bool → ℕ → ℕ → List (List ℕ) → Passage
passage_along rows groupings loses m i [] = passage.Through []
passage_along rows groupings loses m i (piece ∷ pieces) =
    passage_from (next_row rows groupings loses m i piece pieces) (λ j. passage_along rows groupings loses m j pieces)

-- the rows that a word leads through from list l: containers, and a leaf at last (RFC 7950 section 7.8.3)
unfoldable pub passage_of : List Row → List (Option ℕ) → Bool → ℕ → ℕ → List ℕ → Passage
passage_of rows groupings loses m l text = passage_along rows groupings loses m l (pieces_of text)

-- a word leads to no row that fits
abbrev pub is_missing : Passage → Bool
is_missing passage.Missing = true
is_missing (passage.Through way) = false
is_missing passage.Unknown = false

-- a word leads to no leaf that fits
unfoldable pub leads_nowhere : List Row → List (Option ℕ) → Bool → ℕ → ℕ → List ℕ → Bool
leads_nowhere rows groupings loses m l text = is_missing (passage_of rows groupings loses m l text)

-- the rows that a word leads through, where it leads to a leaf
abbrev pub way_through : Passage → Option (List ℕ)
way_through (passage.Through way) = Some way
way_through passage.Missing = None
way_through passage.Unknown = None

-- the rows that a word leads through, if it does
unfoldable pub way_of : List Row → List (Option ℕ) → Bool → ℕ → ℕ → List ℕ → Option (List ℕ)
way_of rows groupings loses m l text = way_through (passage_of rows groupings loses m l text)

-- a `unique` has at least one word, and each leads to a leaf that fits (RFC 7950 sections 7.8.3 and 14: unique-arg)
abbrev pub unique_words_flaw : (List ℕ → Bool) → List (List ℕ) → Option Flaw
unique_words_flaw astray [] = Some (flaw.BadArgument (word_text word.Unique))
unique_words_flaw astray (text ∷ texts) = option_map flaw.BadReference (find astray (text ∷ texts))

-- the ways of the words of a `unique`, if each has one
abbrev pub unique_words_ways : (List ℕ → Option (List ℕ)) → List (List ℕ) → Option (List (List ℕ))
unique_words_ways way [] = None
unique_words_ways way (text ∷ texts) = all_there (map way (text ∷ texts))

-- ---- `unique` statements

-- what is wrong with a `unique` statement, where there is one
abbrev pub said_unique_flaw : List Row → List (Option ℕ) → ConfigUse → Option Said → Option Flaw
said_unique_flaw rows groupings standing None = None
said_unique_flaw rows groupings standing (Some s) =
    unique_words_flaw (leads_nowhere rows groupings (loses_state standing s.list) s.owner s.list) (words_of s.text)

-- what is wrong with the `unique` statement of row i in a list; none of other rows (RFC 7950 section 7.8.3)
unfoldable pub unique_flaw : List Row → List (Option ℕ) → ConfigUse → ℕ → Option Flaw
unique_flaw rows groupings standing i = said_unique_flaw rows groupings standing (said_at rows word.Unique i)

-- the ways of the words of a `unique` statement, where there is one
abbrev pub said_unique : List Row → List (Option ℕ) → ConfigUse → Option Said → Option (List (List ℕ))
said_unique rows groupings standing None = None
said_unique rows groupings standing (Some s) = unique_words_ways (way_of rows groupings (loses_state standing s.list) s.owner s.list) (words_of s.text)

-- for each word of the `unique` statement of row i the rows that it leads through
unfoldable pub unique_at : List Row → List (Option ℕ) → ConfigUse → ℕ → Option (List (List ℕ))
unique_at rows groupings standing i = said_unique rows groupings standing (said_at rows word.Unique i)

-- row i is a `unique` statement
unfoldable pub is_unique : List Row → ℕ → Bool
is_unique rows i = has_word word.Unique (slice_get rows i)

-- what the `unique` statements directly in list l say, in order; none where one has a flaw or isn't known (RFC 7950 section 7.8.3)
unfoldable pub uniques_of : List Row → List (Option ℕ) → ConfigUse → ℕ → Option (List (List (List ℕ)))
uniques_of rows groupings standing l = all_there (map (unique_at rows groupings standing) (filter (is_unique rows) (children rows l)))
