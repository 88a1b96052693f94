-- The words in the arguments of `key` and `unique` (RFC 7950 sections 7.8.2, 7.8.3 and 14).
use Rattle.std.specs.Prelude.{ℕ, List, eqb, filter, Option, Some, None, if◌then◌else◌}
use Rattle.std.specs.List.{slice_split}
use Rattle.nm_yang.specs.Byte.{is_white}
use Rattle.nm_schema_statements.specs.declared.row.Row.{Row}
use Rattle.nm_schema_statements.specs.Text.{is_some_text, is_reference, prefix_of, name_of}
use Rattle.nm_schema_names.specs.Named.{is_own}

-- the words of a text: what blanks part, without empty ones (RFC 7950 section 14: sep)
unfoldable pub words_of : List ℕ → List (List ℕ)
words_of text = filter is_some_text (slice_split is_white text)

-- the pieces of a word, which `/` parts (RFC 7950 section 14: descendant-schema-nodeid)
unfoldable pub pieces_of : List ℕ → List (List ℕ)
pieces_of word = slice_split (λ b. eqb b 47) word

-- the name that a word of module m says: one without a prefix or with the module's own; another prefix names none
abbrev pub name_by : List Row → ℕ → List ℕ → Option (List ℕ) → Option (List ℕ)
name_by rows m name None = Some name
name_by rows m name (Some prefix) = if is_own rows m prefix then Some name else None

-- the name of a word: of an identifier that has no prefix, or that of module m itself (RFC 7950 section 14: node-identifier)
unfoldable pub own_name : List Row → ℕ → List ℕ → Option (List ℕ)
own_name rows m word = if is_reference word then name_by rows m (name_of word) (prefix_of word) else None
