-- Where the names of types and groupings lead (RFC 7950 sections 5.5, 7.3, 7.12 and 7.13).
use Rattle.std.specs.Prelude.{ℕ, zero, suc, List, [], ◌∷◌, Option, Some, None, if◌then◌else◌, slice_get}
use Rattle.std.specs.Option.{option_or}
use Rattle.nm_schema_statements.specs.declared.word.Word.{Word}
use Rattle.nm_schema_statements.specs.declared.word.Word.TheVariants as word
use Rattle.nm_schema_statements.specs.declared.row.Row.{Row}
use Rattle.nm_schema_statements.specs.Text.{prefix_of, name_of, is_builtin}
use Rattle.nm_schema_names.specs.Named.{named, named_in, is_own, prefix_leads, parent_of}

-- the statements around a row that stands in `parent`, from inside out; at most so many
abbrev pub enclosing_within : ℕ → List Row → Option ℕ → List ℕ
enclosing_within steps rows None = []
enclosing_within zero rows (Some i) = []
enclosing_within (suc steps) rows (Some i) = i ∷ enclosing_within steps rows (parent_of rows i)

-- the statements around row i, from inside out to the module (RFC 7950 section 5.5); each stands before what is in it, so there are at most i
unfoldable pub enclosing : List Row → ℕ → List ℕ
enclosing rows i = enclosing_within i rows (parent_of rows i)

-- what has a word and a name directly in the first of these statements where anything has
abbrev pub innermost : List Row → Word → List ℕ → List ℕ → Option ℕ
innermost rows w name [] = None
innermost rows w name (i ∷ is) = option_or (named rows (Some i) w name) (innermost rows w name is)

-- the definition of a name without a prefix that is used at row `at` (RFC 7950 section 5.5)
unfoldable pub scoped : List Row → ℕ → Word → List ℕ → Option ℕ
scoped rows at w name = innermost rows w name (enclosing rows at)

-- the same of a name that may have a prefix; the module's own counts as none (RFC 7950 sections 7.3 and 7.13)
abbrev pub definition_by : List Row → ℕ → Word → ℕ → Option (List ℕ) → List ℕ → Option ℕ
definition_by rows at w m None name = scoped rows at w name
definition_by rows at w m (Some prefix) name =
    if is_own rows m prefix then scoped rows at w name else named_in rows (prefix_leads rows m prefix) w name

-- the definition of a name as a row writes it, in the row's own module or in that of the prefix
abbrev pub definition_for : List Row → ℕ → Word → List ℕ → Option Row → Option ℕ
definition_for rows at w text None = None
definition_for rows at w text (Some r) = definition_by rows at w r.«module» (prefix_of text) (name_of text)

-- the typedef or grouping, by the word, of a name as it is written at row `at`
unfoldable pub definition : List Row → ℕ → Word → List ℕ → Option ℕ
definition rows at w text = definition_for rows at w text (slice_get rows at)

-- what an argument leads to, by the word of its statement
abbrev pub text_leads : List Row → ℕ → Word → List ℕ → Option ℕ
text_leads rows at word.«Type» text = if is_builtin text then None else definition rows at word.Typedef text
text_leads rows at word.Uses text = definition rows at word.Grouping text
text_leads rows at _ text = None

-- what an argument leads to; a statement without one leads nowhere
abbrev pub argument_leads : List Row → ℕ → Word → Option (List ℕ) → Option ℕ
argument_leads rows at w None = None
argument_leads rows at w (Some text) = text_leads rows at w text

-- the definition that the name of a row leads to
abbrev pub row_leads : List Row → ℕ → Option Row → Option ℕ
row_leads rows at None = None
row_leads rows at (Some r) = argument_leads rows at r.word r.argument

-- the typedef that a type names, and the grouping that a uses names (RFC 7950 sections 7.4 and 7.13)
unfoldable pub leads_to : List Row → ℕ → Option ℕ
leads_to rows at = row_leads rows at (slice_get rows at)
