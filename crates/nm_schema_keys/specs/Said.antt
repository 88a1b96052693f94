-- Statements that stand in lists.
use Rattle.std.specs.Prelude.{ℕ, List, Option, Some, None, if◌then◌else◌, slice_get}
use Rattle.nm_schema_statements.specs.declared.word.Word.{Word}
use Rattle.nm_schema_statements.specs.declared.word.Word.TheVariants as word
use Rattle.nm_schema_statements.specs.declared.row.Row.{Row}
use Rattle.nm_schema_statements.specs.Word.{same_word}
use Rattle.nm_schema_statements.specs.Flaw.{text_of}
use Rattle.nm_schema_statements.specs.Rows.{has_word}

-- a statement in a list: the list, the module, and the argument
pub record Said : Type 0 where
  pub list : ℕ
  pub owner : ℕ
  pub text : List ℕ

-- a statement within row l, where that is a list
abbrev pub said_within : List Row → Row → Option ℕ → Option Said
said_within rows r None = None
said_within rows r (Some l) = if has_word word.List (slice_get rows l) then Some (record { list = l; owner = r.«module»; text = text_of r.argument }) else None

-- a row as a statement in a list, where it has the word
abbrev pub said_in : List Row → Word → Option Row → Option Said
said_in rows wanted None = None
said_in rows wanted (Some r) = if same_word r.word wanted then said_within rows r r.parent else None

-- the statement of row i, where it has the word and stands in a list (RFC 7950 sections 7.8.2 and 7.8.3)
unfoldable pub said_at : List Row → Word → ℕ → Option Said
said_at rows wanted i = said_in rows wanted (slice_get rows i)
