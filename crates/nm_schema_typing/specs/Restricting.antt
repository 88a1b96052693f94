-- The restrictions that stand in a `type` statement (RFC 7950 section 7.4).
use Rattle.std.specs.Prelude.{ℕ, List, [], ◌∷◌, map, Option, Some, None, if◌then◌else◌, slice_get}
use Rattle.nm_schema_statements.specs.declared.row.Row.{Row}
use Rattle.nm_schema_statements.specs.declared.word.Word.{Word}
use Rattle.nm_schema_statements.specs.declared.word.Word.TheVariants as word
use Rattle.nm_schema_statements.specs.Rows.{has_word, children, first_below}
use Rattle.nm_schema_statements.specs.Flaw.{text_of}
use Rattle.nm_schema_derive.specs.declared.members.Listed.{Listed}
use Rattle.nm_schema_derive.specs.declared.restrictions.Restrictions.{Restrictions}

-- the arguments that restrict a type, and its `enum` and `bit` statements in order
pub record TypeRestrictions : Type 0 where
  pub digits : Option (List ℕ)
  pub range : Option (List ℕ)
  pub length : Option (List ℕ)
  pub names : List Listed
  pub bits : List Listed

-- restrictions, without where they lie in memory
abbrev pub restrictions_in : Restrictions → TypeRestrictions
restrictions_in r = record { digits = r.digits; range = r.range; length = r.length; names = r.names.items; bits = r.bits.items }

-- the argument of a row
abbrev pub argument_in : Option Row → Option (List ℕ)
argument_in None = None
argument_in (Some r) = r.argument

-- the argument of a row, if there is one
abbrev pub argument_at : List Row → Option ℕ → Option (List ℕ)
argument_at rows None = None
argument_at rows (Some i) = argument_in (slice_get rows i)

-- the argument of the first row with a word that stands directly in row i
abbrev pub argument_below : List Row → ℕ → Word → Option (List ℕ)
argument_below rows i wanted = argument_at rows (first_below rows i wanted)

-- those of some rows that have a word
abbrev pub those_with : List Row → Word → List ℕ → List ℕ
those_with rows wanted [] = []
those_with rows wanted (i ∷ is) = if has_word wanted (slice_get rows i) then i ∷ those_with rows wanted is else those_with rows wanted is

-- the rows with a word that stand directly in row i, in order
unfoldable pub rows_with : List Row → ℕ → Word → List ℕ
rows_with rows i wanted = those_with rows wanted (children rows i)

-- the `enum` or `bit` statement of a row, with the `value` or `position` in it (RFC 7950 sections 9.6.4 and 9.7.4)
unfoldable pub listed_at : List Row → Word → ℕ → Listed
listed_at rows number i = record { name = text_of (argument_at rows (Some i)); number = argument_below rows i number }

-- what restricts the type of row i, which is a `type` statement
unfoldable pub restrictions_of : List Row → ℕ → TypeRestrictions
restrictions_of rows i = record {
  digits = argument_below rows i word.FractionDigits;
  range = argument_below rows i word.Range;
  length = argument_below rows i word.Length;
  names = map (listed_at rows word.Value) (rows_with rows i word.Enum);
  bits = map (listed_at rows word.Position) (rows_with rows i word.Bit);
}
