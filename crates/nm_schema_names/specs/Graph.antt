-- What a row leads to, where no row may lead to itself (RFC 7950 sections 7.3, 7.12 and 7.13).
use Rattle.std.specs.Prelude.{◌≡◌, ℕ, ◌<◌, List, [], ◌∷◌, length, filter, Bool, true, false, Option, Some, None, slice_get}
use Rattle.nm_graph.specs.Graph.{Graph, IsGraph, successors_of}
use Rattle.nm_schema_statements.specs.declared.word.Word.{Word}
use Rattle.nm_schema_statements.specs.declared.word.Word.TheVariants as word
use Rattle.nm_schema_statements.specs.declared.row.Row.{Row}
use Rattle.nm_schema_statements.specs.Rows.{children, first_below}
use Rattle.nm_schema_names.specs.Leads.{leads_to}

-- what makes nodes of data where it stands (RFC 7950 sections 7.5 to 7.9 and 7.13)
abbrev pub is_part : Word → Bool
is_part word.Container = true
is_part word.List = true
is_part word.Leaf = true
is_part word.LeafList = true
is_part word.Uses = true
is_part word.Choice = true
is_part word.Case = true
is_part _ = false

-- a row makes nodes of data where it stands
abbrev pub is_part_in : Option Row → Bool
is_part_in None = false
is_part_in (Some r) = is_part r.word

-- row i makes nodes of data where it stands (RFC 7950 sections 7.5 to 7.9 and 7.13)
abbrev pub is_part_at : List Row → ℕ → Bool
is_part_at rows i = is_part_in (slice_get rows i)

-- the rows directly in row i that make nodes
unfoldable pub parts : List Row → ℕ → List ℕ
parts rows i = filter (is_part_at rows) (children rows i)

-- a row as a list of one, and no row as the empty list
abbrev pub listed : Option ℕ → List ℕ
listed None = []
listed (Some i) = i ∷ []

-- what a row leads to, by its word: its parts, its type, or what its name leads to
abbrev pub word_leading : List Row → ℕ → Word → List ℕ
word_leading rows i word.Module = parts rows i
word_leading rows i word.Container = parts rows i
word_leading rows i word.List = parts rows i
word_leading rows i word.Grouping = parts rows i
word_leading rows i word.Choice = parts rows i
word_leading rows i word.Case = parts rows i
word_leading rows i word.Leaf = listed (first_below rows i word.«Type»)
word_leading rows i word.LeafList = listed (first_below rows i word.«Type»)
word_leading rows i word.Typedef = listed (first_below rows i word.«Type»)
word_leading rows i word.Uses = listed (leads_to rows i)
word_leading rows i word.«Type» = listed (leads_to rows i)
word_leading rows i _ = []

-- what row i leads to; where there is no row, nothing
abbrev pub row_leading : List Row → ℕ → Option Row → List ℕ
row_leading rows i None = []
row_leading rows i (Some r) = word_leading rows i r.word

-- what row i leads to (this project's own)
unfoldable pub leading : List Row → ℕ → List ℕ
leading rows i = row_leading rows i (slice_get rows i)

-- a graph has a node for each row, which leads to what the row leads to
pub record IsGraphOf (rows : List Row) (graph : Graph) : Type 0 where
  pub size : length graph ≡ length rows
  pub leads : (i : ℕ) → i < length rows → successors_of graph i ≡ leading rows i
  pub within : IsGraph graph
