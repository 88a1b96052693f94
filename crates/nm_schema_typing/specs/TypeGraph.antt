-- Where the type of a row comes from (RFC 7950 sections 7.3, 7.4, 7.6 and 7.7).
use Rattle.std.specs.Prelude.{◌≡◌, ℕ, ◌<◌, Bool, true, false, List, [], ◌∷◌, length, Option, Some, None, if◌then◌else◌, slice_get, slice_index_or}
use Rattle.nm_graph.specs.Graph.{Graph, successors_of}
use Rattle.nm_schema_statements.specs.declared.row.Row.{Row}
use Rattle.nm_schema_statements.specs.declared.word.Word.{Word}
use Rattle.nm_schema_statements.specs.declared.word.Word.TheVariants as word
use Rattle.nm_schema_statements.specs.Rows.{has_word, first_below}

-- a statement whose type is that of the `type` statement in it
abbrev pub is_typed : Word → Bool
is_typed word.Typedef = true
is_typed word.Leaf = true
is_typed word.LeafList = true
is_typed _ = false

-- the keyword is `type`
abbrev pub is_type : Word → Bool
is_type word.«Type» = true
is_type _ = false

-- a number that is a typedef's row
abbrev pub typedef_at : List Row → Option ℕ → List ℕ
typedef_at rows None = []
typedef_at rows (Some n) = if has_word word.Typedef (slice_get rows n) then n ∷ [] else []

-- the typedef that the `type` statement of row i names, if it names one
unfoldable pub named_typedef : List Row → List (Option ℕ) → ℕ → List ℕ
named_typedef rows typedefs i = typedef_at rows (slice_index_or typedefs i None)

-- a row as a list of one, and no row as the empty list
abbrev pub at_most_one : Option ℕ → List ℕ
at_most_one None = []
at_most_one (Some n) = n ∷ []

-- the `type` statement that stands directly in row i, if there is one
unfoldable pub type_below : List Row → ℕ → List ℕ
type_below rows i = at_most_one (first_below rows i word.«Type»)

-- what the type of a row comes from: a leaf's from its `type` statement, that one's from the typedef that it names
abbrev pub leads_from : List Row → List (Option ℕ) → ℕ → Option Row → List ℕ
leads_from rows typedefs i None = []
leads_from rows typedefs i (Some r) = if is_typed r.word then type_below rows i else (if is_type r.word then named_typedef rows typedefs i else [])

-- where the type of a row comes from: a typedef, leaf or leaf-list leads to its `type` statement, that to the typedef that it names
unfoldable pub leads : List Row → List (Option ℕ) → ℕ → List ℕ
leads rows typedefs i = leads_from rows typedefs i (slice_get rows i)

-- a graph that leads each row there
pub record IsTypeGraph (rows : List Row) (typedefs : List (Option ℕ)) (graph : Graph) : Type 0 where
  pub size : length graph ≡ length rows
  pub each : (i : ℕ) → i < length graph → successors_of graph i ≡ leads rows typedefs i
