-- What rows lead to, through `uses`, choices and cases (RFC 7950 sections 7.1, 7.5, 7.8, 7.9, 7.12 and 7.13).
use Rattle.std.specs.Prelude.{◌≡◌, ℕ, ◌<◌, List, [], length, Bool, true, false, Option, Some, None, IfSome, All, filter, option_to_list, if◌then◌else◌, slice_get, slice_index_or}
use Rattle.nm_schema_statements.specs.declared.word.Word.{Word}
use Rattle.nm_schema_statements.specs.declared.word.Word.TheVariants as word
use Rattle.nm_schema_statements.specs.declared.row.Row.{Row}
use Rattle.nm_schema_statements.specs.Flaw.{is_data}
use Rattle.nm_schema_statements.specs.Rows.{children}
use Rattle.nm_graph.specs.Graph.{Graph, successors_of}

-- what nodes of data stand in: a module, a container, a list, a grouping, a choice and a case (RFC 7950 sections 7.1, 7.5, 7.8, 7.9 and 7.12)
abbrev pub is_holder : Word → Bool
is_holder word.«Module» = true
is_holder word.Container = true
is_holder word.List = true
is_holder word.Grouping = true
is_holder word.Choice = true
is_holder word.Case = true
is_holder _ = false

-- the keyword is `uses`
abbrev pub is_uses : Word → Bool
is_uses word.Uses = true
is_uses _ = false

-- a choice or a case: what stands in it stands where it does itself (RFC 7950 section 7.9)
abbrev pub is_fork : Word → Bool
is_fork word.Choice = true
is_fork word.Case = true
is_fork _ = false

-- a row is a choice or a case
abbrev pub is_fork_row : Option Row → Bool
is_fork_row None = false
is_fork_row (Some r) = is_fork r.word

-- row i is a choice or a case
unfoldable pub is_fork_at : List Row → ℕ → Bool
is_fork_at rows i = is_fork_row (slice_get rows i)

-- a node of data or a choice: it has a name where it stands, and may be state (RFC 7950 sections 6.2.1, 7.9 and 7.21.1)
abbrev pub is_node : Word → Bool
is_node word.Choice = true
is_node w = is_data w

-- what is a node of data, or stands for some (RFC 7950 sections 7.9 and 7.13)
abbrev pub is_part : Word → Bool
is_part word.Uses = true
is_part word.Choice = true
is_part word.Case = true
is_part w = is_data w

-- a row is a node of data, or stands for some
abbrev pub is_part_row : Option Row → Bool
is_part_row None = false
is_part_row (Some r) = is_part r.word

-- row i is a node of data, or stands for some
unfoldable pub is_part_at : List Row → ℕ → Bool
is_part_at rows i = is_part_row (slice_get rows i)

-- the grouping that row i names
abbrev pub grouping_at : List (Option ℕ) → ℕ → Option ℕ
grouping_at groupings i = slice_index_or groupings i None

-- what row i leads to: a holder to the nodes, uses, choices and cases that stand in it, a uses to its grouping
abbrev pub led_to : List Row → List (Option ℕ) → ℕ → Option Row → List ℕ
led_to rows groupings i None = []
led_to rows groupings i (Some r) =
    if is_holder r.word then filter (is_part_at rows) (children rows i) else (
    if is_uses r.word then option_to_list (grouping_at groupings i) else [])

-- what row i leads to in one step (this project's own)
unfoldable pub holding : List Row → List (Option ℕ) → ℕ → List ℕ
holding rows groupings i = led_to rows groupings i (slice_get rows i)

-- a row is a node of data
abbrev pub is_data_row : Option Row → Bool
is_data_row None = false
is_data_row (Some r) = is_data r.word

-- row i is a node of data
abbrev pub is_data_at : List Row → ℕ → Bool
is_data_at rows i = is_data_row (slice_get rows i)

-- what the nodes that row i brings rest on: a uses on its grouping, a module, a grouping, a choice and a case on what stands in them, and a node of
-- data, which brings itself, on nothing (this project's own)
unfoldable pub bringing : List Row → List (Option ℕ) → ℕ → List ℕ
bringing rows groupings i = if is_data_at rows i then [] else holding rows groupings i

-- each grouping is a row
abbrev pub AreNamed : List Row → List (Option ℕ) → Type 0
AreNamed rows groupings = All (λ grouping. IfSome grouping (λ g. g < length rows)) groupings

-- each row leads to rows
abbrev pub AreLeading : List Row → List (Option ℕ) → Type 0
AreLeading rows groupings = (i : ℕ) → All (λ next. next < length rows) (holding rows groupings i)

-- a graph of so many rows, each with what it leads to
pub record Draws (next : ℕ → List ℕ) (count : ℕ) (graph : Graph) : Type 0 where
  pub size : length graph ≡ count
  pub each : (i : ℕ) → successors_of graph i ≡ next i

-- a graph leads each row to what stands in it, as `holding` says
abbrev pub IsHolding : List Row → List (Option ℕ) → Graph → Type 0
IsHolding rows groupings graph = Draws (holding rows groupings) (length rows) graph

-- a graph leads each row to what the nodes that it brings rest on, as `bringing` says
abbrev pub IsBringing : List Row → List (Option ℕ) → Graph → Type 0
IsBringing rows groupings graph = Draws (bringing rows groupings) (length rows) graph
