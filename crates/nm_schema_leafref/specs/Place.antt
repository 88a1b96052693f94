-- Nodes of the tree of modules: what they stand in, what they are, and what is known of what stands in them.
use Rattle.std.specs.Prelude.{◌≡◌, slice_index_or, ℕ, suc, zero, Bool, true, false, ◌&&◌, ◌==◌, List, length, Option, Some, None, is_some, slice_get}
use Rattle.nm_schema_statements.specs.declared.row.Row.{Row}
use Rattle.nm_schema_statements.specs.declared.word.Word.{Word}
use Rattle.nm_schema_statements.specs.declared.word.Word.TheVariants as word
use Rattle.nm_schema_uses.specs.Members.{members}
use Rattle.nm_schema_nodes.specs.declared.instance.Instance.{Instance}
use Rattle.nm_schema_nodes.specs.Expansion.{Expanded, row_of, owner_of, module_row, is_grown}

-- the node that a node stands in
abbrev pub parent_in : Option Instance → Option ℕ
parent_in None = None
parent_in (Some n) = n.parent

-- the node that node i stands in
unfoldable pub parent_of : List Instance → ℕ → Option ℕ
parent_of nodes i = parent_in (slice_get nodes i)

-- how many nodes there are from a node up to the top, itself included, as far as so many steps lead
abbrev pub levels_within : ℕ → List Instance → Option ℕ → ℕ
levels_within steps nodes None = 0
levels_within zero nodes (Some i) = 0
levels_within (suc steps) nodes (Some i) = suc (levels_within steps nodes (parent_of nodes i))

-- how many nodes there are from node i up to the top, itself included; each stands in an earlier one
unfoldable pub levels_of : List Instance → ℕ → ℕ
levels_of nodes i = levels_within (length nodes) nodes (Some i)

-- what has a value (RFC 7950 sections 7.6 and 7.7)
abbrev pub is_leaf : Word → Bool
is_leaf word.Leaf = true
is_leaf word.LeafList = true
is_leaf _ = false

-- a row is a leaf or a leaf-list
abbrev pub is_leaf_in : Option Row → Bool
is_leaf_in None = false
is_leaf_in (Some r) = is_leaf r.word

-- row i is a leaf or a leaf-list
abbrev pub is_leaf_at : List Row → Option ℕ → Bool
is_leaf_at rows None = false
is_leaf_at rows (Some i) = is_leaf_in (slice_get rows i)

-- node i is a leaf or leaf-list
unfoldable pub is_leaf_node : Expanded → ℕ → Bool
is_leaf_node t i = is_leaf_at t.rows (row_of t.nodes i)

-- what stands in a row is known
abbrev pub is_known : List Row → List (Option ℕ) → Option ℕ → Bool
is_known rows groupings None = false
is_known rows groupings (Some i) = is_some (members rows groupings i)

-- what stands in node i is known: no uses of it is without its grouping (this project's own)
unfoldable pub is_known_node : Expanded → ℕ → Bool
is_known_node t i = is_known t.rows t.groupings (row_of t.nodes i)

-- module m is expanded, and what stands at its top is known (this project's own)
unfoldable pub is_known_module : Expanded → ℕ → Bool
is_known_module t m = is_grown t.rows t.groupings m && is_known t.rows t.groupings (module_row t.rows m)

-- it is module m
abbrev pub is_number : Option ℕ → ℕ → Bool
is_number None m = false
is_number (Some n) m = n == m

-- node i is in the tree of module m
unfoldable pub is_of_module : Expanded → ℕ → ℕ → Bool
is_of_module t i m = is_number (owner_of t.nodes i) m

-- what is known of the places of a tree: its rows, and which of its nodes and modules are known
pub record IsTree (t : Expanded) (rows : List Row) (nodes modules : List Bool) : Type 0 where
  pub rows_are : rows ≡ t.rows
  pub nodes_are : (i : ℕ) → slice_index_or nodes i false ≡ is_known_node t i
  pub modules_are : (m : ℕ) → slice_index_or modules m false ≡ is_known_module t m
