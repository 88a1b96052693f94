-- The module that is added to those that are given: a mark for each change that was applied (this project's own).
use Rattle.std.specs.Prelude.{◌≡◌, ℕ, ◌+◌, pos, List, [], ◌∷◌, codes, Option, Some, None, false, slice_get}
use Rattle.nm_base.specs.Words.{marker_name}
use Rattle.nm_types.specs.LeafType.{TypeOfLeaf, integer}
use Rattle.nm_schema_tree.specs.declared.node.Node.{Node}
use Rattle.nm_schema_tree.specs.declared.node.NodeKind.{NodeKind}
use Rattle.nm_schema_tree.specs.declared.node.NodeKind.TheVariants as kind
use Rattle.nm_schema_tree.specs.Nodes.{SchemaTree}

-- the numbers of changes: `uint32` (RFC 7950 section 9.2)
abbrev pub change_type : TypeOfLeaf
change_type = record { kind = integer (pos 0) (pos 4294967295); limits = None }

-- a node of the module that is added
abbrev pub marker_node : Option ℕ → List ℕ → NodeKind → Node
marker_node parent name k = record { parent = parent; case_in = None; «module» = marker_name; name = name; kind = k }

-- container `changes`
unfoldable pub changes_node : Node
changes_node = marker_node None (codes "changes") (kind.Container false)

-- list `applied` with the key `change`, in it: one entry for each change that was applied
unfoldable pub applied_node : ℕ → Node
applied_node n = marker_node (Some n) (codes "applied") (kind.List ((n + 2) ∷ []) [] (record { min = None; max = None }))

-- leaf `change`, in that: its number
unfoldable pub change_node : ℕ → Node
change_node n = marker_node (Some (n + 1)) (codes "change") (kind.Leaf change_type None false None)

-- its nodes, after n others
abbrev pub marker_nodes : ℕ → List Node
marker_nodes n = changes_node ∷ applied_node n ∷ change_node n ∷ []

-- the nodes of the marker module stand in a tree, one after another
pub record HasMarker (t : SchemaTree) : Type 0 where
  pub at : ℕ
  pub changes : slice_get t.nodes at ≡ Some changes_node
  pub applied : slice_get t.nodes (at + 1) ≡ Some (applied_node at)
  pub change : slice_get t.nodes (at + 2) ≡ Some (change_node at)
