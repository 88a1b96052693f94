-- Which edits are edits of a schema tree (RFC 7950 sections 7.5 to 7.8).
use Rattle.std.specs.Prelude.{◌≡◌, ℕ, List, ◌∷◌, ◌++◌, map, Bool, true, false, ◌||◌, Option, Some, None, is_some, slice_get, if◌then◌else◌}
use Rattle.std.specs.List.{list_any, AllByRecursion}
use Rattle.std.specs.List.Sorted.{IsStrictlySortedBy}
use Rattle.nm_types.specs.Path.{PathStep, path_cmp, Choice, whole, keys, entry}
use Rattle.nm_types.specs.declared.value.Value.{Value}
use Rattle.nm_types.specs.declared.value.Value.TheVariants.{Present}
use Rattle.nm_schema_tree.specs.declared.node.Node.{Node}
use Rattle.nm_schema_tree.specs.declared.node.NodeKind.{NodeKind}
use Rattle.nm_schema_tree.specs.declared.node.NodeKind.TheVariants.{Container, Leaf, LeafList, List as ListOf}
use Rattle.nm_schema_tree.specs.Nodes.{SchemaTree, is_key}
use Rattle.nm_path.specs.Spelling.{node_of}
use Rattle.nm_validate_rules.specs.Values.{is_same_path}
use Rattle.nm_validate_rules.specs.Violated.{last_chosen}
use Rattle.nm_edit.specs.declared.operation.Operation.{Operation}
use Rattle.nm_edit.specs.declared.operation.Operation.TheVariants.{Delete, Remove}
use Rattle.nm_edit.specs.declared.edit.EditNode.{EditNode}

-- an operation that takes a node away
abbrev pub is_removal : Option Operation → Bool
is_removal (Some Delete) = true
is_removal (Some Remove) = true
is_removal _ = false

-- what a node of an edit chooses and the value of its row fit its node: a container without presence has no row, and a leaf
-- may lack its value only where it is taken away
abbrev pub HasWorth : Option Operation → NodeKind → Choice → Option Value → Type 0
HasWorth said (Container presence) whole value = value ≡ (if presence then Some Present else None)
HasWorth said (ListOf ks u e) (keys vs) value = value ≡ Some Present
HasWorth said (LeafList t r e) (entry v) value = value ≡ Some v
HasWorth said (Leaf t d m r) whole value = (is_some value || is_removal said) ≡ true
HasWorth said _ _ value = ⊥

-- a node of an edit leads to a node of the schema that is no key
pub record IsNamed (t : SchemaTree) (n : EditNode) : Type 0 where
  pub at : ℕ
  pub node : Node
  pub leads : node_of t n.path ≡ Some at
  pub there : slice_get t.nodes at ≡ Some node
  pub no_key : is_key t.nodes at ≡ false
  pub worth : HasWorth n.operation node.kind (last_chosen n.path) n.value

-- the paths of an edit's nodes, in their order
abbrev pub paths : List EditNode → List (List PathStep)
paths nodes = map (λ n. n.path) nodes

-- an edit names a path
abbrev pub names : List EditNode → List PathStep → Bool
names nodes path = list_any (λ n. is_same_path n.path path) nodes

-- an edit of a schema tree: its nodes stand in path order, each once, and each container and list entry above one is one too (this project's own)
pub record IsEditOf (t : SchemaTree) (nodes : List EditNode) : Type 0 where
  pub ordered : IsStrictlySortedBy path_cmp (paths nodes)
  pub each : AllByRecursion (IsNamed t) nodes
  pub above : (s : PathStep) (ss : List PathStep) (r : PathStep) (more : List PathStep) → names nodes (s ∷ ss ++ r ∷ more) ≡ true → names nodes (s ∷ ss) ≡ true
