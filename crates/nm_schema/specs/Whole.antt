-- What is whole in the schema tree that modules give: where leafrefs lead, what is unique in lists, and defaults (RFC 7950
-- sections 7.6.4, 7.8.2, 7.8.3 and 9.9).
use Rattle.std.specs.Prelude.{◌≡◌, ℕ, zero, suc, List, Bool, true, false, Contains, Option, Some, None, slice_get}
use Rattle.nm_types.specs.declared.value.Value.{Value}
use Rattle.nm_types.specs.LeafType.{TypeOfLeaf}
use Rattle.nm_types.specs.Limits.{MeetsLimits}
use Rattle.nm_types.specs.Spells.{SpellsValue}
use Rattle.nm_schema_tree.specs.declared.node.Node.{Node}
use Rattle.nm_schema_tree.specs.declared.node.NodeKind.{NodeKind}
use Rattle.nm_schema_tree.specs.declared.node.NodeKind.TheVariants as kind
use Rattle.nm_schema_tree.specs.declared.node.Reference.{Reference}
use Rattle.nm_schema_tree.specs.Nodes.{parent_of, type_at, reference_at, uniques_at, default_at, is_key}
use Rattle.nm_path.specs.Sound.{is_leaf}

-- ---- leafrefs

-- where one comes to from a node, or from above all nodes, that goes up so many: to a node, or above all nodes; none where that is too many
abbrev pub risen : List Node → ℕ → Option ℕ → Option (Option ℕ)
risen nodes zero from = Some from
risen nodes (suc n) None = None
risen nodes (suc n) (Some i) = risen nodes n (parent_of nodes i)

-- node i leads to a leaf or leaf-list of its own type, and its path turns at a node that the target stands in, or above all nodes (RFC 7950 section 9.9)
pub record IsLed (nodes : List Node) (i : ℕ) (r : Reference) : Type 0 where
  pub leaf_type : TypeOfLeaf
  pub own : type_at nodes i ≡ Some leaf_type
  pub target : type_at nodes r.target ≡ Some leaf_type
  pub turn : Option ℕ
  pub down : ℕ
  pub up : risen nodes r.up (Some i) ≡ Some turn
  pub above : risen nodes (suc down) (Some r.target) ≡ Some turn

-- each leafref leads to a node that it may lead to (RFC 7950 section 9.9)
abbrev pub HaveTargets : List Node → Type 0
HaveTargets nodes = (i : ℕ) (r : Reference) → reference_at nodes i ≡ Some r → IsLed nodes i r

-- ---- what is unique

-- a container, with presence or without
abbrev pub is_container : NodeKind → Bool
is_container (kind.Container p) = true
is_container _ = false

-- what stands in that place stands in node i through containers alone
pub data IsThrough (nodes : List Node) (i : ℕ) : Option ℕ → Type 0 where
  directly : IsThrough nodes i (Some i)
  within : {c : ℕ} (node : Node) → slice_get nodes c ≡ Some node → is_container node.kind ≡ true → IsThrough nodes i node.parent → IsThrough nodes i (Some c)

-- node k is a leaf in node i, through containers alone
pub record IsLeafBelow (nodes : List Node) (i k : ℕ) : Type 0 where
  pub node : Node
  pub there : slice_get nodes k ≡ Some node
  pub leaf : is_leaf node.kind ≡ true
  pub through : IsThrough nodes i node.parent

-- each leaf that a unique statement of a list names lies below the list, through containers alone (RFC 7950 section 7.8.3)
abbrev pub HaveUniques : List Node → Type 0
HaveUniques nodes = (i k : ℕ) (group : List ℕ) → Contains (uniques_at nodes i) group → Contains group k → IsLeafBelow nodes i k

-- ---- defaults

-- a value of a type: a text spells it, and it is within the limits (RFC 7950 section 9)
pub record IsValueOf (t : TypeOfLeaf) (v : Value) : Type 0 where
  pub text : List ℕ
  pub spelled : SpellsValue t.kind text v
  pub within : MeetsLimits t v

-- the default of node i is a value of its type
pub record IsDefault (nodes : List Node) (i : ℕ) (v : Value) : Type 0 where
  pub leaf_type : TypeOfLeaf
  pub own : type_at nodes i ≡ Some leaf_type
  pub value : IsValueOf leaf_type v

-- each default is a value of its leaf's type (RFC 7950 section 7.6.4)
abbrev pub HaveDefaults : List Node → Type 0
HaveDefaults nodes = (i : ℕ) (v : Value) → default_at nodes i ≡ Some v → IsDefault nodes i v

-- keys have no default (RFC 7950 section 7.8.2)
abbrev pub HaveBareKeys : List Node → Type 0
HaveBareKeys nodes = (i : ℕ) → is_key nodes i ≡ true → default_at nodes i ≡ None

-- the nodes of a tree that modules give: each leafref leads to a leaf or leaf-list of its type, each unique statement to leafs below its list, each default
-- is a value of its type, and keys have none
pub record AreWhole (nodes : List Node) : Type 0 where
  pub targets : HaveTargets nodes
  pub uniques : HaveUniques nodes
  pub defaults : HaveDefaults nodes
  pub keys : HaveBareKeys nodes
