-- What holds of the nodes of a schema that modules give (RFC 7950 sections 6.2.1, 7.5 to 7.8 and 9.2).
use Rattle.std.specs.Prelude.{◌≡◌, ℕ, ◌<◌, ℤ, pos, negsuc, int_lt, ◌≤ℤ◌, eqb, List, length, Bool, true, false, Contains, FitsSigned, Option, Some, None, slice_get, ⊤}
use Rattle.std.specs.Int.{w128}
use Rattle.std.specs.List.{IsDistinct}
use Rattle.nm_types.specs.LeafType.{Kind, integer, TypeOfLeaf}
use Rattle.nm_types.specs.Spells.{HasDistinctNames}
use Rattle.nm_schema_tree.specs.declared.node.Node.{Node}
use Rattle.nm_schema_tree.specs.declared.node.NodeKind.{NodeKind}
use Rattle.nm_schema_tree.specs.declared.node.NodeKind.TheVariants as kind
use Rattle.nm_schema_tree.specs.Nodes.{type_at, keys_of}
use Rattle.nm_schema_tree.specs.Levels.{IsTree}
use Rattle.nm_path.specs.Written.{IsWellNamed}

-- ---- names

-- two nodes stand in one node, or at the top, and have one module and one name
pub record HaveOneName (n m : Node) : Type 0 where
  pub parent : n.parent ≡ m.parent
  pub «module» : n.«module» ≡ m.«module»
  pub name : n.name ≡ m.name

-- the nodes that stand in one node, or at the top of one module, have names of their own (RFC 7950 section 6.2.1)
abbrev pub AreApart : List Node → Type 0
AreApart nodes = (i j : ℕ) (n m : Node) → slice_get nodes i ≡ Some n → slice_get nodes j ≡ Some m → HaveOneName n m → i ≡ j

-- ---- what stands in what

-- what nodes stand in: a container or a list (RFC 7950 sections 7.5 and 7.8)
abbrev pub is_holder : NodeKind → Bool
is_holder (kind.Container p) = true
is_holder (kind.List ks u e) = true
is_holder _ = false

-- a leaf, which is no leaf-list
abbrev pub is_leaf : NodeKind → Bool
is_leaf (kind.Leaf t d m r) = true
is_leaf _ = false

-- node p is a container or a list
pub record IsHolder (nodes : List Node) (p : ℕ) : Type 0 where
  pub node : Node
  pub there : slice_get nodes p ≡ Some node
  pub holder : is_holder node.kind ≡ true

-- node k is a leaf that stands directly in node i
pub record IsLeafIn (nodes : List Node) (i k : ℕ) : Type 0 where
  pub node : Node
  pub there : slice_get nodes k ≡ Some node
  pub leaf : is_leaf node.kind ≡ true
  pub within : node.parent ≡ Some i

-- each node that isn't at the top stands in a container or a list
abbrev pub StandInHolders : List Node → Type 0
StandInHolders nodes = (i p : ℕ) (n : Node) → slice_get nodes i ≡ Some n → n.parent ≡ Some p → IsHolder nodes p

-- ---- keys

-- the keys of list i: at least one, leafs that stand directly in it, each once (RFC 7950 section 7.8.2)
pub record AreKeys (nodes : List Node) (i : ℕ) (keys : List ℕ) : Type 0 where
  pub some : 0 < length keys
  pub leafs : (k : ℕ) → Contains keys k → IsLeafIn nodes i k
  pub once : IsDistinct eqb keys

-- a list has its keys; other nodes need none
abbrev pub HasKeys : List Node → ℕ → NodeKind → Type 0
HasKeys nodes i (kind.List keys u e) = AreKeys nodes i keys
HasKeys nodes i _ = ⊤

-- each list has its keys
abbrev pub HaveKeys : List Node → Type 0
HaveKeys nodes = (i : ℕ) (n : Node) → slice_get nodes i ≡ Some n → HasKeys nodes i n.kind

-- ---- types

-- an integer type whose highest number has at most 32 bits has no number below those that 32 bits hold (RFC 7950 section 9.2)
abbrev pub HasLow : Kind → Type 0
HasLow (integer low high) = int_lt high (pos 4294967296) ≡ true → negsuc 2147483647 ≤ℤ low
HasLow _ = ⊤

-- the types of leafs and leaf-lists are those of YANG (RFC 7950 sections 9.2 and 9.7.4)
abbrev pub HaveTypes : List Node → Type 0
HaveTypes nodes = (i : ℕ) (t : TypeOfLeaf) → type_at nodes i ≡ Some t → HasLow t.kind × HasDistinctNames t.kind

-- the bounds of an integer type are numbers that a `Value` holds (this project's own; RFC 7950 section 9.2 has at most 64 bits)
abbrev pub HasHeldBounds : Kind → Type 0
HasHeldBounds (integer low high) = FitsSigned w128 low × FitsSigned w128 high
HasHeldBounds _ = ⊤

-- the bounds of each leaf's and leaf-list's integer type are numbers that a `Value` holds (this project's own)
abbrev pub HaveHeldBounds : List Node → Type 0
HaveHeldBounds nodes = (i : ℕ) (t : TypeOfLeaf) → type_at nodes i ≡ Some t → HasHeldBounds t.kind

-- a schema as modules give it: its names are identifiers and tell nodes, keys and bits apart; each node stands in an earlier one of its module, which is a
-- container or a list; a list has keys, which are leafs in it; and the types are those of YANG
pub record IsSound (nodes : List Node) : Type 0 where
  pub named : IsWellNamed nodes
  pub apart : AreApart nodes
  pub tree : IsTree nodes
  pub holders : StandInHolders nodes
  pub keys : HaveKeys nodes
  pub types : HaveTypes nodes
  pub bounds : HaveHeldBounds nodes
