-- Which rows are a configuration of a schema (RFC 7950 sections 7.5 to 7.8).
use Rattle.std.specs.Prelude.{◌≡◌, ℕ, ◌≤◌, List, [], ◌∷◌, ◌++◌, Bool, true, false, Option, Some, None, is_some, slice_get, ⊤}
use Rattle.std.specs.FinMap.{get, len}
use Rattle.nm_types.specs.LeafType.{TypeOfLeaf}
use Rattle.nm_types.specs.Path.{PathStep, Choice, whole, keys, entry}
use Rattle.nm_types.specs.declared.value.Value.{Value}
use Rattle.nm_types.specs.declared.value.Value.TheVariants.{Present}
use Rattle.nm_schema_tree.specs.declared.node.Node.{Node}
use Rattle.nm_schema_tree.specs.declared.node.NodeKind.{NodeKind}
use Rattle.nm_schema_tree.specs.declared.node.NodeKind.TheVariants.{Container, Leaf, LeafList, List as ListOf}
use Rattle.nm_schema_tree.specs.Nodes.{SchemaTree, type_at, is_key}
use Rattle.nm_path.specs.declared.place.Place.{Place}
use Rattle.nm_path.specs.declared.place.Place.TheVariants.{Top, Within}
use Rattle.nm_path.specs.Spelling.{found_of, node_of}
use Rattle.nm_config.specs.Rows.{Rows}
use Rattle.nm_json.specs.Whole.{row_limit}
use Rattle.nm_json.specs.Laws.{IsOfType}

-- ---- the steps of a row

-- a value is one of the type of the leaf or leaf-list `at`
pub record IsValueOf (nodes : List Node) (at : ℕ) (v : Value) : Type 0 where
  pub leaf_type : TypeOfLeaf
  pub typed : type_at nodes at ≡ Some leaf_type
  pub fits : IsOfType leaf_type v

-- there is a value for each key, of its type (RFC 7950 section 7.8.2)
abbrev pub AreKeyValues : List Node → List ℕ → List Value → Type 0
AreKeyValues nodes [] [] = ⊤
AreKeyValues nodes (k ∷ ks) (v ∷ vs) = IsValueOf nodes k v × AreKeyValues nodes ks vs
AreKeyValues nodes _ _ = ⊥

-- a path goes on below a container, and below an entry of a list (RFC 7950 sections 7.5 and 7.8)
abbrev pub GoesOn : List Node → NodeKind → Choice → Type 0
GoesOn nodes (Container presence) whole = ⊤
GoesOn nodes (ListOf ks u e) (keys vs) = AreKeyValues nodes ks vs
GoesOn nodes _ _ = ⊥

-- a row is a container with presence, a leaf that is no key, an entry of a leaf-list or an entry of a list (RFC 7950 sections 7.5.1, 7.6, 7.7 and 7.8)
abbrev pub EndsAt : List Node → ℕ → NodeKind → Choice → Value → Type 0
EndsAt nodes at (Container presence) whole v = (presence ≡ true) × (v ≡ Present)
EndsAt nodes at (Leaf t d m r) whole v = (is_key nodes at ≡ false) × IsValueOf nodes at v
EndsAt nodes at (LeafList t r e) (entry w) v = (v ≡ w) × IsValueOf nodes at w
EndsAt nodes at (ListOf ks u e) (keys vs) v = (v ≡ Present) × AreKeyValues nodes ks vs
EndsAt nodes at _ _ v = ⊥

-- a step leads from a place to a node of the schema, which has a number
pub record LeadsTo (nodes : List Node) (place : Place) (s : PathStep) (at : ℕ) (node : Node) : Type 0 where
  pub leads : found_of nodes place s.«module» s.name ≡ Some at
  pub there : slice_get nodes at ≡ Some node

-- steps lead through the schema from a place to a row
abbrev pub IsRow : List Node → Place → List PathStep → Value → Type 0
IsRow nodes place [] v = ⊥
IsRow nodes place (s ∷ []) v = (at : ℕ) × (node : Node) × LeadsTo nodes place s at node × EndsAt nodes at node.kind s.chosen v
IsRow nodes place (s ∷ r ∷ ss) v =
    (at : ℕ) × (node : Node) × LeadsTo nodes place s at node × GoesOn nodes node.kind s.chosen × IsRow nodes (Within at) (r ∷ ss) v

-- ---- configurations

-- the entries of a list and a container with presence are rows of their own, below which there may be others
abbrev pub is_own : NodeKind → Bool
is_own (Container presence) = presence
is_own (ListOf ks u e) = true
is_own (Leaf t d m r) = false
is_own (LeafList t r e) = false

-- the same of a node, if there is one
abbrev pub is_own_in : Option Node → Bool
is_own_in None = false
is_own_in (Some n) = is_own n.kind

-- the same of the node with a number, if there is one
abbrev pub is_own_at : List Node → Option ℕ → Bool
is_own_at nodes None = false
is_own_at nodes (Some at) = is_own_in (slice_get nodes at)

-- these rows are a configuration of a schema: each is a row of it, each list entry and container with presence that a row is
-- below is a row too, and they are at most 20,000 (this project's own)
pub record IsConfigOf (t : SchemaTree) (rows : Rows) : Type 0 where
  pub each : (path : List PathStep) (v : Value) → get rows path ≡ Some v → IsRow t.nodes Top path v
  pub above : (path : List PathStep) (s : PathStep) (more : List PathStep) (v : Value) → get rows (path ++ s ∷ more) ≡ Some v
      → is_own_at t.nodes (node_of t path) ≡ true → is_some (get rows path) ≡ true
  pub few : len rows ≤ row_limit
