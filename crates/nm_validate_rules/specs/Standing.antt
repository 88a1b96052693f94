-- What stands where in a configuration of a schema tree (RFC 7950 sections 7.5 to 7.8).
use Rattle.std.specs.Prelude.{◌≡◌, ℕ, List, [], ◌∷◌, ◌++◌, Bool, true, false, not, ◌&&◌, Option, Some, None, slice_get}
use Rattle.std.specs.FinMap.{contains_key}
use Rattle.nm_types.specs.Path.{PathStep, Choice, whole, keys, entry}
use Rattle.nm_schema_tree.specs.declared.node.Node.{Node}
use Rattle.nm_schema_tree.specs.declared.node.NodeKind.{NodeKind}
use Rattle.nm_schema_tree.specs.declared.node.NodeKind.TheVariants.{Container, Leaf, LeafList, List as ListOf}
use Rattle.nm_schema_tree.specs.Nodes.{SchemaTree, is_key, is_guard_at}
use Rattle.nm_path.specs.Spelling.{node_of}
use Rattle.nm_config.specs.Rows.{Rows}

-- what is chosen of a node of the configuration: an entry of a list by its keys, an entry of a leaf-list by its value, of containers and leafs nothing
abbrev pub is_chosen : NodeKind → Choice → Bool
is_chosen (Container presence) whole = true
is_chosen (Leaf t d m r) whole = true
is_chosen (LeafList t r e) (entry value) = true
is_chosen (ListOf ks u e) (keys values) = true
is_chosen _ _ = false

-- a node has a row of its own: all but containers without presence and key leafs
abbrev pub is_row : Bool → NodeKind → Bool
is_row is_a_key (Container presence) = presence
is_row is_a_key (Leaf t d m r) = not is_a_key
is_row is_a_key (LeafList t r e) = true
is_row is_a_key (ListOf ks u e) = true

-- what a step chooses fits the node that it leads to
abbrev pub is_chosen_in : Option Node → Choice → Bool
is_chosen_in None chosen = false
is_chosen_in (Some n) chosen = is_chosen n.kind chosen

-- a node, which may be a key, has a row of its own
abbrev pub is_row_in : Bool → Option Node → Bool
is_row_in is_a_key None = false
is_row_in is_a_key (Some n) = is_row is_a_key n.kind

-- the node that a path leads to is chosen as the last step says
abbrev pub is_chosen_at : List Node → Option ℕ → Choice → Bool
is_chosen_at nodes None chosen = false
is_chosen_at nodes (Some x) chosen = is_chosen_in (slice_get nodes x) chosen

-- a node has a row of its own, if there is one
abbrev pub is_row_at : List Node → Option ℕ → Bool
is_row_at nodes None = false
is_row_at nodes (Some x) = is_row_in (is_key nodes x) (slice_get nodes x)

-- a node is a list or a container with presence, if there is one
abbrev pub is_own_at : List Node → Option ℕ → Bool
is_own_at nodes None = false
is_own_at nodes (Some x) = is_guard_at nodes x

-- the last node of a path has a row, and each node on the way is chosen
abbrev pub is_row_from : SchemaTree → List PathStep → List PathStep → Bool
is_row_from t above [] = is_row_at t.nodes (node_of t above)
is_row_from t above (s ∷ ss) = is_chosen_at t.nodes (node_of t (above ++ s ∷ [])) s.chosen && is_row_from t (above ++ s ∷ []) ss

-- a path leads through the schema to a row: a container with presence, a leaf that is no key, or an entry of a list or leaf-list
abbrev pub is_row_path : SchemaTree → List PathStep → Bool
is_row_path t path = is_row_from t [] path

-- rows stand in a schema tree: each path leads to a row of it, and each list entry and each container with presence above a row is a row too
pub record StandsIn (t : SchemaTree) (rows : Rows) : Type 0 where
  pub each : (path : List PathStep) → contains_key rows path ≡ true → is_row_path t path ≡ true
  pub above : (path : List PathStep) (s : PathStep) (more : List PathStep) → contains_key rows (path ++ s ∷ more) ≡ true
      → is_own_at t.nodes (node_of t path) ≡ true
      → contains_key rows path ≡ true
