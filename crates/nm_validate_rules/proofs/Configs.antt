-- Configurations that are read stand in their tree.
use Rattle.std.proofs.Common.{◌≡◌, ℕ, List, [], ◌∷◌, ◌++◌, true, not, Option, Some, None, is_some, slice_get, refl, sym, ap, ◌∙◌, subst}
use Rattle.std.specs.FinMap.{get}
use Rattle.nm_types.specs.declared.value.Value.{Value}
use Rattle.nm_types.specs.Path.{PathStep, Choice, whole, keys as by_keys, entry}
use Rattle.nm_schema_tree.specs.declared.node.Node.{Node}
use Rattle.nm_schema_tree.specs.declared.node.NodeKind.{NodeKind}
use Rattle.nm_schema_tree.specs.declared.node.NodeKind.TheVariants.{Container, Leaf, LeafList, List as ListOf}
use Rattle.nm_schema_tree.specs.Nodes.{SchemaTree, is_key, is_guard, is_guard_in}
use Rattle.nm_path.specs.declared.place.Place.{Place}
use Rattle.nm_path.specs.declared.place.Place.TheVariants.{Within}
use Rattle.nm_path.specs.Spelling.{below, node_of}
use Rattle.nm_config.specs.Rows.{Rows}
use Rattle.nm_json.specs.Configs.{GoesOn, EndsAt, IsRow, is_own, is_own_in, is_own_at, IsConfigOf}
use Rattle.nm_validate_rules.specs.Standing.{is_chosen, is_row, is_chosen_in, is_row_in, is_chosen_at, is_row_at, is_row_from, StandsIn}
use Rattle.nm_validate_rules.specs.Standing.{is_own_at as is_guarding}
use Rattle.nm_validate_rules.proofs.Leading.{place_at, node_last}
use Rattle.nm_validate_rules.proofs.Placed.{both_true}

row_there : (o : Option Value) → is_some o ≡ true → (v : Value) × (o ≡ Some v)
row_there None e = absurd (cc)
row_there (Some v) e = (v, refl)

ends_chosen : (nodes : List Node) (at : ℕ) (k : NodeKind) (c : Choice) (v : Value) → EndsAt nodes at k c v → (is_chosen k c ≡ true) × (is_row (is_key nodes at) k ≡ true)
ends_chosen nodes at (Container presence) whole v h = (refl, h.0)
ends_chosen nodes at (Container presence) (by_keys vs) v h = absurd h
ends_chosen nodes at (Container presence) (entry w) v h = absurd h
ends_chosen nodes at (Leaf t d m r) whole v h = (refl, ap not h.0)
ends_chosen nodes at (Leaf t d m r) (by_keys vs) v h = absurd h
ends_chosen nodes at (Leaf t d m r) (entry w) v h = absurd h
ends_chosen nodes at (LeafList t r e) whole v h = absurd h
ends_chosen nodes at (LeafList t r e) (by_keys vs) v h = absurd h
ends_chosen nodes at (LeafList t r e) (entry w) v h = (refl, refl)
ends_chosen nodes at (ListOf ks u e) whole v h = absurd h
ends_chosen nodes at (ListOf ks u e) (by_keys vs) v h = (refl, refl)
ends_chosen nodes at (ListOf ks u e) (entry w) v h = absurd h

goes_chosen : (nodes : List Node) (k : NodeKind) (c : Choice) → GoesOn nodes k c → is_chosen k c ≡ true
goes_chosen nodes (Container presence) whole h = refl
goes_chosen nodes (Container presence) (by_keys vs) h = absurd h
goes_chosen nodes (Container presence) (entry w) h = absurd h
goes_chosen nodes (Leaf t d m r) c h = absurd h
goes_chosen nodes (LeafList t r e) c h = absurd h
goes_chosen nodes (ListOf ks u e) whole h = absurd h
goes_chosen nodes (ListOf ks u e) (by_keys vs) h = refl
goes_chosen nodes (ListOf ks u e) (entry w) h = absurd h

place_behind : (t : SchemaTree) (above : List PathStep) (s : PathStep) → place_at t (above ++ s ∷ []) ≡ below (node_of t (above ++ s ∷ []))
place_behind t [] s = refl
place_behind t (a ∷ more) s = refl

row_from : (t : SchemaTree) (above ss : List PathStep) (v : Value) → IsRow t.nodes (place_at t above) ss v → is_row_from t above ss ≡ true
row_from t above [] v h = absurd h
row_from t above (s ∷ []) v h =
    let n : node_of t (above ++ s ∷ []) ≡ Some h.0 = node_last t above s ∙ h.2.leads in
    let e = ends_chosen t.nodes h.0 h.1.kind s.chosen v h.3 in
    both_true (is_chosen_at t.nodes (node_of t (above ++ s ∷ [])) s.chosen) (is_row_from t (above ++ s ∷ []) [])
    (ap (λ o. is_chosen_at t.nodes o s.chosen) n ∙ ap (λ o. is_chosen_in o s.chosen) h.2.there ∙ e.0)
    (ap (is_row_at t.nodes) n ∙ ap (is_row_in (is_key t.nodes h.0)) h.2.there ∙ e.1)
row_from t above (s ∷ r ∷ ss) v h =
    let n : node_of t (above ++ s ∷ []) ≡ Some h.0 = node_last t above s ∙ h.2.leads in
    let place : place_at t (above ++ s ∷ []) ≡ Within h.0 = place_behind t above s ∙ ap below n in
    both_true (is_chosen_at t.nodes (node_of t (above ++ s ∷ [])) s.chosen) (is_row_from t (above ++ s ∷ []) (r ∷ ss))
    (ap (λ o. is_chosen_at t.nodes o s.chosen) n ∙ ap (λ o. is_chosen_in o s.chosen) h.2.there ∙ goes_chosen t.nodes h.1.kind s.chosen h.3)
    (row_from t (above ++ s ∷ []) (r ∷ ss) v (subst (λ (p : Place). IsRow t.nodes p (r ∷ ss) v) (sym place) h.4))

own_kind : (k : NodeKind) → is_own k ≡ is_guard k
own_kind (Container presence) = refl
own_kind (Leaf t d m r) = refl
own_kind (LeafList t r e) = refl
own_kind (ListOf ks u e) = refl

own_node : (o : Option Node) → is_own_in o ≡ is_guard_in o
own_node None = refl
own_node (Some n) = own_kind n.kind

own_same : (nodes : List Node) (o : Option ℕ) → is_own_at nodes o ≡ is_guarding nodes o
own_same nodes None = refl
own_same nodes (Some x) = own_node (slice_get nodes x)

-- a configuration of a schema stands in its tree
pub config_stands : (t : SchemaTree) (rows : Rows) → IsConfigOf t rows → StandsIn t rows
config_stands t rows h = record {
  each = λ path e. let v = row_there (get rows path) e in row_from t [] path v.0 (h.each path v.0 v.1);
  above = λ path s more e own. let v = row_there (get rows (path ++ s ∷ more)) e in h.above path s more v.0 v.1 (own_same t.nodes (node_of t path) ∙ own);
}
