-- The node that a path leads to, by its last step.
use Rattle.std.proofs.Common.{◌≡◌, ℕ, List, [], ◌∷◌, ◌++◌, Bool, true, false, Option, Some, None, if◌then◌else◌, slice_get, refl, sym, ap, ◌∙◌, arith}
use Rattle.std.proofs.lemmas.Grind.{common_steps}
use Rattle.std.proofs.lemmas.Slice.Eq.{bytes_eq-Decides}
use Rattle.std.specs.Str.{bytes_eq}
use Rattle.nm_types.specs.Path.{PathStep, whole}
use Rattle.nm_schema_tree.specs.declared.node.Node.{Node}
use Rattle.nm_schema_tree.specs.Nodes.{SchemaTree, same_parent, is_named, is_top, first_named, first_top}
use Rattle.nm_schema_tree.proofs.Positions.{first_passes}
use Rattle.nm_path.specs.declared.place.Place.{Place}
use Rattle.nm_path.specs.declared.place.Place.TheVariants.{Top}
use Rattle.nm_path.specs.Spelling.{is_module, if_of, found_of, below, node_from, node_of}
use Rattle.nm_validate_rules.specs.Cases.{bare_in, bare}
use Rattle.nm_validate_rules.specs.Guards.{is_node}
use Rattle.nm_validate_rules.specs.Violated.{is_area_of}
use Rattle.nm_validate_rules.proofs.Among.{both}

-- node x stands in a node, or at the top, and has a module and a name
pub record IsNamed (nodes : List Node) (parent : Option ℕ) (owner name : List ℕ) (x : ℕ) : Type 0 where
  pub node : Node
  pub there : slice_get nodes x ≡ Some node
  pub parent_is : node.parent ≡ parent
  pub owner_is : node.«module» ≡ owner
  pub name_is : node.name ≡ name

parent_is : (o : Option ℕ) (i : ℕ) → same_parent o (Some i) ≡ true → o ≡ Some i
parent_is None i e = grind arith
parent_is (Some j) i e = grind (arith, common_steps)

no_parent : (o : Option ℕ) → same_parent o None ≡ true → o ≡ None
no_parent None e = refl
no_parent (Some j) e = absurd (cc)

same_number : (x y : ℕ) → is_node x (Some y) ≡ true → y ≡ x
same_number x y e = grind (arith, common_steps)

pub node_is : (x : ℕ) (o : Option ℕ) → is_node x o ≡ true → o ≡ Some x
node_is x None e = absurd (cc)
node_is x (Some y) e = ap Some (same_number x y e)

same_text : (a b : List ℕ) → bytes_eq a b ≡ true → a ≡ b
same_text a b e = (bytes_eq-Decides a b).0 e

module _ (nodes : List Node) where
  -- ---- the nodes that names lead to

  pub top_named : (owner name : List ℕ) (x : ℕ) → first_top nodes owner name ≡ Some x → IsNamed nodes None owner name x
  unfolding first_top
  top_named owner name x e =
      let h = first_passes (is_top owner name) nodes x e in
      let p = both (bytes_eq h.x.«module» owner) (is_named None name h.x) h.passes in
      let q = both (same_parent h.x.parent None) (bytes_eq h.x.name name) p.1 in
      record { node = h.x; there = h.here; parent_is = no_parent h.x.parent q.0; owner_is = same_text h.x.«module» owner p.0; name_is = same_text h.x.name name q.1 }

  pub child_named : (i : ℕ) (name : List ℕ) (x : ℕ) (n : Node) → slice_get nodes x ≡ Some n → first_named nodes i name ≡ Some x → (n.parent ≡ Some i) × (n.name ≡ name)
  unfolding first_named
  child_named i name x n is e =
      let h = first_passes (is_named (Some i) name) nodes x e in
      let q = both (same_parent h.x.parent (Some i)) (bytes_eq h.x.name name) h.passes in
      let same : h.x ≡ n = cc in
      (ap (λ (m : Node). m.parent) (sym same) ∙ parent_is h.x.parent i q.0, ap (λ (m : Node). m.name) (sym same) ∙ same_text h.x.name name q.1)

  module_by : (b : Bool) (at x : ℕ) → (if b then Some at else None) ≡ Some x → (b ≡ true) × (at ≡ x)
  module_by true at x e = (refl, cc)
  module_by false at x e = absurd (cc)

  of_module : (i : ℕ) (owner name : List ℕ) (x : ℕ) (o : Option Node) → slice_get nodes x ≡ o → is_module owner o ≡ true → first_named nodes i name ≡ Some x → IsNamed nodes (Some i) owner name x
  of_module i owner name x None is m e = absurd (cc)
  of_module i owner name x (Some n) is m e =
      let h = child_named i name x n is e in
      record { node = n; there = is; parent_is = h.0; owner_is = same_text n.«module» owner m; name_is = h.1 }

  within_by : (i : ℕ) (owner name : List ℕ) (x : ℕ) (o : Option ℕ) → first_named nodes i name ≡ o → if_of nodes owner o ≡ Some x → IsNamed nodes (Some i) owner name x
  within_by i owner name x None is e = absurd (cc)
  within_by i owner name x (Some at) is e =
      let h = module_by (is_module owner (slice_get nodes at)) at x e in
      of_module i owner name x (slice_get nodes x) refl (ap (λ (y : ℕ). is_module owner (slice_get nodes y)) (sym h.1) ∙ h.0) (is ∙ ap Some h.1)

  -- ---- the last step of a path

  -- the place after steps
  after : Place → List PathStep → Place
  after place [] = place
  after place (s ∷ ss) = after (below (found_of nodes place s.«module» s.name)) ss

  node_by_last : (place : Place) (last : Option ℕ) (ss : List PathStep) (s : PathStep) → node_from nodes place last (ss ++ s ∷ []) ≡ found_of nodes (after place ss) s.«module» s.name
  unfolding after
  node_by_last place last [] s = refl
  node_by_last place last (r ∷ ss) s = node_by_last (below (found_of nodes place r.«module» r.name)) (found_of nodes place r.«module» r.name) ss s

  after_is : (o : Option ℕ) (ss : List PathStep) → after (below o) ss ≡ below (node_from nodes (below o) o ss)
  unfolding after
  after_is o [] = refl
  after_is o (s ∷ ss) = after_is (found_of nodes (below o) s.«module» s.name) ss

  in_place : (o : Option ℕ) (s : PathStep) (x : ℕ) → found_of nodes (below o) s.«module» s.name ≡ Some x → (i : ℕ) × (o ≡ Some i) × IsNamed nodes (Some i) s.«module» s.name x
  in_place None s x e = absurd (cc)
  in_place (Some i) s x e = (i, refl, within_by i s.«module» s.name x (first_named nodes i s.name) refl e)

-- the place that a path leads to
abbrev pub place_at : SchemaTree → List PathStep → Place
place_at t [] = Top
place_at t (s ∷ ss) = below (node_of t (s ∷ ss))

after_path : (t : SchemaTree) (above : List PathStep) → after t.nodes Top above ≡ place_at t above
unfolding node_of after
after_path t [] = refl
after_path t (s ∷ ss) = after_is t.nodes (found_of t.nodes Top s.«module» s.name) ss

-- a path leads on by its last step
pub node_last : (t : SchemaTree) (above : List PathStep) (s : PathStep) → node_of t (above ++ s ∷ []) ≡ found_of t.nodes (place_at t above) s.«module» s.name
unfolding node_of
node_last t above s = node_by_last t.nodes Top None above s ∙ ap (λ (p : Place). found_of t.nodes p s.«module» s.name) (after_path t above)

-- a path leads to node x: to the node that it stands in, and then by its names
pub record LeadsBy (t : SchemaTree) (above : List PathStep) (s : PathStep) (x : ℕ) : Type 0 where
  pub node : Node
  pub there : slice_get t.nodes x ≡ Some node
  pub area : is_area_of t node.parent above ≡ true
  pub owner_is : node.«module» ≡ s.«module»
  pub name_is : node.name ≡ s.name

pub itself : (i : ℕ) → is_node i (Some i) ≡ true
itself i = grind (arith, common_steps)

leads_by : (t : SchemaTree) (above : List PathStep) (s : PathStep) (x : ℕ) (parent : Option ℕ) → IsNamed t.nodes parent s.«module» s.name x → is_area_of t parent above ≡ true → LeadsBy t above s x
leads_by t above s x parent h area = record { node = h.node; there = h.there; area = ap (λ (o : Option ℕ). is_area_of t o above) h.parent_is ∙ area; owner_is = h.owner_is; name_is = h.name_is }

by_place : (t : SchemaTree) (above : List PathStep) (s : PathStep) (x : ℕ) → found_of t.nodes (place_at t above) s.«module» s.name ≡ Some x → LeadsBy t above s x
by_place t [] s x e = leads_by t [] s x None (top_named t.nodes s.«module» s.name x e) refl
by_place t (r ∷ ss) s x e =
    let at = in_place t.nodes (node_of t (r ∷ ss)) s x e in
    leads_by t (r ∷ ss) s x (Some at.0) at.2 (ap (is_node at.0) at.1 ∙ itself at.0)

pub by_last : (t : SchemaTree) (above : List PathStep) (s : PathStep) (x : ℕ) → node_of t (above ++ s ∷ []) ≡ Some x → LeadsBy t above s x
by_last t above s x e = by_place t above s x (sym (node_last t above s) ∙ e)

-- a step that chooses nothing and leads to node x is its bare step
pub bare_is : (t : SchemaTree) (s : PathStep) (x : ℕ) (n : Node) → slice_get t.nodes x ≡ Some n → n.«module» ≡ s.«module» → n.name ≡ s.name → s.chosen ≡ whole → bare t.nodes x ≡ s
bare_is t s x n there owner name chosen = ap bare_in there ∙ (λ i. record { «module» = owner i; name = name i; chosen = sym chosen i })
