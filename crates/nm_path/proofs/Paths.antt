-- Written steps and the path that they spell.
use Rattle.std.proofs.Common.{◌≡◌, ℕ, true, false, eqb, List, [], ◌∷◌, length, Option, Some, None, Result, Ok, Err, slice_get, refl, sym, ap, subst, ◌∙◌, eq-eqb, ◌<◌, arith}
use Rattle.std.specs.Prelude.{codes}
use Rattle.std.specs.Result.{result_ok}
use Rattle.std.proofs.lemmas.Bool.{eqb-true}
use Rattle.std.proofs.lemmas.Bool.Decides.{nat_tests}
use Rattle.std.proofs.lemmas.Option.{same_Some, none-some}
use Rattle.std.proofs.lemmas.Slice.Eq.{bytes_eq-Decides}
use Rattle.nm_types.specs.declared.value.Value.{Value}
use Rattle.nm_types.specs.declared.fault.ValueFault.{ValueFault}
use Rattle.nm_types.specs.LeafType.{TypeOfLeaf}
use Rattle.nm_types.specs.Reading.{reading}
use Rattle.nm_types.specs.Path.{Choice, whole, keys, entry, PathStep}
use Rattle.nm_types.proofs.Integers.{reading_some}
use Rattle.nm_types.proofs.Readings.{spelled-complete, limits-complete}
use Rattle.nm_types.proofs.Answers.{found_law}
use Rattle.nm_schema_tree.specs.declared.node.Node.{Node}
use Rattle.nm_schema_tree.specs.declared.node.NodeKind.{NodeKind}
use Rattle.nm_schema_tree.specs.declared.node.NodeKind.TheVariants as kind
use Rattle.nm_schema_tree.specs.Nodes.{type_at, first_named, first_top, module_in, module_at}
use Rattle.nm_schema_tree.proofs.Finding.{top_module}
use Rattle.nm_path.specs.declared.place.Place.{Place}
use Rattle.nm_path.specs.declared.place.Place.TheVariants.{Top, Within, Nowhere}
use Rattle.nm_path.specs.declared.form.Predicate.{Predicate}
use Rattle.nm_path.specs.Form.{WrittenStep, is_from_top}
use Rattle.nm_path.specs.Spelling.{is_module, if_of, found_of, found, predicate_of, name_at, SpellsKey, SpellsKeys, SpellsChoice, SpellsStep, SpellsSteps, are_named, HaveTypes, IsChoice, IsStep, AreSteps, HasSteps}
use Rattle.nm_path.specs.Reading.{value_by, value_of, values_of, whole_chosen, chosen_of, step_by, next_of, path_from}
use Rattle.nm_path.proofs.Binds.{bind_some, guard_some, guard_bind, else_bind, all_front-some}

ok_some : (r : Result Value ValueFault) (v : Value) → result_ok r ≡ Some v → r ≡ Ok v
ok_some (Ok w) v e = ap Ok (same_Some w v e)
ok_some (Err f) v e = absurd (none-some v e)

module _ (nodes : List Node) where
  -- ---- values

  value_by-takes : (at : ℕ) (key : List ℕ) (ps : List Predicate) (v : Value) (t : Option TypeOfLeaf) (p : Option Predicate) → type_at nodes at ≡ t → predicate_of ps key ≡ p → value_by t p ≡ Some v → SpellsKey nodes at key ps v
  value_by-takes at key ps v None p t q e = absurd (none-some v e)
  value_by-takes at key ps v (Some leaf) None t q e = absurd (none-some v e)
  value_by-takes at key ps v (Some leaf) (Some p) t q e =
      let law = found_law leaf p.value (Ok v) (ok_some (reading leaf p.value) v e) in
      record { leaf_type = leaf; predicate = p; typed = t; given = q; spelled = law.0; within = law.1 }

  value-takes : (at : ℕ) (key : List ℕ) (ps : List Predicate) (v : Value) → value_of nodes at key ps ≡ Some v → SpellsKey nodes at key ps v
  value-takes at key ps v e = value_by-takes at key ps v (type_at nodes at) (predicate_of ps key) refl refl e

  value-again : (at : ℕ) (key : List ℕ) (ps : List Predicate) (v : Value) → SpellsKey nodes at key ps v → value_of nodes at key ps ≡ Some v
  value-again at key ps v h =
      let read = reading_some h.leaf_type h.predicate.value v (spelled-complete h.leaf_type.kind h.predicate.value v h.spelled) (limits-complete h.leaf_type v h.within) in
      rw (h.typed, h.given) (ap result_ok read)

  values-takes : (ks : List ℕ) (ps : List Predicate) (vs : List Value) → values_of nodes ks ps ≡ Some vs → SpellsKeys nodes ps ks vs
  unfolding values_of
  values-takes [] ps vs e = subst (SpellsKeys nodes ps []) (same_Some [] vs e) tt
  values-takes (k ∷ ks) ps vs e =
      let a = bind_some (value_of nodes k (name_at nodes k) ps) _ vs e in
      let w = all_front-some (a.0 ∷ []) (values_of nodes ks ps) vs a.2 in
      subst (SpellsKeys nodes ps (k ∷ ks)) (sym w.2) (value-takes k (name_at nodes k) ps a.0 a.1, values-takes ks ps w.0 w.1)

  values-again : (ks : List ℕ) (ps : List Predicate) (vs : List Value) → SpellsKeys nodes ps ks vs → values_of nodes ks ps ≡ Some vs
  unfolding values_of
  values-again [] ps [] h = refl
  values-again [] ps (v ∷ vs) h = absurd h
  values-again (k ∷ ks) ps [] h = absurd h
  values-again (k ∷ ks) ps (v ∷ vs) h = rw (value-again k (name_at nodes k) ps v h.0, values-again ks ps vs h.1) refl

  -- ---- choices

  whole-takes : (ps : List Predicate) (c : Choice) → whole_chosen ps ≡ Some c → (length ps ≡ 0) × (whole ≡ c)
  whole-takes ps c e = let g = guard_some (eqb (length ps) 0) whole c e in (eqb-true (length ps) 0 g.0, g.1)

  choice-takes : (at : ℕ) (k : NodeKind) (ps : List Predicate) (c : Choice) → chosen_of nodes at k ps ≡ Some c → SpellsChoice nodes at k ps c
  choice-takes at (kind.List ks u m) ps c e =
      let some = else_bind (eqb (length ps) 0) _ c e in
      let pos : 0 < length ps = let z = some.0 in grind (arith, nat_tests) in
      let g = guard_bind (eqb (length ps) (length ks)) _ c some.1 in
      let a = bind_some (values_of nodes ks ps) _ c g.1 in
      subst (SpellsChoice nodes at (kind.List ks u m) ps) (same_Some (keys a.0) c a.2) (pos, eqb-true (length ps) (length ks) g.0, values-takes ks ps a.0 a.1)
  choice-takes at (kind.LeafList t r m) ps c e =
      let g = guard_bind (eqb (length ps) 1) _ c e in
      let a = bind_some (value_of nodes at (codes ".") ps) _ c g.1 in
      subst (SpellsChoice nodes at (kind.LeafList t r m) ps) (same_Some (entry a.0) c a.2) (eqb-true (length ps) 1 g.0, value-takes at (codes ".") ps a.0 a.1)
  choice-takes at (kind.Container p) ps c e = let w = whole-takes ps c e in subst (SpellsChoice nodes at (kind.Container p) ps) w.1 w.0
  choice-takes at (kind.Leaf t d m r) ps c e = let w = whole-takes ps c e in subst (SpellsChoice nodes at (kind.Leaf t d m r) ps) w.1 w.0

  choice-again : (at : ℕ) (k : NodeKind) (ps : List Predicate) (c : Choice) → SpellsChoice nodes at k ps c → chosen_of nodes at k ps ≡ Some c
  choice-again at (kind.List ks u m) ps whole h = absurd h
  choice-again at (kind.List ks u m) ps (entry v) h = absurd h
  choice-again at (kind.List ks u m) ps (keys vs) h =
      let some : eqb (length ps) 0 ≡ false = let pos = h.0 in grind (arith, nat_tests) in
      rw (some, eq-eqb (length ps) (length ks) h.1, values-again ks ps vs h.2) refl
  choice-again at (kind.LeafList t r m) ps whole h = absurd h
  choice-again at (kind.LeafList t r m) ps (keys vs) h = absurd h
  choice-again at (kind.LeafList t r m) ps (entry v) h = rw (eq-eqb (length ps) 1 h.0, value-again at (codes ".") ps v h.1) refl
  choice-again at (kind.Container p) ps whole h = rw (eq-eqb (length ps) 0 h) refl
  choice-again at (kind.Container p) ps (keys vs) h = absurd h
  choice-again at (kind.Container p) ps (entry v) h = absurd h
  choice-again at (kind.Leaf t d m r) ps whole h = rw (eq-eqb (length ps) 0 h) refl
  choice-again at (kind.Leaf t d m r) ps (keys vs) h = absurd h
  choice-again at (kind.Leaf t d m r) ps (entry v) h = absurd h

  -- ---- steps

  step_by-takes : (place : Place) (at : ℕ) (w : WrittenStep) (s : PathStep) (n : Option Node) → found nodes place w.owner w.name ≡ Some at → slice_get nodes at ≡ n → step_by nodes at w n ≡ Some s → SpellsStep nodes place w s at
  step_by-takes place at w s None f g e = absurd (none-some s e)
  step_by-takes place at w s (Some n) f g e =
      let a = bind_some (chosen_of nodes at n.kind w.predicates) _ s e in
      subst (λ (x : PathStep). SpellsStep nodes place w x at) (same_Some (record { «module» = n.«module»; name = w.name; chosen = a.0 }) s a.2)
      (record { node = n; leads = f; there = g; «module» = refl; name = refl; chosen = choice-takes at n.kind w.predicates a.0 a.1 })

  next-takes : (place : Place) (w : WrittenStep) (x : ℕ × PathStep) → next_of nodes place w ≡ Some x → SpellsStep nodes place w x.1 x.0
  next-takes place w x e =
      let a = bind_some (found nodes place w.owner w.name) _ x e in
      let b = bind_some (step_by nodes a.0 w (slice_get nodes a.0)) _ x a.2 in
      subst (λ (y : ℕ × PathStep). SpellsStep nodes place w y.1 y.0) (same_Some (a.0, b.0) x b.2) (step_by-takes place a.0 w b.0 (slice_get nodes a.0) a.1 refl b.1)

  one_step : (s t : PathStep) → s.«module» ≡ t.«module» → s.name ≡ t.name → s.chosen ≡ t.chosen → s ≡ t
  one_step s t m n c = λ i. record { «module» = m i; name = n i; chosen = c i }

  next-again : (place : Place) (w : WrittenStep) (s : PathStep) (at : ℕ) → SpellsStep nodes place w s at → next_of nodes place w ≡ Some (at, s)
  next-again place w s at h =
      let same : record { «module» = h.node.«module»; name = w.name; chosen = s.chosen } ≡ s = one_step (record { «module» = h.node.«module»; name = w.name; chosen = s.chosen }) s (sym h.«module») (sym h.name) refl in
      let step : step_by nodes at w (slice_get nodes at) ≡ Some s = rw (h.there, choice-again at h.node.kind w.predicates s.chosen h.chosen) (ap Some same) in
      rw (h.leads, step) refl

  pub path-takes : (place : Place) (ws : List WrittenStep) (ss : List PathStep) → path_from nodes place ws ≡ Some ss → SpellsSteps nodes place ws ss
  unfolding path_from
  path-takes place [] ss e = subst (SpellsSteps nodes place []) (same_Some [] ss e) tt
  path-takes place (w ∷ ws) ss e =
      let a = bind_some (next_of nodes place w) _ ss e in
      let b = all_front-some (a.0.1 ∷ []) (path_from nodes (Within a.0.0) ws) ss a.2 in
      subst (SpellsSteps nodes place (w ∷ ws)) (sym b.2) (a.0.0, next-takes place w a.0 a.1, path-takes (Within a.0.0) ws b.0 b.1)

  pub path-again : (place : Place) (ws : List WrittenStep) (ss : List PathStep) → SpellsSteps nodes place ws ss → path_from nodes place ws ≡ Some ss
  unfolding path_from
  path-again place [] [] h = refl
  path-again place [] (s ∷ ss) h = absurd h
  path-again place (w ∷ ws) [] h = absurd h
  path-again place (w ∷ ws) (s ∷ ss) h = rw (next-again place w s h.0 h.1, path-again (Within h.0) ws ss h.2) refl

  -- the names of steps that spell a path are in the schema
  pub spelled-named : (place : Place) (ws : List WrittenStep) (ss : List PathStep) → SpellsSteps nodes place ws ss → are_named nodes place ws ≡ true
  spelled-named place [] ss h = refl
  spelled-named place (w ∷ ws) [] h = absurd h
  spelled-named place (w ∷ ws) (s ∷ ss) h = rw h.1.leads (spelled-named (Within h.0) ws ss h.2)

  -- ---- what is spelled is a path of the schema

  keys-typed : (ps : List Predicate) (ks : List ℕ) (vs : List Value) → SpellsKeys nodes ps ks vs → HaveTypes nodes ks vs
  keys-typed ps [] [] h = tt
  keys-typed ps [] (v ∷ vs) h = absurd h
  keys-typed ps (k ∷ ks) [] h = absurd h
  keys-typed ps (k ∷ ks) (v ∷ vs) h = (record { leaf_type = h.0.leaf_type; text = h.0.predicate.value; typed = h.0.typed; spelled = h.0.spelled; within = h.0.within }, keys-typed ps ks vs h.1)

  choice-full : (at : ℕ) (k : NodeKind) (ps : List Predicate) (c : Choice) → SpellsChoice nodes at k ps c → IsChoice nodes false at k c
  choice-full at (kind.List ks u m) ps whole h = absurd h
  choice-full at (kind.List ks u m) ps (entry v) h = absurd h
  choice-full at (kind.List ks u m) ps (keys vs) h = let pos : 0 < length ks = omega (arith, h.0, h.1) in (pos, keys-typed ps ks vs h.2)
  choice-full at (kind.LeafList t r m) ps whole h = absurd h
  choice-full at (kind.LeafList t r m) ps (keys vs) h = absurd h
  choice-full at (kind.LeafList t r m) ps (entry v) h = record { leaf_type = h.1.leaf_type; text = h.1.predicate.value; typed = h.1.typed; spelled = h.1.spelled; within = h.1.within }
  choice-full at (kind.Container p) ps whole h = tt
  choice-full at (kind.Container p) ps (keys vs) h = absurd h
  choice-full at (kind.Container p) ps (entry v) h = absurd h
  choice-full at (kind.Leaf t d m r) ps whole h = tt
  choice-full at (kind.Leaf t d m r) ps (keys vs) h = absurd h
  choice-full at (kind.Leaf t d m r) ps (entry v) h = absurd h

  if_of-some : (owner : List ℕ) (o : Option ℕ) (at : ℕ) → if_of nodes owner o ≡ Some at → o ≡ Some at
  if_of-some owner None at e = e
  if_of-some owner (Some i) at e = ap Some (guard_some (is_module owner (slice_get nodes i)) i at e).1

  if_of-own : (at : ℕ) (n : Node) → slice_get nodes at ≡ Some n → if_of nodes n.«module» (Some at) ≡ Some at
  if_of-own at n g = rw (g, (bytes_eq-Decides n.«module» n.«module»).1 refl) refl

  own-leads : (place : Place) (owner : Option (List ℕ)) (name : List ℕ) (at : ℕ) (n : Node) → found nodes place owner name ≡ Some at → slice_get nodes at ≡ Some n → found_of nodes place n.«module» name ≡ Some at
  own-leads Top None name at n f g = absurd (none-some at f)
  own-leads Top (Some owner) name at n f g =
      let m : module_at nodes at ≡ Some owner = top_module nodes owner name (Some at) (sym f) in
      let same : Some n.«module» ≡ Some owner = ap module_in (sym g) ∙ m in
      ap (λ (o : List ℕ). first_top nodes o name) (same_Some n.«module» owner same) ∙ f
  own-leads (Within i) None name at n f g = ap (if_of nodes n.«module») f ∙ if_of-own at n g
  own-leads (Within i) (Some owner) name at n f g = ap (if_of nodes n.«module») (if_of-some owner (first_named nodes i name) at f) ∙ if_of-own at n g
  own-leads Nowhere None name at n f g = absurd (none-some at f)
  own-leads Nowhere (Some owner) name at n f g = absurd (none-some at f)

  step-full : (place : Place) (w : WrittenStep) (s : PathStep) (at : ℕ) → SpellsStep nodes place w s at → IsStep nodes false place s at
  step-full place w s at h = record {
    node = h.node;
    leads = rw (h.«module», h.name) (own-leads place w.owner w.name at h.node h.leads h.there);
    there = h.there;
    chosen = choice-full at h.node.kind w.predicates s.chosen h.chosen;
  }

  pub steps-full : (place : Place) (ws : List WrittenStep) (ss : List PathStep) → SpellsSteps nodes place ws ss → AreSteps nodes false place ss
  steps-full place [] [] h = tt
  steps-full place [] (s ∷ ss) h = absurd h
  steps-full place (w ∷ ws) [] h = absurd h
  steps-full place (w ∷ ws) (s ∷ ss) h = (h.0, step-full place w s h.0 h.1, steps-full (Within h.0) ws ss h.2)

  pub has-steps : (place : Place) (ws : List WrittenStep) (ss : List PathStep) → is_from_top ws ≡ true → SpellsSteps nodes place ws ss → HasSteps ss
  has-steps place [] ss t h = absurd cc
  has-steps place (w ∷ ws) [] t h = absurd h
  has-steps place (w ∷ ws) (s ∷ ss) t h = tt
