-- What is written of a path spells it.
use Rattle.std.proofs.Common.{◌≡◌, ℕ, zero, suc, true, false, List, [], ◌∷◌, ◌++◌, length, Option, Some, None, Result, Ok, Err, slice_get, map, refl, sym, ap, subst, ◌∙◌, inl, inr, arith, ◌<◌}
use Rattle.std.specs.Prelude.{codes, Contains, IfOk}
use Rattle.std.specs.List.{AllByRecursion}
use Rattle.std.specs.Str.{bytes_eq}
use Rattle.std.proofs.lemmas.Bool.{false_from_ne_true}
use Rattle.std.proofs.lemmas.Option.{same_Some, none-some}
use Rattle.std.proofs.lemmas.Slice.Eq.{bytes_eq-Decides}
use Rattle.nm_types.specs.declared.value.Value.{Value}
use Rattle.nm_types.specs.LeafType.{TypeOfLeaf}
use Rattle.nm_types.specs.Canonical.{IsHeld}
use Rattle.nm_types.specs.Spells.{IsOnce}
use Rattle.nm_types.specs.Path.{Choice, whole, keys, entry, PathStep}
use Rattle.nm_types.proofs.Written.{canonical-spells}
use Rattle.nm_schema_tree.specs.declared.node.Node.{Node}
use Rattle.nm_schema_tree.specs.declared.node.NodeKind.{NodeKind}
use Rattle.nm_schema_tree.specs.declared.node.NodeKind.TheVariants as kind
use Rattle.nm_schema_tree.specs.Nodes.{SchemaTree, same_parent, is_named, is_top, first_named, first_top, type_in, keys_of}
use Rattle.nm_schema_tree.proofs.Positions.{first_passes}
use Rattle.nm_path.specs.declared.place.Place.{Place}
use Rattle.nm_path.specs.declared.place.Place.TheVariants.{Top, Within, Nowhere}
use Rattle.nm_path.specs.declared.form.Predicate.{Predicate}
use Rattle.nm_path.specs.Form.{IsPredicate, IsOwner, IsWritten, is_identifier, is_from_top, steps_text}
use Rattle.nm_path.specs.Spelling.{is_module, if_of, found_of, found, predicate_of, name_in, name_at, SpellsKey, SpellsKeys, SpellsChoice, SpellsStep, SpellsSteps, SpellsPath, HasType, HaveTypes, IsChoice, IsStep, AreSteps, HasSteps, IsFullPath}
use Rattle.nm_path.specs.Written.{written_key, written_keys, written_choice, written_owner, written_step, written, path_text, IsWellNamed, AreHeld, IsHeldChoice, IsHeldPath}
use Rattle.nm_path.proofs.Binds.{guard_some}
use Rattle.std.proofs.lemmas.Bool.{and_parts}

same_bytes : (a b : List ℕ) → bytes_eq a b ≡ true → a ≡ b
same_bytes a b e = (bytes_eq-Decides a b).0 e

own_bytes : (a : List ℕ) → bytes_eq a a ≡ true
own_bytes a = (bytes_eq-Decides a a).1 refl

-- the module and the name of node `at`
record IsCalled (nodes : List Node) (at : ℕ) (owner name : List ℕ) : Type 0 where
  pub node : Node
  pub there : slice_get nodes at ≡ Some node
  pub owner_is : node.«module» ≡ owner
  pub name_is : node.name ≡ name

module _ (nodes : List Node) where
  child-called : (i : ℕ) (owner name : List ℕ) (at : ℕ) (o : Option ℕ) → first_named nodes i name ≡ o → if_of nodes owner o ≡ Some at → (o ≡ Some at) × IsCalled nodes at owner name
  unfolding first_named
  child-called i owner name at None e f = absurd (none-some at f)
  child-called i owner name at (Some j) e f =
      let g = guard_some (is_module owner (slice_get nodes j)) j at f in
      let h = first_passes (is_named (Some i) name) nodes j e in
      let n = and_parts (same_parent h.x.parent (Some i)) (bytes_eq h.x.name name) h.passes in
      let m : bytes_eq h.x.«module» owner ≡ true = sym (ap (is_module owner) h.here) ∙ g.0 in
      (ap Some g.1, record { node = h.x; there = ap (slice_get nodes) (sym g.1) ∙ h.here; owner_is = same_bytes h.x.«module» owner m; name_is = same_bytes h.x.name name n.1 })

  top-called : (owner name : List ℕ) (at : ℕ) → first_top nodes owner name ≡ Some at → IsCalled nodes at owner name
  unfolding first_top
  top-called owner name at e =
      let h = first_passes (is_top owner name) nodes at e in
      let m = and_parts (bytes_eq h.x.«module» owner) (is_named None name h.x) h.passes in
      let n = and_parts (same_parent h.x.parent None) (bytes_eq h.x.name name) m.1 in
      record { node = h.x; there = h.here; owner_is = same_bytes h.x.«module» owner m.0; name_is = same_bytes h.x.name name n.1 }

  called : (place : Place) (owner name : List ℕ) (at : ℕ) → found_of nodes place owner name ≡ Some at → IsCalled nodes at owner name
  called Top owner name at e = top-called owner name at e
  called (Within i) owner name at e = (child-called i owner name at (first_named nodes i name) refl e).1
  called Nowhere owner name at e = absurd (none-some at e)

  written-leads : (place : Place) (owner name : List ℕ) (at : ℕ) → found_of nodes place owner name ≡ Some at → found nodes place (written_owner place owner) name ≡ Some at
  written-leads Top owner name at e = e
  written-leads (Within i) owner name at e = (child-called i owner name at (first_named nodes i name) refl e).0
  written-leads Nowhere owner name at e = absurd (none-some at e)

  -- ---- the form

  module _ (sound : IsWellNamed nodes) where
    owner-written : (place : Place) (owner : List ℕ) → is_identifier owner ≡ true → IsOwner (written_owner place owner)
    owner-written Top owner i = i
    owner-written (Within i) owner h = tt
    owner-written Nowhere owner h = tt

    typed-there : (k : ℕ) (o : Option Node) (t : TypeOfLeaf) → slice_get nodes k ≡ o → type_in o ≡ Some t → is_identifier (name_in o) ≡ true
    typed-there k None t g e = absurd (none-some t e)
    typed-there k (Some n) t g e = (sound.names k n g).0

    key-written : (k : ℕ) (v : Value) → HasType nodes k v → IsPredicate (written_key (name_at nodes k) v)
    key-written k v h = record { key = inr (typed-there k (slice_get nodes k) h.leaf_type refl h.typed); value = tt }

    keys-written : (ks : List ℕ) (vs : List Value) → HaveTypes nodes ks vs → AllByRecursion IsPredicate (written_keys nodes ks vs)
    keys-written [] vs h = tt
    keys-written (k ∷ ks) [] h = absurd h
    keys-written (k ∷ ks) (v ∷ vs) h = (key-written k v h.0, keys-written ks vs h.1)

    kind-written : (at : ℕ) (k : NodeKind) (vs : List Value) → IsChoice nodes false at k (keys vs) → AllByRecursion IsPredicate (written_keys nodes (keys_of k) vs)
    kind-written at (kind.List ks u m) vs h = keys-written ks vs h.1
    kind-written at (kind.LeafList t r m) vs h = absurd h
    kind-written at (kind.Container p) vs h = absurd h
    kind-written at (kind.Leaf t d m r) vs h = absurd h

    choice-written : (at : ℕ) (n : Node) (c : Choice) → slice_get nodes at ≡ Some n → IsChoice nodes false at n.kind c → AllByRecursion IsPredicate (written_choice nodes (Some at) c)
    choice-written at n whole g h = tt
    choice-written at n (entry v) g h = (record { key = inl refl; value = tt }, tt)
    choice-written at n (keys vs) g h = rw g (kind-written at n.kind vs h)

    step-written : (place : Place) (s : PathStep) (at : ℕ) → IsStep nodes false place s at → IsWritten (written_step nodes place (Some at) s)
    step-written place s at h =
        let c = called place s.«module» s.name at h.leads in
        let n = sound.names at c.node c.there in
        record {
          owner = owner-written place s.«module» (subst (λ (o : List ℕ). is_identifier o ≡ true) c.owner_is n.1);
          name = subst (λ (o : List ℕ). is_identifier o ≡ true) c.name_is n.0;
          predicates = choice-written at h.node s.chosen h.there h.chosen;
        }

    steps-written : (place : Place) (ss : List PathStep) → AreSteps nodes false place ss → AllByRecursion IsWritten (written nodes place ss)
    steps-written place [] h = tt
    steps-written place (s ∷ ss) h = rw h.1.leads (step-written place s h.0 h.1, steps-written (Within h.0) ss h.2)

    -- ---- the path

    first-key : (p : Predicate) (ps : List Predicate) → predicate_of (p ∷ ps) p.key ≡ Some p
    unfolding predicate_of
    first-key p ps = rw (own_bytes p.key) refl

    other-key : (p : Predicate) (ps : List Predicate) (key : List ℕ) → bytes_eq p.key key ≡ false → predicate_of (p ∷ ps) key ≡ predicate_of ps key
    unfolding predicate_of
    other-key p ps key e = rw e refl

    canonical-key : (k : ℕ) (key : List ℕ) (v : Value) (ps : List Predicate) → IsHeld v → HasType nodes k v → SpellsKey nodes k key (written_key key v ∷ ps) v
    canonical-key k key v ps held h = record {
      leaf_type = h.leaf_type;
      predicate = written_key key v;
      typed = h.typed;
      given = first-key (written_key key v) ps;
      spelled = canonical-spells h.leaf_type.kind h.text v held (sound.bits k h.leaf_type h.typed) h.spelled;
      within = h.within;
    }

    not-here : (key : List ℕ) (x : List ℕ) (xs : List (List ℕ)) → (Contains (x ∷ xs) key → ⊥) → bytes_eq key x ≡ false
    not-here key x xs h = false_from_ne_true (bytes_eq key x) (λ e. h (zero, omega arith, sym (same_bytes key x e)))

    not-there : (key : List ℕ) (x : List ℕ) (xs : List (List ℕ)) → (Contains (x ∷ xs) key → ⊥) → Contains xs key → ⊥
    not-there key x xs h c = h (suc c.0, omega (arith, c.1), c.2)

    keys-after : (p : Predicate) (ps : List Predicate) (ks : List ℕ) (vs : List Value) → (Contains (map (λ k. name_at nodes k) ks) p.key → ⊥) → SpellsKeys nodes ps ks vs → SpellsKeys nodes (p ∷ ps) ks vs
    keys-after p ps [] [] miss h = tt
    keys-after p ps [] (v ∷ vs) miss h = absurd h
    keys-after p ps (k ∷ ks) [] miss h = absurd h
    keys-after p ps (k ∷ ks) (v ∷ vs) miss h =
        let names = map (λ k. name_at nodes k) ks in
        let given : predicate_of (p ∷ ps) (name_at nodes k) ≡ Some h.0.predicate = other-key p ps (name_at nodes k) (not-here p.key (name_at nodes k) names miss) ∙ h.0.given in (
          record { leaf_type = h.0.leaf_type; predicate = h.0.predicate; typed = h.0.typed; given = given; spelled = h.0.spelled; within = h.0.within },
          keys-after p ps ks vs (not-there p.key (name_at nodes k) names miss) h.1,
        )

    keys-spelled : (ks : List ℕ) (vs : List Value) → IsOnce (map (λ k. name_at nodes k) ks) → AreHeld ks vs → HaveTypes nodes ks vs → SpellsKeys nodes (written_keys nodes ks vs) ks vs
    keys-spelled [] [] once held h = tt
    keys-spelled [] (v ∷ vs) once held h = absurd h
    keys-spelled (k ∷ ks) [] once held h = absurd h
    keys-spelled (k ∷ ks) (v ∷ vs) once held h = (
      canonical-key k (name_at nodes k) v (written_keys nodes ks vs) held.0 h.0,
      keys-after (written_key (name_at nodes k) v) (written_keys nodes ks vs) ks vs once.0 (keys-spelled ks vs once.1 held.1 h.1),
    )

    keys-long : (ks : List ℕ) (vs : List Value) → HaveTypes nodes ks vs → length (written_keys nodes ks vs) ≡ length ks
    keys-long [] vs h = refl
    keys-long (k ∷ ks) [] h = absurd h
    keys-long (k ∷ ks) (v ∷ vs) h = ap suc (keys-long ks vs h.1)

    kind-spelled : (at : ℕ) (k : NodeKind) (vs : List Value) → IsOnce (map (λ k. name_at nodes k) (keys_of k)) → AreHeld (keys_of k) vs → IsChoice nodes false at k (keys vs)
        → SpellsChoice nodes at k (written_keys nodes (keys_of k) vs) (keys vs)
    kind-spelled at (kind.List ks u m) vs once held h =
        let long = keys-long ks vs h.1 in
        let pos : 0 < length (written_keys nodes ks vs) = rw long h.0 in
        (pos, long, keys-spelled ks vs once held h.1)
    kind-spelled at (kind.LeafList t r m) vs once held h = absurd h
    kind-spelled at (kind.Container p) vs once held h = absurd h
    kind-spelled at (kind.Leaf t d m r) vs once held h = absurd h

    entry-spelled : (at : ℕ) (k : NodeKind) (v : Value) → IsHeld v → IsChoice nodes false at k (entry v) → SpellsChoice nodes at k (written_key (codes ".") v ∷ []) (entry v)
    entry-spelled at (kind.LeafList t r m) v held h = (refl, canonical-key at (codes ".") v [] held h)
    entry-spelled at (kind.List ks u m) v held h = absurd h
    entry-spelled at (kind.Container p) v held h = absurd h
    entry-spelled at (kind.Leaf t d m r) v held h = absurd h

    whole-spelled : (at : ℕ) (k : NodeKind) → IsChoice nodes false at k whole → SpellsChoice nodes at k [] whole
    whole-spelled at (kind.Container p) h = refl
    whole-spelled at (kind.Leaf t d m r) h = refl
    whole-spelled at (kind.LeafList t r m) h = absurd cc
    whole-spelled at (kind.List ks u m) h = absurd cc

    choice-spelled : (at : ℕ) (n : Node) (c : Choice) → slice_get nodes at ≡ Some n → IsHeldChoice nodes (Some at) c → IsChoice nodes false at n.kind c → SpellsChoice nodes at n.kind (written_choice nodes (Some at) c) c
    choice-spelled at n whole g held h = whole-spelled at n.kind h
    choice-spelled at n (entry v) g held h = entry-spelled at n.kind v held h
    choice-spelled at n (keys vs) g held h = rw g (kind-spelled at n.kind vs (sound.keys at n g) (rw g at held) h)

    step-spelled : (place : Place) (s : PathStep) (at : ℕ) → IsHeldChoice nodes (Some at) s.chosen → IsStep nodes false place s at → SpellsStep nodes place (written_step nodes place (Some at) s) s at
    step-spelled place s at held h =
        let c = called place s.«module» s.name at h.leads in
        let same : Some h.node ≡ Some c.node = sym h.there ∙ c.there in
        record {
          node = h.node;
          leads = written-leads place s.«module» s.name at h.leads;
          there = h.there;
          «module» = sym c.owner_is ∙ ap (λ (n : Node). n.«module») (sym (same_Some h.node c.node same));
          name = refl;
          chosen = choice-spelled at h.node s.chosen h.there held h.chosen;
        }

    steps-spelled : (place : Place) (ss : List PathStep) → IsHeldPath nodes place ss → AreSteps nodes false place ss → SpellsSteps nodes place (written nodes place ss) ss
    steps-spelled place [] held h = tt
    steps-spelled place (s ∷ ss) held h =
        let now = rw h.1.leads at held in
        rw h.1.leads (h.0, step-spelled place s h.0 now.0 h.1, steps-spelled (Within h.0) ss now.1 h.2)

is-top : (nodes : List Node) (path : List PathStep) → HasSteps path → is_from_top (written nodes Top path) ≡ true
is-top nodes [] h = absurd h
is-top nodes (s ∷ ss) h = refl

-- what is written of a path without a bare list spells it
pub path-spelled : (tree : SchemaTree) (path : List PathStep) → IsHeldPath tree.nodes Top path → IsWellNamed tree.nodes → IsFullPath tree path → SpellsPath tree (path_text tree path) path
unfolding path_text
path-spelled tree path held sound full = record {
  steps = written tree.nodes Top path;
  form = record { whole = refl; top = is-top tree.nodes path full.some; each = steps-written tree.nodes sound Top path full.steps };
  spelled = steps-spelled tree.nodes sound Top path held full.steps;
}

-- ---- what an answer says of the text of a path

pub text_law : {E : Type 0} (r : Result (List ℕ) E) (tree : SchemaTree) (path steps : List PathStep) (shown out empty : List ℕ) → IfOk r (λ label. label ≡ shown) → shown ≡ out → out ≡ empty ++ steps_text (written tree.nodes Top steps)
    → empty ≡ [] → path ≡ steps → IfOk r (λ label. label ≡ path_text tree path)
unfolding path_text
text_law (Ok label) tree path steps shown out empty is s o none same = is ∙ s ∙ o ∙ rw (none, same) refl
text_law (Err e) tree path steps shown out empty is s o none same = tt

pub spells_law : {E : Type 0} (r : Result (List ℕ) E) (tree : SchemaTree) (path steps : List PathStep) → IfOk r (λ label. label ≡ path_text tree path) → IsHeldPath tree.nodes Top steps → path ≡ steps
    → IfOk r (λ label. IsWellNamed tree.nodes → IsFullPath tree path → SpellsPath tree label path)
spells_law (Ok label) tree path steps is held same = λ sound full. subst (λ (l : List ℕ). SpellsPath tree l path) (sym is) (path-spelled tree path (rw same held) sound full)
spells_law (Err e) tree path steps is held same = tt
