-- The nodes that names lead to in a sound schema.
use Rattle.std.proofs.Common.{◌≡◌, ℕ, zero, suc, ◌+◌, ◌<◌, List, [], ◌∷◌, ◌++◌, take, drop, length, get_or, Bool, true, false, ◌==◌, Option, Some, None, slice_get, inl, inr, refl, sym, ap, ◌∙◌, subst, arith}
use Rattle.std.specs.Prelude.{Contains, if◌then◌else◌}
use Rattle.std.proofs.lemmas.Bool.{and_parts, cases_Bool, false_from_ne_true}
use Rattle.std.proofs.lemmas.Bool.Decides.{nat_tests}
use Rattle.std.proofs.lemmas.Grind.{common_steps}
use Rattle.std.proofs.lemmas.Option.{same_Some, none-some}
use Rattle.std.proofs.lemmas.Slice.Eq.{bytes_eq-Decides}
use Rattle.std.specs.List.{list_any, position_from, position_or_len, before_first, after_first, AllByRecursion}
use Rattle.std.specs.Str.{bytes_eq}
use Rattle.nm_types.specs.Path.{PathStep, Choice}
use Rattle.nm_schema_tree.specs.declared.node.Node.{Node}
use Rattle.nm_schema_tree.specs.declared.node.NodeKind.{NodeKind}
use Rattle.nm_schema_tree.specs.declared.node.NodeKind.TheVariants.{Container, Leaf, LeafList, List as ListOf}
use Rattle.nm_base.specs.Numbers.{is_among}
use Rattle.nm_schema_tree.specs.Nodes.{SchemaTree, same_parent, is_named, is_top, first_named, first_top, keys_of, keys_in, keys_at, parent_in, parent_of, is_key}
use Rattle.nm_schema_tree.proofs.Positions.{first_passes}
use Rattle.nm_path.specs.declared.place.Place.{Place}
use Rattle.nm_path.specs.declared.place.Place.TheVariants.{Top, Within, Nowhere}
use Rattle.nm_path.specs.Form.{is_start, is_name, are_names, is_identifier}
use Rattle.nm_path.specs.Spelling.{is_module, if_of}
use Rattle.nm_path.specs.Sound.{IsSound, IsLeafIn, HasKeys, is_leaf}
use Rattle.nm_path.proofs.Binds.{guard_some, guard_bind}
use Rattle.nm_json.specs.Findings.{is_colon, has_colon, named_in, named_top, node_named}
use Rattle.nm_json.specs.Writing.{member_name}
use Rattle.nm_json.specs.Configs.{LeadsTo}

same_bytes : (a b : List ℕ) → bytes_eq a b ≡ true → a ≡ b
same_bytes a b e = (bytes_eq-Decides a b).0 e

-- ---- colons

bare_byte : (b : ℕ) → is_name b ≡ true → is_colon b ≡ false
unfolding is_name is_start
bare_byte b h = grind (arith, nat_tests)

bare_names : (bs : List ℕ) → are_names bs ≡ true → list_any is_colon bs ≡ false
bare_names [] h = refl
bare_names (b ∷ bs) h =
    let p = and_parts (is_name b) (are_names bs) h in
    let one = bare_byte b p.0 in
    let others = bare_names bs p.1 in
    rw (one, others) refl

start_name : (b : ℕ) → is_start b ≡ true → is_name b ≡ true
unfolding is_name
start_name b h = rw h refl

-- an identifier has no colon
pub identifier_bare : (k : List ℕ) → is_identifier k ≡ true → has_colon k ≡ false
unfolding has_colon
identifier_bare [] h = refl
identifier_bare (b ∷ bs) h =
    let p = and_parts (is_start b) (are_names bs) h in
    let one = bare_byte b (start_name b p.0) in
    let others = bare_names bs p.1 in
    rw (one, others) refl

-- a name behind a module's and a colon
pub colon_there : (m n : List ℕ) → has_colon (m ++ 58 ∷ n) ≡ true
unfolding has_colon
colon_there [] n = refl
colon_there (b ∷ m) n = elim (cases_Bool (is_colon b)) [ inl e ↦ rw e refl | inr e ↦ rw e (colon_there m n) ]

first_at : (m n : List ℕ) → list_any is_colon m ≡ false → position_or_len is_colon (m ++ 58 ∷ n) ≡ length m
first_at [] n h = refl
first_at (b ∷ m) n h = elim (cases_Bool (is_colon b)) [
  | inl e ↦ absurd (let k : true ≡ false = rw e at h in cc)
  | inr e ↦ (let r = first_at m n (rw e at h) in rw e (omega (arith, r)))
]

take_front : (m n : List ℕ) → take (length m) (m ++ 58 ∷ n) ≡ m
take_front [] n = refl
take_front (b ∷ m) n = ap (λ (l : List ℕ). b ∷ l) (take_front m n)

drop_front : (m n : List ℕ) → drop (length m + 1) (m ++ 58 ∷ n) ≡ n
drop_front [] n = refl
drop_front (b ∷ m) n = let e : length (b ∷ m) + 1 ≡ suc (length m + 1) = omega arith in rw e (drop_front m n)

pub before_colon : (m n : List ℕ) → has_colon m ≡ false → before_first is_colon (m ++ 58 ∷ n) ≡ m
unfolding has_colon
before_colon m n h = ap (λ k. take k (m ++ 58 ∷ n)) (first_at m n h) ∙ take_front m n

pub after_colon : (m n : List ℕ) → has_colon m ≡ false → after_first is_colon (m ++ 58 ∷ n) ≡ n
unfolding has_colon
after_colon m n h = ap (λ k. drop (k + 1) (m ++ 58 ∷ n)) (first_at m n h) ∙ drop_front m n

-- ---- steps

-- the node that a step leads to, by what is found in the schema
record Called (nodes : List Node) (at : ℕ) (owner name : List ℕ) : Type 0 where
  node : Node
  there : slice_get nodes at ≡ Some node
  owner_is : node.«module» ≡ owner
  name_is : node.name ≡ name

top_called : (nodes : List Node) (owner name : List ℕ) (at : ℕ) → first_top nodes owner name ≡ Some at → Called nodes at owner name
unfolding first_top
top_called nodes owner name at e =
    let h = first_passes (is_top owner name) nodes at e in
    let m = and_parts (bytes_eq h.x.«module» owner) (is_named None name h.x) h.passes in
    let n = and_parts (same_parent h.x.parent None) (bytes_eq h.x.name name) m.1 in
    record { node = h.x; there = h.here; owner_is = same_bytes h.x.«module» owner m.0; name_is = same_bytes h.x.name name n.1 }

parent_is : (o : Option ℕ) (i : ℕ) → same_parent o (Some i) ≡ true → o ≡ Some i
parent_is None i e = grind arith
parent_is (Some j) i e = grind (arith, common_steps)

-- a node that stands in another, with its name
pub record StandsIn (nodes : List Node) (i at : ℕ) (name : List ℕ) : Type 0 where
  pub node : Node
  pub there : slice_get nodes at ≡ Some node
  pub parent_is : node.parent ≡ Some i
  pub name_is : node.name ≡ name

pub named_below : (nodes : List Node) (i : ℕ) (name : List ℕ) (at : ℕ) → first_named nodes i name ≡ Some at → StandsIn nodes i at name
unfolding first_named
named_below nodes i name at e =
    let h = first_passes (is_named (Some i) name) nodes at e in
    let n = and_parts (same_parent h.x.parent (Some i)) (bytes_eq h.x.name name) h.passes in
    record { node = h.x; there = h.here; parent_is = parent_is h.x.parent i n.0; name_is = same_bytes h.x.name name n.1 }

child_first : (nodes : List Node) (owner : List ℕ) (at : ℕ) (o : Option ℕ) → if_of nodes owner o ≡ Some at → (o ≡ Some at) × (is_module owner (slice_get nodes at) ≡ true)
child_first nodes owner at None f = absurd (none-some at f)
child_first nodes owner at (Some j) f =
    let g = guard_some (is_module owner (slice_get nodes j)) j at f in
    (ap Some g.1, ap (λ k. is_module owner (slice_get nodes k)) (sym g.1) ∙ g.0)

-- the node of a step has its module and name
pub record Led (s : PathStep) (node : Node) : Type 0 where
  pub module_same : node.«module» ≡ s.«module»
  pub name_same : node.name ≡ s.name

led_by : (nodes : List Node) (at : ℕ) (s : PathStep) (node : Node) → slice_get nodes at ≡ Some node → Called nodes at s.«module» s.name → Led s node
led_by nodes at s node there c =
    let same : c.node ≡ node = same_Some c.node node (sym c.there ∙ there) in
    record { module_same = ap (λ n. n.«module») (sym same) ∙ c.owner_is; name_same = ap (λ n. n.name) (sym same) ∙ c.name_is }

pub led : (nodes : List Node) (place : Place) (s : PathStep) (at : ℕ) (node : Node) → LeadsTo nodes place s at node → Led s node
led nodes Top s at node h = led_by nodes at s node h.there (top_called nodes s.«module» s.name at h.leads)
led nodes (Within i) s at node h =
    let f = child_first nodes s.«module» at (first_named nodes i s.name) h.leads in
    let w = named_below nodes i s.name at f.0 in
    let same : w.node ≡ node = same_Some w.node node (sym w.there ∙ h.there) in
    record { module_same = same_bytes node.«module» s.«module» (ap (is_module s.«module») (sym h.there) ∙ f.1); name_same = ap (λ n. n.name) (sym same) ∙ w.name_is }
led nodes Nowhere s at node h = absurd (none-some at h.leads)

-- the name of a step below the top leads to its node
pub child_leads : (nodes : List Node) (i : ℕ) (s : PathStep) (at : ℕ) (node : Node) → LeadsTo nodes (Within i) s at node → first_named nodes i s.name ≡ Some at
child_leads nodes i s at node h = (child_first nodes s.«module» at (first_named nodes i s.name) h.leads).0

-- where the members are that a place stands for
abbrev pub around : Place → Option ℕ
around Top = None
around (Within i) = Some i
around Nowhere = None

-- a place of the schema
abbrev pub IsPlace : Place → Type 0
IsPlace Top = Unit {0}
IsPlace (Within i) = Unit {0}
IsPlace Nowhere = ⊥

-- the step that has the module and the name of a node
abbrev pub step_of : Node → Choice → PathStep
step_of n c = record { «module» = n.«module»; name = n.name; chosen = c }

top_back : (nodes : List Node) (owner name : List ℕ) (at : ℕ) (node : Node) → slice_get nodes at ≡ Some node → first_top nodes owner name ≡ Some at → first_top nodes node.«module» node.name ≡ Some at
top_back nodes owner name at node there e =
    let c = top_called nodes owner name at e in
    let same : c.node ≡ node = same_Some c.node node (sym c.there ∙ there) in
    let m : node.«module» ≡ owner = ap (λ n. n.«module») (sym same) ∙ c.owner_is in
    let n : node.name ≡ name = ap (λ n. n.name) (sym same) ∙ c.name_is in
    ap (λ x. first_top nodes x node.name) m ∙ ap (first_top nodes owner) n ∙ e

child_back : (nodes : List Node) (i : ℕ) (name : List ℕ) (at : ℕ) (node : Node) → slice_get nodes at ≡ Some node → first_named nodes i name ≡ Some at → if_of nodes node.«module» (first_named nodes i node.name) ≡ Some at
child_back nodes i name at node there e =
    let w = named_below nodes i name at e in
    let same : w.node ≡ node = same_Some w.node node (sym w.there ∙ there) in
    let n : node.name ≡ name = ap (λ n. n.name) (sym same) ∙ w.name_is in
    let owner : is_module node.«module» (slice_get nodes at) ≡ true = ap (is_module node.«module») there ∙ (bytes_eq-Decides node.«module» node.«module»).1 refl in
    ap (λ x. if_of nodes node.«module» (first_named nodes i x)) n ∙ ap (if_of nodes node.«module») e ∙ ap (λ b. if b then Some at else None) owner

within_by : (t : SchemaTree) (i : ℕ) (name : List ℕ) (at : ℕ) (node : Node) (b c : Bool) → slice_get t.nodes at ≡ Some node
    → (if b then (if c then first_named t.nodes i (after_first is_colon name) else None) else first_named t.nodes i name) ≡ Some at → if_of t.nodes node.«module» (first_named t.nodes i node.name) ≡ Some at
within_by t i name at node true true there e = child_back t.nodes i (after_first is_colon name) at node there e
within_by t i name at node true false there e = absurd (none-some at e)
within_by t i name at node false c there e = child_back t.nodes i name at node there e

-- the node that a member's name leads to is found by its module and name
pub leads_back : (t : SchemaTree) (place : Place) (name : List ℕ) (at : ℕ) (node : Node) (c : Choice) → IsPlace place → slice_get t.nodes at ≡ Some node → node_named t (around place) name ≡ Some at → LeadsTo t.nodes place (step_of node c) at node
unfolding named_top named_in
leads_back t Top name at node c p there e =
    let g = guard_bind (has_colon name) (first_top t.nodes (before_first is_colon name) (after_first is_colon name)) at e in
    record { leads = top_back t.nodes (before_first is_colon name) (after_first is_colon name) at node there g.1; there = there }
leads_back t (Within i) name at node c p there e = record { leads = within_by t i name at node (has_colon name) (is_module (before_first is_colon name) (slice_get t.nodes i)) there e; there = there }
leads_back t Nowhere name at node c p there e = absurd p

module _ (t : SchemaTree) (sound : IsSound t.nodes) where
  pub node_bare : (at : ℕ) (node : Node) → slice_get t.nodes at ≡ Some node → (has_colon node.name ≡ false) × (has_colon node.«module» ≡ false)
  node_bare at node h =
      let n = sound.named.names at node h in
      (identifier_bare node.name n.0, identifier_bare node.«module» n.1)

  -- the name of a written member leads to the node of its step
  pub member_leads : (place : Place) (s : PathStep) (at : ℕ) (node : Node) → LeadsTo t.nodes place s at node → node_named t (around place) (member_name place s) ≡ Some at
  unfolding named_top named_in
  member_leads Top s at node h =
      let l = led t.nodes Top s at node h in
      let bare : has_colon s.«module» ≡ false = ap has_colon (sym l.module_same) ∙ (node_bare at node h.there).1 in
      let one = colon_there s.«module» s.name in
      let front = before_colon s.«module» s.name bare in
      let back = after_colon s.«module» s.name bare in
      ap (λ b. if b then first_top t.nodes (before_first is_colon (s.«module» ++ 58 ∷ s.name)) (after_first is_colon (s.«module» ++ 58 ∷ s.name)) else None) one
      ∙ ap (λ m. first_top t.nodes m (after_first is_colon (s.«module» ++ 58 ∷ s.name))) front ∙ ap (first_top t.nodes s.«module») back ∙ h.leads
  member_leads (Within i) s at node h =
      let l = led t.nodes (Within i) s at node h in
      let bare : has_colon s.name ≡ false = ap has_colon (sym l.name_same) ∙ (node_bare at node h.there).0 in
      let f = child_first t.nodes s.«module» at (first_named t.nodes i s.name) h.leads in
      ap (λ b. if b then (if is_module (before_first is_colon s.name) (slice_get t.nodes i) then first_named t.nodes i (after_first is_colon s.name) else None) else first_named t.nodes i s.name) bare ∙ f.0
  member_leads Nowhere s at node h = absurd (none-some at h.leads)

  -- ---- keys

  position_some : (f : Node → Bool) (n : ℕ) (nodes : List Node) (i : ℕ) (x : Node) → slice_get nodes i ≡ Some x → f x ≡ true → (j : ℕ) × (position_from f n nodes ≡ Some j)
  position_some f n [] i x h e = absurd (none-some x h)
  position_some f n (y ∷ nodes) zero x h e =
      let same : f y ≡ true = ap f (same_Some y x h) ∙ e in
      (n, rw same refl)
  position_some f n (y ∷ nodes) (suc i) x h e =
      let later = position_some f (n + 1) nodes i x h e in
      elim (cases_Bool (f y)) [ inl here ↦ (n, rw here refl) | inr other ↦ (later.0, rw other later.1) ]

  own_parent : (i : ℕ) → same_parent (Some i) (Some i) ≡ true
  own_parent i = grind (arith, nat_tests)

  child_named : (i : ℕ) (x : Node) → x.parent ≡ Some i → is_named (Some i) x.name x ≡ true
  child_named i x e =
      let a : same_parent x.parent (Some i) ≡ true = ap (λ o. same_parent o (Some i)) e ∙ own_parent i in
      let b : bytes_eq x.name x.name ≡ true = (bytes_eq-Decides x.name x.name).1 refl in
      rw (a, b) refl

  -- the name of a node leads to it from the node that it stands in
  pub first_of : (i k : ℕ) (x : Node) → slice_get t.nodes k ≡ Some x → x.parent ≡ Some i → first_named t.nodes i x.name ≡ Some k
  unfolding first_named
  first_of i k x there parent =
      let found = position_some (is_named (Some i) x.name) 0 t.nodes k x there (child_named i x parent) in
      let w = named_below t.nodes i x.name found.0 found.1 in
      let mine = sound.tree.modules k i x there parent in
      let its = sound.tree.modules found.0 i w.node w.there w.parent_is in
      let one : w.node.«module» ≡ x.«module» = same_Some w.node.«module» x.«module» (sym its ∙ mine) in
      let same : found.0 ≡ k = sound.apart found.0 k w.node x w.there there (record { parent = w.parent_is ∙ sym parent; «module» = one; name = w.name_is }) in
      found.1 ∙ ap Some same

  among_any : (i : ℕ) (ks : List ℕ) → list_any (λ j. j == i) ks ≡ true → Contains ks i
  among_any i [] e = cc
  among_any i (k ∷ ks) e = elim (cases_Bool (k == i)) [
    | inl here ↦ (zero, omega arith, grind (arith, nat_tests))
    | inr other ↦ (let p = among_any i ks (rw other at e) in (suc p.0, omega (arith, p.1), p.2))
  ]

  keys_leafs : (i : ℕ) (n : Node) (k : NodeKind) → n.kind ≡ k → slice_get t.nodes i ≡ Some n → (at : ℕ) → Contains (keys_of k) at → IsLeafIn t.nodes i at
  keys_leafs i n (ListOf ks u e) is there at c = (subst (HasKeys t.nodes i) is (sound.keys i n there)).leafs at c
  keys_leafs i n (Container p) is there at c = absurd (omega (arith, c.1))
  keys_leafs i n (Leaf l d m r) is there at c = absurd (omega (arith, c.1))
  keys_leafs i n (LeafList l r e) is there at c = absurd (omega (arith, c.1))

  key_in : (at : ℕ) (p : ℕ) (o : Option Node) → slice_get t.nodes p ≡ o → is_among at (keys_in o) ≡ true → IsLeafIn t.nodes p at
  unfolding is_among
  key_in at p None is h = absurd cc
  key_in at p (Some n) is h = keys_leafs p n n.kind refl is at (among_any at (keys_of n.kind) h)

  key_leaf : (at : ℕ) (o : Option ℕ) → is_among at (keys_at t.nodes o) ≡ true → (p : ℕ) × IsLeafIn t.nodes p at
  unfolding is_among
  key_leaf at None h = absurd cc
  key_leaf at (Some p) h = (p, key_in at p (slice_get t.nodes p) refl h)

  -- what is no leaf is no key
  pub no_key : (at : ℕ) (node : Node) → slice_get t.nodes at ≡ Some node → is_leaf node.kind ≡ false → is_key t.nodes at ≡ false
  no_key at node there h = false_from_ne_true (is_key t.nodes at) (λ e.
      let p = key_leaf at (parent_of t.nodes at) e in
      let same : p.1.node ≡ node = same_Some p.1.node node (sym p.1.there ∙ there) in
      let leaf : is_leaf node.kind ≡ true = ap (λ n. is_leaf n.kind) (sym same) ∙ p.1.leaf in
      cc)

  -- what is known of a key of list `at`
  pub record Key (at k : ℕ) : Type 0 where
    pub node : Node
    pub there : slice_get t.nodes k ≡ Some node
    pub first : first_named t.nodes at node.name ≡ Some k
    pub key : is_key t.nodes k ≡ true
    pub bare : has_colon node.name ≡ false

  any_among : (i : ℕ) (ks : List ℕ) (k : ℕ) → k < length ks → get_or ks k i ≡ i → list_any (λ j. j == i) ks ≡ true
  any_among i [] k h e = absurd (omega (arith, h))
  any_among i (x ∷ ks) zero h e = let here : (x == i) ≡ true = grind (arith, nat_tests) in rw here refl
  any_among i (x ∷ ks) (suc k) h e =
      let p = any_among i ks k (omega (arith, h)) e in
      elim (cases_Bool (x == i)) [ inl here ↦ rw here refl | inr other ↦ rw other p ]

  is_key_of : (at k : ℕ) (n x : Node) (ks : List ℕ) → slice_get t.nodes at ≡ Some n → keys_of n.kind ≡ ks → slice_get t.nodes k ≡ Some x → x.parent ≡ Some at → Contains ks k → is_key t.nodes k ≡ true
  unfolding is_among
  is_key_of at k n x ks there keys here parent c =
      let up : parent_of t.nodes k ≡ Some at = ap parent_in here ∙ parent in
      ap (λ o. is_among k (keys_at t.nodes o)) up ∙ ap (λ o. is_among k (keys_in o)) there ∙ ap (is_among k) keys ∙ any_among k ks c.0 c.1 c.2

  pub key_known : (at : ℕ) (n : Node) (ks : List ℕ) (k : ℕ) → slice_get t.nodes at ≡ Some n → keys_of n.kind ≡ ks → Contains ks k → Key at k
  key_known at n ks k there keys c =
      let leaf = keys_leafs at n n.kind refl there k (subst (λ l. Contains l k) (sym keys) c) in
      record {
        node = leaf.node;
        there = leaf.there;
        first = first_of at k leaf.node leaf.there leaf.within;
        key = is_key_of at k n leaf.node ks there keys leaf.there leaf.within c;
        bare = (node_bare k leaf.node leaf.there).0;
      }

  keys_all : (at : ℕ) (all ks : List ℕ) → ((k : ℕ) → Contains all k → Key at k) → ((k : ℕ) → Contains ks k → Contains all k) → AllByRecursion (Key at) ks
  keys_all at all [] f h = tt
  keys_all at all (k ∷ ks) f h = (f k (h k (zero, omega arith, refl)), keys_all at all ks f (λ j c. h j (suc c.0, omega (arith, c.1), c.2)))

  -- what is known of all keys of a list
  pub keys_known : (at : ℕ) (n : Node) (ks : List ℕ) → slice_get t.nodes at ≡ Some n → keys_of n.kind ≡ ks → AllByRecursion (Key at) ks
  keys_known at n ks there keys = keys_all at ks ks (λ k c. key_known at n ks k there keys c) (λ k c. c)
