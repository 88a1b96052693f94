-- The inverse of an edit is an edit of the same tree.
use Rattle.std.proofs.Common.{◌≡◌, ℕ, List, [], ◌∷◌, ◌++◌, map as each, Bool, true, false, cond, not, ◌&&◌, ◌||◌, Option, Some, None, Ok, is_some, slice_get, if◌then◌else◌, ◌==◌, refl, sym, ap, subst, ◌∙◌, inl, inr, arith, append_assoc}
use Rattle.std.proofs.lemmas.Grind.{common_steps}
use Rattle.std.specs.List.{AllByRecursion}
use Rattle.std.specs.List.Sorted.{IsStrictlySortedBy}
use Rattle.std.specs.Option.{option_or}
use Rattle.std.specs.Ordering.{eq_by_cmp}
use Rattle.std.specs.Cmp.{eq_by_cmp_equiv}
use Rattle.std.specs.FinMap.{get, get-empty, contains_key, entries, entries_sorted, get-entries, find}
use Rattle.std.specs.declared.cmp.Ordering.TheVariants.{Less}
use Rattle.nm_base.specs.Numbers.{is_among}
use Rattle.nm_types.specs.Path.{PathStep, path_cmp, Choice, whole, keys as by_keys, entry}
use Rattle.nm_types.specs.PathLaws.{paths_total}
use Rattle.nm_types.specs.Value.{is_same_value}
use Rattle.nm_types.specs.ValueLaws.{same_value_decides}
use Rattle.nm_types.specs.LeafType.{TypeOfLeaf}
use Rattle.nm_types.specs.declared.value.Value.{Value}
use Rattle.nm_types.specs.declared.value.Value.TheVariants.{Present}
use Rattle.nm_proto.specs.declared.message.DefaultOperation.{DefaultOperation}
use Rattle.nm_proto.specs.declared.message.DefaultOperation.TheVariants as unsaid
use Rattle.nm_schema_tree.specs.declared.node.Node.{Node}
use Rattle.nm_schema_tree.specs.declared.node.NodeKind.{NodeKind}
use Rattle.nm_schema_tree.specs.declared.node.NodeKind.TheVariants.{Container, Leaf, LeafList, List as ListOf}
use Rattle.nm_schema_tree.specs.Nodes.{SchemaTree, AreNested, type_at, is_key, is_guard, is_guard_in, keys_of, keys_in, keys_at, parent_of}
use Rattle.nm_path.specs.Spelling.{node_of}
use Rattle.nm_path.specs.Sound.{IsSound, HasKeys, IsLeafIn, is_leaf, is_holder}
use Rattle.nm_config.specs.Rows.{Rows}
use Rattle.nm_validate_rules.specs.declared.rule.Rule.TheVariants.{ValueType}
use Rattle.nm_validate_rules.specs.Standing.{is_chosen, is_chosen_in, is_chosen_at, is_row, is_row_in, is_row_at, is_row_path, StandsIn}
use Rattle.nm_validate_rules.specs.Violated.{fits_kind, fits_node, fits_at, fits_row, last_chosen}
use Rattle.nm_validate_rules.specs.Violation.{IsValid}
use Rattle.nm_validate_rules.proofs.Among.{Among, both, any_passes, among_contains}
use Rattle.nm_validate_rules.proofs.Areas.{ends}
use Rattle.nm_validate_rules.proofs.Chains.{area_node}
use Rattle.nm_validate_rules.proofs.Entries.{chosen_last}
use Rattle.nm_validate_rules.proofs.Leading.{by_last}
use Rattle.nm_validate_rules.proofs.Lists.{not_true}
use Rattle.nm_overlay.proofs.Order.{Place}
use Rattle.nm_overlay.proofs.Sorted.{In_order, Below, head_below, tail_sorted, below_head, below_tail}
use Rattle.nm_edit.specs.declared.operation.Operation.{Operation}
use Rattle.nm_edit.specs.declared.operation.Operation.TheVariants.{Remove}
use Rattle.nm_edit.specs.declared.edit.EditNode.{EditNode}
use Rattle.nm_edit.specs.Standing.{said}
use Rattle.nm_edit.specs.Acts.{acts, coming}
use Rattle.nm_edit.specs.Edited.{gone, ousted, held, base_of, edited_rows}
use Rattle.nm_edit.specs.EditOf.{HasWorth, IsNamed, IsEditOf, paths, names}
use Rattle.nm_edit.specs.Laws.{last_at, goes}
use Rattle.nm_edit.proofs.After.{values_are}
use Rattle.nm_edit.proofs.Data.{above_of}
use Rattle.nm_edit.proofs.Named.{comes_of, each_of}
use Rattle.nm_edit_json.specs.declared.nodes.Told.{Told}
use Rattle.nm_edit_json.specs.Whole.{NodeMap, node_at, nodes_in}
use Rattle.nm_undo.specs.Inverse.{Saying, is_leaf_in, is_leaf_at}
use Rattle.nm_undo.proofs.Maps.{some_is, no_some, is_there, has, entry_get}
use Rattle.nm_undo.proofs.Below.{chosen_on, some_chosen, row_of_path, top_no_row, top_no_node}
use Rattle.nm_undo.proofs.Sayings.{nodes, own_said, Merges, Removes, IsOver, Fronts, kind_of, own_got, front_got, said_row}
use Rattle.nm_undo.proofs.Restored.{over_front}

-- ---- the order of nodes

paths_below : (p : Place) (es : List Saying) → Below p es → AllByRecursion (λ q. path_cmp p q ≡ Less) (paths (each node_at es))
paths_below p [] h = tt
paths_below p (e ∷ es) h = (below_head p e es h, paths_below p es (below_tail p e es h))

in_order : (es : List Saying) → In_order es → IsStrictlySortedBy path_cmp (paths (each node_at es))
unfolding IsStrictlySortedBy
in_order [] h = tt
in_order (e ∷ es) h = (paths_below e.0 es (head_below e es h), in_order es (tail_sorted e es h))

-- ---- the nodes by their paths

some_or : {X : Type 0} (b : Bool) (x : X) (o : Option X) → (b || is_some o) ≡ is_some (cond b (Some x) o)
some_or true x o = refl
some_or false x o = refl

names_some : (es : List Saying) (p : Place) → names (each node_at es) p ≡ is_some (find path_cmp p es)
names_some [] p = refl
names_some (e ∷ es) p =
    ap (λ b. b || names (each node_at es) p) ((eq_by_cmp_equiv paths_total).symm e.0 p) ∙ ap (λ b. eq_by_cmp path_cmp p e.0 || b) (names_some es p) ∙ some_or (eq_by_cmp path_cmp p e.0) e.1 (find path_cmp p es)

names_get : (m : NodeMap) (p : Place) → names (nodes_in m) p ≡ is_some (get m p)
names_get m p = names_some (entries m) p ∙ ap is_some (sym (get-entries m p))

each_is : (P : EditNode → Type 0) (es : List Saying) → ((e : Saying) → Among es e → P (node_at e)) → AllByRecursion P (each node_at es)
each_is P [] h = tt
each_is P (e ∷ es) h = (h e (inl refl), each_is P es (λ x a. h x (inr a)))

-- ---- tests

same_number : (a b : ℕ) → (a == b) ≡ true → a ≡ b
same_number a b e = grind (arith, common_steps)

clash : (b : Bool) → b ≡ true → b ≡ false → ⊥
clash true e h = cc
clash false e h = cc

not_is : (b : Bool) → not b ≡ true → b ≡ false
not_is true e = absurd (cc)
not_is false e = refl

not_both : (a b : Bool) → (a && not b) ≡ false → a ≡ true → b ≡ true
not_both true true e h = refl
not_both true false e h = absurd (cc)
not_both false b e h = absurd (cc)

-- ---- keys are leafs

leaf_by : (t : SchemaTree) → IsSound t.nodes → (x p : ℕ) (k : NodeKind) → HasKeys t.nodes p k → is_among x (keys_of k) ≡ true → IsLeafIn t.nodes p x
unfolding is_among
leaf_by t sound x p (ListOf ks u e) keys a =
    let h = any_passes (λ j. j == x) ks a in
    subst (λ (j : ℕ). IsLeafIn t.nodes p j) (same_number h.x x h.passes) (keys.leafs h.x (among_contains ks h.x h.among))
leaf_by t sound x p (Container b) keys a = absurd (cc)
leaf_by t sound x p (Leaf ty d m r) keys a = absurd (cc)
leaf_by t sound x p (LeafList ty r e) keys a = absurd (cc)

key_leaf : (t : SchemaTree) → IsSound t.nodes → (x : ℕ) (n : Node) → slice_get t.nodes x ≡ Some n → (o : Option ℕ) → parent_of t.nodes x ≡ o → is_among x (keys_at t.nodes o) ≡ true → is_leaf n.kind ≡ true
unfolding is_among
key_leaf t sound x n there None parent a = absurd (cc)
key_leaf t sound x n there (Some p) parent a = by (slice_get t.nodes p) refl a
  where
    by : (o : Option Node) → slice_get t.nodes p ≡ o → is_among x (keys_in o) ≡ true → is_leaf n.kind ≡ true
    by None is b = absurd (cc)
    by (Some list) is b =
        let h = leaf_by t sound x p list.kind (sound.keys p list is) b in
        ap (λ (m : Node). is_leaf m.kind) (some_is n h.node (sym there ∙ h.there)) ∙ h.leaf

no_key : (t : SchemaTree) → IsSound t.nodes → (x : ℕ) (n : Node) → slice_get t.nodes x ≡ Some n → is_leaf n.kind ≡ false → is_key t.nodes x ≡ false
no_key t sound x n there other = not_true (is_key t.nodes x) (λ k. let leaf = key_leaf t sound x n there (parent_of t.nodes x) refl k in clash (is_leaf n.kind) leaf other)

leaf_no_key : (b : Bool) (k : NodeKind) → is_row b k ≡ true → is_leaf k ≡ true → b ≡ false
leaf_no_key b (Leaf ty d m r) row leaf = not_is b row
leaf_no_key b (Container p) row leaf = absurd (cc)
leaf_no_key b (LeafList ty r e) row leaf = absurd (cc)
leaf_no_key b (ListOf ks u e) row leaf = absurd (cc)

row_no_key : (t : SchemaTree) → IsSound t.nodes → (x : ℕ) (n : Node) → slice_get t.nodes x ≡ Some n → is_row (is_key t.nodes x) n.kind ≡ true → is_key t.nodes x ≡ false
row_no_key t sound x n there row = by (is_leaf n.kind) refl
  where
    by : (b : Bool) → is_leaf n.kind ≡ b → is_key t.nodes x ≡ false
    by true leaf = leaf_no_key (is_key t.nodes x) n.kind row leaf
    by false other = no_key t sound x n there other

-- ---- the node of a row

-- a row's path leads to a node that is chosen as its last step says, and that has rows
record RowNode (t : SchemaTree) (q : Place) : Type 0 where
  at : ℕ
  node : Node
  leads : node_of t q ≡ Some at
  there : slice_get t.nodes at ≡ Some node
  row : is_row (is_key t.nodes at) node.kind ≡ true
  chosen : is_chosen node.kind (last_chosen q) ≡ true

row_some : (t : SchemaTree) (o : Option ℕ) → is_row_at t.nodes o ≡ true → (x : ℕ) × (o ≡ Some x)
row_some t None e = absurd (cc)
row_some t (Some x) e = (x, refl)

node_some : (b : Bool) (o : Option Node) → is_row_in b o ≡ true → (n : Node) × (o ≡ Some n)
node_some b None e = absurd (cc)
node_some b (Some n) e = (n, refl)

row_node : (t : SchemaTree) (q : Place) → is_row_path t q ≡ true → RowNode t q
row_node t [] row = absurd (top_no_row t row)
row_node t (s ∷ ss) row =
    let q = s ∷ ss in
    let d = ends s ss in
    let at_row = row_of_path t [] q row in
    let x = row_some t (node_of t q) at_row in
    let has_row : is_row_in (is_key t.nodes x.0) (slice_get t.nodes x.0) ≡ true = ap (is_row_at t.nodes) (sym x.1) ∙ at_row in
    let n = node_some (is_key t.nodes x.0) (slice_get t.nodes x.0) has_row in
    let last : last_chosen q ≡ d.step.chosen = ap last_chosen d.is ∙ chosen_last d.above d.step in
    let chosen : is_chosen_at t.nodes (node_of t q) (last_chosen q) ≡ true =
    (λ i. is_chosen_at t.nodes (node_of t (d.is i)) (last i)) ∙ chosen_on t q d.above d.step [] row d.is in
    record {
      at = x.0;
      node = n.0;
      leads = x.1;
      there = n.1;
      row = ap (is_row_in (is_key t.nodes x.0)) (sym n.1) ∙ has_row;
      chosen = ap (λ (o : Option Node). is_chosen_in o (last_chosen q)) (sym n.1) ∙ ap (λ (o : Option ℕ). is_chosen_at t.nodes o (last_chosen q)) (sym x.1) ∙ chosen;
    }

-- ---- the values of nodes

present_is : (v : Value) → is_same_value Present v ≡ true → v ≡ Present
present_is v e = sym ((same_value_decides Present v (is_same_value Present v) refl).0 e)

entry_value : (w v : Value) → is_same_value w v ≡ true → v ≡ w
entry_value w v e = sym ((same_value_decides w v (is_same_value w v) refl).0 e)

-- a valid row has the value that an edit names it with
worth_of_old : (o : Option TypeOfLeaf) (b : Bool) (k : NodeKind) (c : Choice) (v : Value) → is_row b k ≡ true → is_chosen k c ≡ true → fits_kind o k c v ≡ true → HasWorth None k c (Some v)
worth_of_old o b (Container p) whole v row chosen fits = ap Some (present_is v fits) ∙ sym (ap (λ (x : Bool). if x then Some Present else None) row)
worth_of_old o b (Container p) (by_keys vs) v row chosen fits = absurd (cc)
worth_of_old o b (Container p) (entry w) v row chosen fits = absurd (cc)
worth_of_old o b (Leaf ty d m r) whole v row chosen fits = refl
worth_of_old o b (Leaf ty d m r) (by_keys vs) v row chosen fits = absurd (cc)
worth_of_old o b (Leaf ty d m r) (entry w) v row chosen fits = absurd (cc)
worth_of_old o b (LeafList ty r e) whole v row chosen fits = absurd (cc)
worth_of_old o b (LeafList ty r e) (by_keys vs) v row chosen fits = absurd (cc)
worth_of_old o b (LeafList ty r e) (entry w) v row chosen fits = let h = both (is_same_value w v) _ fits in ap Some (entry_value w v h.0)
worth_of_old o b (ListOf ks u e) whole v row chosen fits = absurd (cc)
worth_of_old o b (ListOf ks u e) (by_keys vs) v row chosen fits = ap Some (present_is v fits)
worth_of_old o b (ListOf ks u e) (entry w) v row chosen fits = absurd (cc)

-- what an edit has brought is removed with its value, and a leaf without
worth_again : (o : Option Operation) (k : NodeKind) (c : Choice) (v : Value) → HasWorth o k c (Some v) → HasWorth (Some Remove) k c (if is_leaf k then None else Some v)
worth_again o (Container p) whole v h = h
worth_again o (Container p) (by_keys vs) v h = absurd h
worth_again o (Container p) (entry w) v h = absurd h
worth_again o (Leaf ty d m r) whole v h = refl
worth_again o (Leaf ty d m r) (by_keys vs) v h = absurd h
worth_again o (Leaf ty d m r) (entry w) v h = absurd h
worth_again o (LeafList ty r e) whole v h = absurd h
worth_again o (LeafList ty r e) (by_keys vs) v h = absurd h
worth_again o (LeafList ty r e) (entry w) v h = h
worth_again o (ListOf ks u e) whole v h = absurd h
worth_again o (ListOf ks u e) (by_keys vs) v h = h
worth_again o (ListOf ks u e) (entry w) v h = absurd h

-- a node above others is merged with its row, if it has one
worth_of_front : (k : NodeKind) (c : Choice) → is_holder k ≡ true → is_chosen k c ≡ true → HasWorth None k c (if is_guard k then Some Present else None)
worth_of_front (Container p) whole holder chosen = refl
worth_of_front (Container p) (by_keys vs) holder chosen = absurd (cc)
worth_of_front (Container p) (entry w) holder chosen = absurd (cc)
worth_of_front (Leaf ty d m r) c holder chosen = absurd (cc)
worth_of_front (LeafList ty r e) c holder chosen = absurd (cc)
worth_of_front (ListOf ks u e) whole holder chosen = absurd (cc)
worth_of_front (ListOf ks u e) (by_keys vs) holder chosen = refl
worth_of_front (ListOf ks u e) (entry w) holder chosen = absurd (cc)

holder_no_leaf : (k : NodeKind) → is_holder k ≡ true → is_leaf k ≡ false
holder_no_leaf (Container p) e = refl
holder_no_leaf (Leaf ty d m r) e = absurd (cc)
holder_no_leaf (LeafList ty r es) e = absurd (cc)
holder_no_leaf (ListOf ks u es) e = refl

-- ---- the nodes

module _ (t : SchemaTree) (old new : Rows) (sound : IsSound t.nodes) (nested : AreNested t.choices t.cases) (stands_old : StandsIn t old) (stands_new : StandsIn t new) (valid : IsValid t old)
    (brought : (q : Place) (w : Value) → get old q ≡ None → get new q ≡ Some w → (n : EditNode) × (n.path ≡ q) × IsNamed t n × (n.value ≡ Some w)) where
  named_old : (q : Place) (told : Told) → Merges t old new q told → IsNamed t (node_at (q, told))
  named_old q told m =
      let r = row_node t q (stands_old.each q (is_there (get old q) m.value m.was)) in
      let fits = not_both (contains_key old q) (fits_row t q (get old q)) (valid ValueType q) (is_there (get old q) m.value m.was) in
      let fits_here : fits_kind (type_at t.nodes r.at) r.node.kind (last_chosen q) m.value ≡ true =
      ap (λ (o : Option Node). fits_node (type_at t.nodes r.at) o (last_chosen q) m.value) (sym r.there)
      ∙ ap (λ (o : Option ℕ). fits_at t.nodes o (last_chosen q) m.value) (sym r.leads)
      ∙ ap (fits_row t q) (sym m.was) ∙ fits in
      subst (λ (x : Told). IsNamed t (node_at (q, x))) (sym m.is) (record {
        at = r.at;
        node = r.node;
        leads = r.leads;
        there = r.there;
        no_key = row_no_key t sound r.at r.node r.there r.row;
        worth = worth_of_old (type_at t.nodes r.at) (is_key t.nodes r.at) r.node.kind (last_chosen q) m.value r.row r.chosen fits_here;
      })

  named_new : (q : Place) (told : Told) → Removes t old new q told → IsNamed t (node_at (q, told))
  named_new q told r =
      let b = brought q r.value r.was r.made in
      let n = b.0 in
      let is = b.2 in
      let leads : node_of t q ≡ Some is.at = ap (node_of t) (sym b.1) ∙ is.leads in
      let its : HasWorth n.operation is.node.kind (last_chosen q) (Some r.value) = (subst (λ (p : Place). HasWorth n.operation is.node.kind (last_chosen p) (Some r.value)) b.1
      (subst (λ (o : Option Value). HasWorth n.operation is.node.kind (last_chosen n.path) o) b.3 is.worth)) in
      let leaf : is_leaf is.node.kind ≡ is_leaf_at t.nodes (node_of t q) = sym (ap (is_leaf_at t.nodes) leads ∙ ap is_leaf_in is.there) in
      subst (λ (x : Told). IsNamed t (node_at (q, x))) (sym r.is) (record {
        at = is.at;
        node = is.node;
        leads = leads;
        there = is.there;
        no_key = is.no_key;
        worth = subst (λ (b : Bool). HasWorth (Some Remove) is.node.kind (last_chosen q) (if b then None else Some r.value)) leaf (worth_again n.operation is.node.kind (last_chosen q) r.value its);
      })

  named_front : (q : Place) (told : Told) → Fronts t old new q told → IsNamed t (node_at (q, told))
  named_front [] told f = absurd (top_no_node t f.at f.leads)
  named_front (s ∷ ss) told f =
      let q = s ∷ ss in
      let over = f.over in
      let row = said_row t old new stands_old stands_new over.saying over.among in
      let d = ends s ss in
      let last : last_chosen q ≡ d.step.chosen = ap last_chosen d.is ∙ chosen_last d.above d.step in
      let on_way : over.saying.0 ≡ d.above ++ d.step ∷ over.step ∷ over.more = over.below ∙ ap (λ (p : Place). p ++ over.step ∷ over.more) d.is ∙ append_assoc d.above (d.step ∷ []) (over.step ∷ over.more) in
      let chosen_at : is_chosen_at t.nodes (node_of t q) (last_chosen q) ≡ true =
      (λ i. is_chosen_at t.nodes (node_of t (d.is i)) (last i)) ∙ chosen_on t over.saying.0 d.above d.step (over.step ∷ over.more) row on_way in
      let x = some_chosen t (node_of t (q ++ over.step ∷ [])) over.step.chosen (chosen_on t over.saying.0 q over.step over.more row over.below) in
      let leads = by_last t q over.step x.0 x.1 in
      let parent : leads.node.parent ≡ Some f.at = sym (area_node t leads.node.parent q leads.area) ∙ f.leads in
      let holder = sound.holders x.0 f.at leads.node leads.there parent in
      let chosen : is_chosen holder.node.kind (last_chosen q) ≡ true =
      ap (λ (o : Option Node). is_chosen_in o (last_chosen q)) (sym holder.there) ∙ ap (λ (o : Option ℕ). is_chosen_at t.nodes o (last_chosen q)) (sym f.leads) ∙ chosen_at in
      subst (λ (y : Told). IsNamed t (node_at (q, y))) (sym f.is) (record {
        at = f.at;
        node = holder.node;
        leads = f.leads;
        there = holder.there;
        no_key = no_key t sound f.at holder.node holder.there (holder_no_leaf holder.node.kind holder.holder);
        worth = subst (λ (b : Bool). HasWorth None holder.node.kind (last_chosen q) (if b then Some Present else None)) (sym (ap is_guard_in holder.there)) (worth_of_front holder.node.kind (last_chosen q) holder.holder chosen);
      })

  named : (e : Saying) → Among (entries (nodes t old new)) e → IsNamed t (node_at e)
  named e a = elim (kind_of t old new e.0 e.1 (entry_get (nodes t old new) e.0 e.1 a)) [
    | inl own ↦ elim own [
      | inl m ↦ named_old e.0 e.1 m
      | inr r ↦ named_new e.0 e.1 r
    ]
    | inr f ↦ named_front e.0 e.1 f
  ]

  above_there : (q : Place) → IsOver t old new q → (o : Option Told) → own_said t old new q ≡ o → (x : ℕ) → node_of t q ≡ Some x → is_some (get (nodes t old new) q) ≡ true
  above_there q over (Some told) is x leads = is_there (get (nodes t old new) q) told (own_got t old new q told is)
  above_there q over None is x leads = let h = front_got t old new q x over leads is in is_there (get (nodes t old new) q) h.value h.is

  -- a front of a row that is no row itself leads to a node
  front_node : (s : PathStep) (ss : Place) → IsOver t old new (s ∷ ss) → (x : ℕ) × (node_of t (s ∷ ss) ≡ Some x)
  front_node s ss over =
      let d = ends s ss in
      let on_way : over.saying.0 ≡ d.above ++ d.step ∷ over.step ∷ over.more = over.below ∙ ap (λ (p : Place). p ++ over.step ∷ over.more) d.is ∙ append_assoc d.above (d.step ∷ []) (over.step ∷ over.more) in
      let x = some_chosen t (node_of t (d.above ++ d.step ∷ [])) d.step.chosen (chosen_on t over.saying.0 d.above d.step (over.step ∷ over.more) (said_row t old new stands_old stands_new over.saying over.among) on_way) in
      (x.0, ap (node_of t) d.is ∙ x.1)

  pub nodes_are : IsEditOf t (nodes_in (nodes t old new))
  nodes_are = record {
    ordered = in_order (entries (nodes t old new)) (entries_sorted (nodes t old new));
    each = each_is (IsNamed t) (entries (nodes t old new)) named;
    above = λ s ss r more e.
        let h = has (get (nodes t old new) (s ∷ ss ++ r ∷ more)) (sym (names_get (nodes t old new) (s ∷ ss ++ r ∷ more)) ∙ e) in
        let over = over_front t old new sound nested stands_old stands_new valid (s ∷ ss ++ r ∷ more) (s ∷ ss) r more h.value h.is refl in
        let x = front_node s ss over in
        names_get (nodes t old new) (s ∷ ss) ∙ above_there (s ∷ ss) over (own_said t old new (s ∷ ss)) refl x.0 x.1;
  }

-- ---- what an edit has brought

module _ (t : SchemaTree) (old made : Rows) (edits : List EditNode) (d : DefaultOperation) (edit : IsEditOf t edits) (makes : edited_rows t old edits d ≡ Ok made) where
  base_none : (d : DefaultOperation) (q : Place) → get old q ≡ None → get (base_of d old) q ≡ None
  base_none unsaid.Merge q was = was
  base_none unsaid.Replace q was = get-empty path_cmp q
  base_none unsaid.Nothing q was = was

  either_none : (b : Bool) (o : Option Value) → o ≡ None → (if b then None else o) ≡ None
  either_none true o e = refl
  either_none false o e = e

  held_none : (q : Place) (o : Option Value) → get old q ≡ None → last_at (held t old (coming (acts edits d))) q ≡ o → o ≡ None
  held_none q None was is = refl
  held_none q (Some v) was is = let h = above_of t old (coming (acts edits d)) q v is in absurd (no_some v (sym was ∙ h.is.there))

  or_left_none : (o p : Option Value) (w : Value) → p ≡ None → option_or o p ≡ Some w → o ≡ Some w
  or_left_none (Some v) p w none e = e
  or_left_none None p w none e = sym none ∙ e

  pub brought_is : (q : Place) (w : Value) → get old q ≡ None → get made q ≡ Some w → (n : EditNode) × (n.path ≡ q) × IsNamed t n × (n.value ≡ Some w)
  brought_is q w was made_there =
      let new = coming (acts edits d) in
      let goers = gone (acts edits d) ++ ousted t new in
      let rest = option_or (last_at (held t old new) q) (if goes goers q then None else get (base_of d old) q) in
      let rest_none : rest ≡ None =
      ap (λ (o : Option Value). option_or o (if goes goers q then None else get (base_of d old) q)) (held_none q (last_at (held t old new) q) was refl)
      ∙ either_none (goes goers q) (get (base_of d old) q) (base_none d q was) in
      let comes = or_left_none (last_at new q) rest w rest_none (sym (values_are t old edits d made q makes) ∙ made_there) in
      let h = comes_of q w (said edits) d edits comes in
      (h.node, h.at, each_of (IsNamed t) edits h.node edit.each h.among, h.worth)
