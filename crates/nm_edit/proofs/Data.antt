-- Rows that stand in the tree still do after an edit.
use Rattle.std.proofs.Common.{◌≡◌, ◌⊎◌, List, [], ◌∷◌, ◌++◌, Bool, true, false, ◌||◌, not, Option, Some, None, Ok, if◌then◌else◌, refl, sym, ap, ◌∙◌, subst, inl, inr, append_assoc}
use Rattle.std.specs.Prelude.{is_some}
use Rattle.std.specs.List.{flat_map}
use Rattle.std.specs.Option.{option_or}
use Rattle.std.specs.FinMap.{get, get-empty, keys, contains_key}
use Rattle.std.proofs.lemmas.List.{append-nil}
use Rattle.nm_types.specs.Path.{PathStep, path_cmp, Choice, whole, keys as by_keys, entry}
use Rattle.nm_types.specs.declared.value.Value.{Value}
use Rattle.nm_types.specs.declared.value.Value.TheVariants.{Present}
use Rattle.nm_proto.specs.Content.{Refusal}
use Rattle.nm_proto.specs.declared.message.DefaultOperation.{DefaultOperation}
use Rattle.nm_proto.specs.declared.message.DefaultOperation.TheVariants as unsaid
use Rattle.nm_schema_tree.specs.declared.node.NodeKind.{NodeKind}
use Rattle.nm_schema_tree.specs.declared.node.NodeKind.TheVariants.{Container, Leaf, LeafList, List as ListOf}
use Rattle.nm_schema_tree.specs.Nodes.{SchemaTree, is_guard, is_guard_in}
use Rattle.nm_path.specs.Spelling.{node_of, found_of}
use Rattle.nm_config.specs.Rows.{Rows}
use Rattle.nm_config.specs.Under.{is_under, goes_along, is_end, has_under, EntersList}
use Rattle.nm_config.proofs.Meaning.{under-means}
use Rattle.nm_validate_rules.specs.Standing.{is_chosen, is_chosen_in, is_chosen_at, is_own_at, is_row_from, is_row_path, StandsIn}
use Rattle.nm_validate_rules.specs.Values.{is_same_path}
use Rattle.nm_validate_rules.specs.Violated.{last_chosen}
use Rattle.nm_validate_rules.proofs.Among.{Among, any_passes, among_left, among_right, among_flat, both, among_contains}
use Rattle.nm_validate_rules.proofs.Leading.{place_at, node_last}
use Rattle.nm_validate_rules.proofs.Placed.{key_there, both_true as both_pass}
use Rattle.nm_edit.specs.declared.operation.Operation.{Operation}
use Rattle.nm_edit.specs.declared.operation.Effective.{Effective}
use Rattle.nm_edit.specs.declared.operation.Effective.TheVariants.{Merge, Replace, Create, Delete, Remove, Nothing}
use Rattle.nm_edit.specs.declared.edit.EditNode.{EditNode}
use Rattle.nm_edit.specs.declared.standing.Standing.{Standing}
use Rattle.nm_edit.specs.Words.{brings, takes_away}
use Rattle.nm_edit.specs.Standing.{Sayings, said, stepped, standing_from, standing, at_top}
use Rattle.nm_edit.specs.Acts.{act_of, acts_at, acts, rows_if, row_of, coming}
use Rattle.nm_edit.specs.Refusals.{is_passed, is_passed_in, is_passed_at, refused_by, first_refusal}
use Rattle.nm_edit.specs.Edited.{gone, ousted, rows_at, held_at, held_from, held_above, held, base_of, brought, limited, unless, edited_rows}
use Rattle.nm_edit.specs.EditOf.{HasWorth, IsNamed, IsEditOf, names}
use Rattle.nm_edit.specs.Laws.{last_at, goes, value_after}
use Rattle.nm_edit.proofs.After.{values_are}
use Rattle.nm_edit.proofs.Firsts.{none_of}
use Rattle.nm_edit.proofs.Named.{Named, same_path, path_itself, last_step, each_of, names_of, named_at, comes_of, no_node, coming_leads}

-- ---- options

some_of : {X : Type 0} (a b : Option X) → is_some (option_or a b) ≡ true → (is_some a ≡ true) ⊎ (is_some b ≡ true)
some_of (Some x) b e = inl refl
some_of None b e = inr e

some_left : {X : Type 0} (a b : Option X) → is_some a ≡ true → is_some (option_or a b) ≡ true
some_left (Some x) b e = refl
some_left None b e = absurd (cc)

some_right : {X : Type 0} (a b : Option X) → is_some b ≡ true → is_some (option_or a b) ≡ true
some_right (Some x) b e = refl
some_right None b e = e

record Value_of {X : Type 0} (o : Option X) : Type 0 where
  value : X
  is : o ≡ Some value

value_of : {X : Type 0} (o : Option X) → is_some o ≡ true → Value_of o
value_of (Some x) e = record { value = x; is = refl }
value_of None e = absurd (cc)

some_value : {X : Type 0} (o : Option X) (x : X) → o ≡ Some x → is_some o ≡ true
some_value o x e = ap is_some e

by_bool : (b : Bool) → (b ≡ true → ⊥) → b ≡ false
by_bool true h = absurd (h refl)
by_bool false h = refl

-- ---- what stands at a path, by what stands above it

module _ (told : Sayings) where
  stepped_cut : (o : Option Operation) (s : Standing) → (stepped o s).is_cut ≡ (s.is_cut || takes_away s.operation)
  stepped_cut None s = refl
  stepped_cut (Some own) s = refl

  first_true : (a b : Bool) → a ≡ true → (a || b) ≡ true
  first_true true b e = refl
  first_true false b e = absurd (cc)

  cut_stays : (s : Standing) (above ss : List PathStep) → s.is_cut ≡ true → (standing_from told s above ss).is_cut ≡ true
  cut_stays s above [] e = e
  cut_stays s above (step ∷ ss) e =
      let o = get told (above ++ step ∷ []) in
      cut_stays (stepped o s) (above ++ step ∷ []) ss (stepped_cut o s ∙ first_true s.is_cut (takes_away s.operation) e)

  standing_both : (s : Standing) (above xs ys : List PathStep) → standing_from told s above (xs ++ ys) ≡ standing_from told (standing_from told s above xs) (above ++ xs) ys
  standing_both s above [] ys = ap (λ (p : List PathStep). standing_from told s p ys) (sym (append-nil above))
  standing_both s above (x ∷ xs) ys =
      let next = stepped (get told (above ++ x ∷ [])) s in
      standing_both next (above ++ x ∷ []) xs ys ∙ ap (λ (p : List PathStep). standing_from told (standing_from told next (above ++ x ∷ []) xs) p ys) (append_assoc above (x ∷ []) xs)

  -- above a node that is looked at nothing is taken away
  pub kept_above : (d : DefaultOperation) (path : List PathStep) (s : PathStep) (more : List PathStep) → (standing told d (path ++ s ∷ more)).is_cut ≡ false
      → ((standing told d path).is_cut || takes_away (standing told d path).operation) ≡ false
  kept_above d path s more e =
      let here = standing told d path in
      let o = get told (path ++ s ∷ []) in
      by_bool (here.is_cut || takes_away here.operation) (λ cut.
      let below : (standing told d (path ++ s ∷ more)).is_cut ≡ true = ap (λ (x : Standing). x.is_cut) (standing_both (at_top d) [] path (s ∷ more)) ∙ cut_stays (stepped o here) (path ++ s ∷ []) more (stepped_cut o here ∙ cut) in
      absurd (cc))

both_false : (a b : Bool) → (a || b) ≡ false → (a ≡ false) × (b ≡ false)
both_false true b e = absurd (cc)
both_false false b e = (refl, e)

only_nothing : (e : Effective) → takes_away e ≡ false → brings e ≡ false → e ≡ Nothing
only_nothing Merge a b = absurd (cc)
only_nothing Replace a b = absurd (cc)
only_nothing Create a b = absurd (cc)
only_nothing Delete a b = absurd (cc)
only_nothing Remove a b = absurd (cc)
only_nothing Nothing a b = refl

-- ---- rows among others

pub some_among : (rows : List (List PathStep × Value)) (path : List PathStep) (v : Value) → Among rows (path, v) → is_some (last_at rows path) ≡ true
some_among [] path v a = absurd a
some_among (row ∷ rows) path v (inl same) =
    some_right (last_at rows path) (if is_same_path path row.0 then Some row.1 else None)
    (ap (λ b. is_some (if b then Some row.1 else None)) (path_itself path row.0 (ap (λ (r : List PathStep × Value). r.0) same)))
some_among (row ∷ rows) path v (inr a) = some_left (last_at rows path) _ (some_among rows path v a)

among_by : (path : List PathStep) (v : Value) (row : List PathStep × Value) (rows : List (List PathStep × Value)) (later : Option Value) (b : Bool) → is_same_path path row.0 ≡ b → (later ≡ Some v → Among rows (path, v))
    → option_or later (if b then Some row.1 else None) ≡ Some v → Among (row ∷ rows) (path, v)
among_by path v row rows (Some w) b same more e = inr (more e)
among_by path v row rows None true same more e =
    let p = same_path path row.0 same in
    let w : row.1 ≡ v = cc in
    inl (λ i. (p i, sym w i))
among_by path v row rows None false same more e = absurd (cc)

pub among_last : (rows : List (List PathStep × Value)) (path : List PathStep) (v : Value) → last_at rows path ≡ Some v → Among rows (path, v)
among_last [] path v e = absurd (cc)
among_last (row ∷ rows) path v e = among_by path v row rows (last_at rows path) (is_same_path path row.0) refl (among_last rows path v) e

among_parts : {X : Type 0} (xs ys : List X) (x : X) → Among (xs ++ ys) x → Among xs x ⊎ Among ys x
among_parts [] ys x a = inr a
among_parts (y ∷ xs) ys x (inl same) = inl (inl same)
among_parts (y ∷ xs) ys x (inr a) = elim (among_parts xs ys x a) [
  | inl one ↦ inl (inr one)
  | inr other ↦ inr other
]

record From {X Y : Type 0} (f : X → List Y) (xs : List X) (y : Y) : Type 0 where
  x : X
  among : Among xs x
  of : Among (f x) y

from_further : {X Y : Type 0} (f : X → List Y) (x : X) (xs : List X) (y : Y) → From f xs y → From f (x ∷ xs) y
from_further f x xs y h = record { x = h.x; among = inr h.among; of = h.of }

from_flat : {X Y : Type 0} (f : X → List Y) (xs : List X) (y : Y) → Among (flat_map f xs) y → From f xs y
from_flat f [] y a = absurd a
from_flat f (x ∷ xs) y a = elim (among_parts (f x) (flat_map f xs) y a) [
  | inl now ↦ record { x = x; among = inl refl; of = now }
  | inr later ↦ from_further f x xs y (from_flat f xs y later)
]

-- ---- rows that are held

module _ (t : SchemaTree) (old : Rows) where
  pub record HeldBy (all path : List PathStep) (v : Value) : Type 0 where
    pub step : PathStep
    pub more : List PathStep
    pub below : all ≡ path ++ step ∷ more
    pub own : is_own_at t.nodes (node_of t path) ≡ true
    pub there : get old path ≡ Some v

  rows_by : (above path : List PathStep) (v : Value) (o : Option Value) → Among (rows_at above o) (path, v) → (path ≡ above) × (o ≡ Some v)
  rows_by above path v None a = absurd a
  rows_by above path v (Some w) (inl same) = (ap (λ (r : List PathStep × Value). r.0) same, ap (λ (r : List PathStep × Value). Some r.1) (sym same))
  rows_by above path v (Some w) (inr a) = absurd a

  held_by : (above path : List PathStep) (v : Value) (b : Bool) → is_own_at t.nodes (node_of t above) ≡ b → Among (if b then rows_at above (get old above) else []) (path, v)
      → (path ≡ above) × (is_own_at t.nodes (node_of t above) ≡ true) × (get old above ≡ Some v)
  held_by above path v true own a = let h = rows_by above path v (get old above) a in (h.0, own, h.1)
  held_by above path v false own a = absurd a

  held_is : (all above ss path : List PathStep) (v : Value) → all ≡ above ++ ss → Among (held_from t old above ss) (path, v) → HeldBy all path v
  held_is all above [] path v e a = absurd a
  held_is all above (s ∷ ss) path v e a = elim (among_parts (held_at t old above) (held_from t old (above ++ s ∷ []) ss) (path, v) a) [
    | inl now ↦
        let h = held_by above path v (is_own_at t.nodes (node_of t above)) refl now in
        record {
          step = s;
          more = ss;
          below = e ∙ ap (λ (p : List PathStep). p ++ s ∷ ss) (sym h.0);
          own = ap (λ p. is_own_at t.nodes (node_of t p)) h.0 ∙ h.1;
          there = ap (get old) h.0 ∙ h.2;
        }
    | inr later ↦ held_is all (above ++ s ∷ []) ss path v (e ∙ sym (append_assoc above (s ∷ []) ss)) later
  ]

  pub record Above (new : List (List PathStep × Value)) (path : List PathStep) (v : Value) : Type 0 where
    pub row : List PathStep × Value
    pub among : Among new row
    pub is : HeldBy row.0 path v

  pub above_of : (new : List (List PathStep × Value)) (path : List PathStep) (v : Value) → last_at (held t old new) path ≡ Some v → Above new path v
  above_of new path v e =
      let h = from_flat (λ (row : List PathStep × Value). held_above t old row.0) new (path, v) (among_last (held t old new) path v e) in
      record { row = h.x; among = h.among; is = held_is h.x.0 [] h.x.0 path v refl h.of }

  held_head : (path : List PathStep) (w : Value) → is_own_at t.nodes (node_of t path) ≡ true → get old path ≡ Some w → Among (held_at t old path) (path, w)
  held_head path w own there = subst (λ b. Among (if b then rows_at path (get old path) else []) (path, w)) (sym own) (subst (λ o. Among (rows_at path o) (path, w)) (sym there) (inl refl))

  held_on : (above ms : List PathStep) (step : PathStep) (more path : List PathStep) (w : Value) → path ≡ above ++ ms → is_own_at t.nodes (node_of t path) ≡ true → get old path ≡ Some w
      → Among (held_from t old above (ms ++ step ∷ more)) (path, w)
  held_on above [] step more path w e own there =
      let same : path ≡ above = e ∙ append-nil above in
      among_left (held_at t old above) (held_from t old (above ++ step ∷ []) more) (path, w) (subst (λ p. Among (held_at t old p) (path, w)) same (held_head path w own there))
  held_on above (m ∷ ms) step more path w e own there =
      among_right (held_at t old above) (held_from t old (above ++ m ∷ []) (ms ++ step ∷ more)) (path, w) (held_on (above ++ m ∷ []) ms step more path w (e ∙ sym (append_assoc above (m ∷ []) ms)) own there)

  pub is_held : (new : List (List PathStep × Value)) (row : List PathStep × Value) (path : List PathStep) (step : PathStep) (more : List PathStep) → Among new row → row.0 ≡ path ++ step ∷ more
      → is_own_at t.nodes (node_of t path) ≡ true → contains_key old path ≡ true → is_some (last_at (held t old new) path) ≡ true
  is_held new row path step more a e own there =
      let v = value_of (get old path) there in
      let on : Among (held_above t old row.0) (path, v.value) = subst (λ all. Among (held_from t old [] all) (path, v.value)) (sym e) (held_on [] path step more path v.value refl own v.is) in
      some_among (held t old new) path v.value (among_flat (λ (r : List PathStep × Value). held_above t old r.0) new row (path, v.value) a on)

-- ---- what goes

under_on : (node path rest : List PathStep) → is_under node path ≡ true → is_under node (path ++ rest) ≡ true
unfolding is_under
under_on [] path rest e = refl
under_on (n ∷ node) [] rest e = absurd (cc)
under_on (n ∷ node) (p ∷ path) rest e =
    let h = both (goes_along (is_end node) n p) (is_under node path) e in
    both_pass (goes_along (is_end node) n p) (is_under node (path ++ rest)) h.0 (under_on node path rest h.1)

or_by : (a b c d : Bool) → (a ≡ true → c ≡ true) → (b ≡ true → d ≡ true) → (a || b) ≡ true → (c || d) ≡ true
or_by true b c d f g e = ap (λ x. x || d) (f refl)
or_by false b true d f g e = refl
or_by false b false d f g e = g e

pub goes_on : (nodes : List (List PathStep)) (path rest : List PathStep) → goes nodes path ≡ true → goes nodes (path ++ rest) ≡ true
goes_on [] path rest e = absurd (cc)
goes_on (n ∷ nodes) path rest e = or_by (is_under n path) (goes nodes path) (is_under n (path ++ rest)) (goes nodes (path ++ rest)) (under_on n path rest) (goes_on nodes path rest) e

-- ---- what a node of an edit tells of its kind

value_own : (o : Option Operation) (k : NodeKind) (c : Choice) (v : Option Value) → HasWorth o k c v → is_guard k ≡ true → v ≡ Some Present
value_own o (Container p) whole v h e = h ∙ ap (λ b. if b then Some Present else None) e
value_own o (Container p) (by_keys vs) v h e = absurd h
value_own o (Container p) (entry w) v h e = absurd h
value_own o (Leaf t d m r) c v h e = absurd (cc)
value_own o (LeafList t r x) c v h e = absurd (cc)
value_own o (ListOf ks u x) whole v h e = absurd h
value_own o (ListOf ks u x) (by_keys vs) v h e = h
value_own o (ListOf ks u x) (entry w) v h e = absurd h

not_passed : (k : NodeKind) → is_guard k ≡ true → is_passed k ≡ false
not_passed (Container p) e = ap not e
not_passed (Leaf t d m r) e = absurd (cc)
not_passed (LeafList t r x) e = absurd (cc)
not_passed (ListOf ks u x) e = refl

-- what is chosen of a container is nothing, and a node of an edit that chooses nothing and guards is a container
whole_only : (o : Option Operation) (k : NodeKind) (c : Choice) (v : Option Value) → HasWorth o k c v → is_guard k ≡ true → c ≡ whole → (other : Choice) → is_chosen k other ≡ true → other ≡ whole
whole_only o (Container p) c v h e w whole f = refl
whole_only o (Container p) c v h e w (by_keys vs) f = absurd (cc)
whole_only o (Container p) c v h e w (entry x) f = absurd (cc)
whole_only o (Leaf t d m r) c v h e w other f = absurd (cc)
whole_only o (LeafList t r x) c v h e w other f = absurd (cc)
whole_only o (ListOf ks u x) c v h e w other f = let no : ⊥ = subst (λ y. HasWorth o (ListOf ks u x) y v) w h in absurd no

exists_by : (e : Effective) (b c : Bool) → e ≡ Nothing → c ≡ false → refused_by e b c ≡ None → b ≡ true
exists_by e true c is passed h = refl
exists_by e false c is passed h = let none : refused_by Nothing false false ≡ None = (λ i. refused_by (sym is i) false (sym passed i)) ∙ h in absurd (cc)

-- ---- nodes that exist

module _ (t : SchemaTree) (old : Rows) (stands : StandsIn t old) where
  chosen_on : (all above ms : List PathStep) (s : PathStep) (more : List PathStep) → all ≡ above ++ ms → is_row_from t above (ms ++ s ∷ more) ≡ true → is_chosen_at t.nodes (node_of t (all ++ s ∷ [])) s.chosen ≡ true
  chosen_on all above [] s more e h =
      let same : all ≡ above = e ∙ append-nil above in
      ap (λ (p : List PathStep). is_chosen_at t.nodes (node_of t (p ++ s ∷ [])) s.chosen) same ∙ (both (is_chosen_at t.nodes (node_of t (above ++ s ∷ [])) s.chosen) (is_row_from t (above ++ s ∷ []) more) h).0
  chosen_on all above (m ∷ ms) s more e h =
      chosen_on all (above ++ m ∷ []) ms s more (e ∙ sym (append_assoc above (m ∷ []) ms)) (both (is_chosen_at t.nodes (node_of t (above ++ m ∷ [])) m.chosen) (is_row_from t (above ++ m ∷ []) (ms ++ s ∷ more)) h).1

  goes_behind : (path r rest : List PathStep) → r ≡ path ++ rest → contains_key old r ≡ true → is_own_at t.nodes (node_of t path) ≡ true → contains_key old path ≡ true
  goes_behind path r [] e there own = ap (contains_key old) (sym (e ∙ append-nil path)) ∙ there
  goes_behind path r (s ∷ more) e there own = stands.above path s more (ap (contains_key old) (sym e) ∙ there) own

  same_node : (above : List PathStep) (s r : PathStep) → s.«module» ≡ r.«module» → s.name ≡ r.name → node_of t (above ++ s ∷ []) ≡ node_of t (above ++ r ∷ [])
  same_node above s r m n = node_last t above s ∙ (λ i. found_of t.nodes (place_at t above) (m i) (n i)) ∙ sym (node_last t above r)

  guards_by : (nodes : List EditNode) (edit : IsEditOf t nodes) (path : List PathStep) (h : Named t nodes edit path) → is_own_at t.nodes (node_of t path) ≡ true → is_guard h.is.node.kind ≡ true
  guards_by nodes edit path h own = sym (ap (λ p. is_own_at t.nodes (node_of t p)) (sym h.at) ∙ ap (is_own_at t.nodes) h.is.leads ∙ ap is_guard_in h.is.there) ∙ own

  chosen_kind : (nodes : List EditNode) (edit : IsEditOf t nodes) (path : List PathStep) (h : Named t nodes edit path) (c : Choice) → is_chosen_at t.nodes (node_of t path) c ≡ true → is_chosen h.is.node.kind c ≡ true
  chosen_kind nodes edit path h c e = sym (ap (λ p. is_chosen_at t.nodes (node_of t p) c) (sym h.at) ∙ ap (λ o. is_chosen_at t.nodes o c) h.is.leads ∙ ap (λ o. is_chosen_in o c) h.is.there) ∙ e

  entered : (nodes : List EditNode) (edit : IsEditOf t nodes) (path r : List PathStep) → Named t nodes edit path → EntersList path r → contains_key old r ≡ true → is_own_at t.nodes (node_of t path) ≡ true → contains_key old path ≡ true
  entered nodes edit path r h of there own =
      let row : is_row_from t [] (of.above ++ of.entry ∷ of.rest) ≡ true = ap (is_row_path t) (sym of.begins) ∙ stands.each r there in
      let node_is : node_of t (of.above ++ of.entry ∷ []) ≡ node_of t path = same_node of.above of.entry of.list (sym of.same_module) (sym of.same_name) ∙ ap (node_of t) (sym of.ends) in
      let chosen : is_chosen_at t.nodes (node_of t path) of.entry.chosen ≡ true = ap (λ o. is_chosen_at t.nodes o of.entry.chosen) (sym node_is) ∙ chosen_on of.above [] of.above of.entry of.rest refl row in
      let bare : last_chosen h.node.path ≡ whole = ap last_chosen (h.at ∙ of.ends) ∙ last_step of.above of.list ∙ of.as_whole in
      let same : of.entry.chosen ≡ whole = whole_only h.node.operation h.is.node.kind (last_chosen h.node.path) h.node.value h.is.worth (guards_by nodes edit path h own) bare of.entry.chosen (chosen_kind nodes edit path h of.entry.chosen chosen) in
      let both_same : of.entry ≡ of.list = λ i. record { «module» = sym of.same_module i; name = sym of.same_name i; chosen = (same ∙ sym of.as_whole) i } in
      let begins : r ≡ path ++ of.rest =
      of.begins ∙ ap (λ (s : PathStep). of.above ++ s ∷ of.rest) both_same ∙ sym (append_assoc of.above (of.list ∷ []) of.rest) ∙ ap (λ (p : List PathStep). p ++ of.rest) (sym of.ends) in
      goes_behind path r of.rest begins there own

  -- a list entry or a container with presence that exists has its row
  pub own_there : (nodes : List EditNode) (edit : IsEditOf t nodes) (path : List PathStep) → Named t nodes edit path → is_own_at t.nodes (node_of t path) ≡ true → has_under old path ≡ true → contains_key old path ≡ true
  own_there nodes edit path named own exists =
      let found = any_passes (is_under path) (keys old) exists in
      let there = key_there old found.x found.among in
      elim ((under-means path found.x).0 found.passes) [
        | inl on ↦ goes_behind path found.x on.rest on.begins there own
        | inr of ↦ entered nodes edit path found.x named of there own
      ]

-- ---- the whole

not_refused : (o : Option Refusal) (made rows : Rows) → unless o (limited made) ≡ Ok rows → o ≡ None
not_refused (Some r) made rows e = absurd (cc)
not_refused None made rows e = refl

unless_goes : {X : Type 0} (b : Bool) (o : Option X) → is_some (if b then None else o) ≡ true → (b ≡ false) × (is_some o ≡ true)
unless_goes true o e = absurd (cc)
unless_goes false o e = (refl, e)

stays_if : {X : Type 0} (b : Bool) (o : Option X) → b ≡ false → is_some o ≡ true → is_some (if b then None else o) ≡ true
stays_if true o e h = absurd (cc)
stays_if false o e h = h

base_there : (d : DefaultOperation) (old : Rows) (path : List PathStep) → is_some (get (base_of d old) path) ≡ true → contains_key old path ≡ true
base_there unsaid.Merge old path e = e
base_there unsaid.Replace old path e = let none : is_some (get (base_of unsaid.Replace old) path) ≡ false = ap is_some (get-empty path_cmp path) in absurd (cc)
base_there unsaid.Nothing old path e = e

base_from : (d : DefaultOperation) (old : Rows) (path other : List PathStep) → is_some (get (base_of d old) path) ≡ true → contains_key old other ≡ true → is_some (get (base_of d old) other) ≡ true
base_from unsaid.Merge old path other e h = h
base_from unsaid.Replace old path other e h = let none : is_some (get (base_of unsaid.Replace old) path) ≡ false = ap is_some (get-empty path_cmp path) in absurd (cc)
base_from unsaid.Nothing old path other e h = h

module _ (t : SchemaTree) (old : Rows) (nodes : List EditNode) (d : DefaultOperation) (stands : StandsIn t old) (edit : IsEditOf t nodes) where
  each_leads : (path : List PathStep) → is_some (value_after t old nodes d path) ≡ true → is_row_path t path ≡ true
  each_leads path e = elim (some_of (last_at (coming (acts nodes d)) path) _ e) [
    | inl came ↦ let v = value_of _ came in coming_leads t nodes edit d path v.value (comes_of path v.value (said nodes) d nodes v.is)
    | inr rest ↦ elim (some_of (last_at (held t old (coming (acts nodes d))) path) _ rest) [
      | inl stays ↦ let v = value_of _ stays in let h = above_of t old (coming (acts nodes d)) path v.value v.is in stands.each path (some_value (get old path) v.value h.is.there)
      | inr had ↦ stands.each path (base_there d old path (unless_goes (goes (gone (acts nodes d) ++ ousted t (coming (acts nodes d))) path) (get (base_of d old) path) had).1)
    ]
  ]

  act_among : (n : EditNode) → Among nodes n → (standing (said nodes) d n.path).is_cut ≡ false → Among (acts nodes d) (act_of n (standing (said nodes) d n.path))
  act_among n a looked =
      let s = standing (said nodes) d n.path in
      among_flat (acts_at (said nodes) d) nodes n (act_of n s) a (subst (λ b. Among (if b then [] else act_of n s ∷ []) (act_of n s)) (sym looked) (inl refl))

  comes_there : (n : EditNode) (v : Value) → Among nodes n → (standing (said nodes) d n.path).is_cut ≡ false → brings (standing (said nodes) d n.path).operation ≡ true → n.value ≡ Some v
      → is_some (last_at (coming (acts nodes d)) n.path) ≡ true
  comes_there n v a looked brought worth =
      let s = standing (said nodes) d n.path in
      let row : Among (rows_if (brings s.operation) n.path n.value) (n.path, v) =
      subst (λ b. Among (rows_if b n.path n.value) (n.path, v)) (sym brought) (subst (λ o. Among (rows_if true n.path o) (n.path, v)) (sym worth) (inl refl)) in
      some_among (coming (acts nodes d)) n.path v (among_flat row_of (acts nodes d) (act_of n s) (n.path, v) (act_among n a looked) row)

  -- a list entry or a container with presence above a row that comes comes too, or was there
  comes_or_was : first_refusal t old (acts nodes d) ≡ None → (n : EditNode) (c : Bool) → (a : Among nodes n) → brings (standing (said nodes) d n.path).operation ≡ c → (standing (said nodes) d n.path).is_cut ≡ false
      → takes_away (standing (said nodes) d n.path).operation ≡ false → is_own_at t.nodes (node_of t n.path) ≡ true → (is_some (last_at (coming (acts nodes d)) n.path) ≡ true) ⊎ (contains_key old n.path ≡ true)
  comes_or_was none n true a brought looked stays own =
      let named : Named t nodes edit n.path = record { node = n; among = a; at = refl; is = each_of (IsNamed t) nodes n edit.each a } in
      inl (comes_there n Present a looked brought (value_own n.operation named.is.node.kind (last_chosen n.path) n.value named.is.worth (guards_by t old stands nodes edit n.path named own)))
  comes_or_was none n false a brought looked stays own =
      let named : Named t nodes edit n.path = record { node = n; among = a; at = refl; is = each_of (IsNamed t) nodes n edit.each a } in
      let s = standing (said nodes) d n.path in
      let guards = guards_by t old stands nodes edit n.path named own in
      let passed : is_passed_at t.nodes (node_of t n.path) ≡ false = ap (is_passed_at t.nodes) named.is.leads ∙ ap is_passed_in named.is.there ∙ not_passed named.is.node.kind guards in
      let let_through = none_of t old (acts nodes d) (act_of n s) none (among_contains (acts nodes d) (act_of n s) (act_among n a looked)) in
      inr (own_there t old stands nodes edit n.path named own
      (exists_by s.operation (has_under old n.path) (is_passed_at t.nodes (node_of t n.path)) (only_nothing s.operation stays brought) passed let_through))

  front_named : (path : List PathStep) (s : PathStep) (more : List PathStep) → is_own_at t.nodes (node_of t path) ≡ true → names nodes (path ++ s ∷ more) ≡ true → names nodes path ≡ true
  front_named [] s more own e = let none : is_own_at t.nodes (node_of t []) ≡ false = ap (is_own_at t.nodes) (no_node t nodes edit) in absurd (cc)
  front_named (a ∷ path) s more own e = edit.above a path s more e

  above_came : first_refusal t old (acts nodes d) ≡ None → (path : List PathStep) (s : PathStep) (more : List PathStep) (v : Value) → last_at (coming (acts nodes d)) (path ++ s ∷ more) ≡ Some v
      → is_own_at t.nodes (node_of t path) ≡ true → is_some (value_after t old nodes d path) ≡ true
  above_came none path s more v came own =
      let told = said nodes in
      let new = coming (acts nodes d) in
      let q = path ++ s ∷ more in
      let h = comes_of q v told d nodes came in
      let np = named_at t nodes edit path (front_named path s more own (names_of nodes h.node q h.among h.at)) in
      let kept = both_false _ _ (kept_above told d path s more h.looked) in
      let looked : (standing told d np.node.path).is_cut ≡ false = ap (λ p. (standing told d p).is_cut) np.at ∙ kept.0 in
      let stays : takes_away (standing told d np.node.path).operation ≡ false = ap (λ p. takes_away (standing told d p).operation) np.at ∙ kept.1 in
      let owns : is_own_at t.nodes (node_of t np.node.path) ≡ true = ap (λ p. is_own_at t.nodes (node_of t p)) np.at ∙ own in
      elim (comes_or_was none np.node (brings (standing told d np.node.path).operation) np.among refl looked stays owns) [
        | inl comes ↦ some_left (last_at new path) _ (ap (λ p. is_some (last_at new p)) (sym np.at) ∙ comes)
        | inr was ↦ some_right (last_at new path) _ (some_left (last_at (held t old new) path) _
            (is_held t old new (q, v) path s more (among_last new q v came) refl own (ap (contains_key old) (sym np.at) ∙ was)))
      ]

  above_held : (path : List PathStep) (s : PathStep) (more : List PathStep) (v : Value) → last_at (held t old (coming (acts nodes d))) (path ++ s ∷ more) ≡ Some v
      → is_own_at t.nodes (node_of t path) ≡ true → is_some (value_after t old nodes d path) ≡ true
  above_held path s more v stays own =
      let new = coming (acts nodes d) in
      let q = path ++ s ∷ more in
      let h = above_of t old new q v stays in
      let was : contains_key old path ≡ true = stands.above path s more (some_value (get old q) v h.is.there) own in
      some_right (last_at new path) _ (some_left (last_at (held t old new) path) _
      (is_held t old new h.row path s (more ++ h.is.step ∷ h.is.more) h.among (h.is.below ∙ append_assoc path (s ∷ more) (h.is.step ∷ h.is.more)) own was))

  above_base : (path : List PathStep) (s : PathStep) (more : List PathStep)
      → is_some (if goes (gone (acts nodes d) ++ ousted t (coming (acts nodes d))) (path ++ s ∷ more) then None else get (base_of d old) (path ++ s ∷ more)) ≡ true
      → is_own_at t.nodes (node_of t path) ≡ true → is_some (value_after t old nodes d path) ≡ true
  above_base path s more had own =
      let new = coming (acts nodes d) in
      let goners = gone (acts nodes d) ++ ousted t new in
      let q = path ++ s ∷ more in
      let g = unless_goes (goes goners q) (get (base_of d old) q) had in
      let was : contains_key old path ≡ true = stands.above path s more (base_there d old q g.1) own in
      let remains : goes goners path ≡ false = by_bool (goes goners path) (λ e. let gone_too = goes_on goners path (s ∷ more) e in let not_gone = g.0 in absurd (cc)) in
      some_right (last_at new path) _ (some_right (last_at (held t old new) path) _ (stays_if (goes goners path) (get (base_of d old) path) remains (base_from d old q path g.1 was)))

  above_data : first_refusal t old (acts nodes d) ≡ None → (path : List PathStep) (s : PathStep) (more : List PathStep) → is_some (value_after t old nodes d (path ++ s ∷ more)) ≡ true
      → is_own_at t.nodes (node_of t path) ≡ true → is_some (value_after t old nodes d path) ≡ true
  above_data none path s more e own = elim (some_of (last_at (coming (acts nodes d)) (path ++ s ∷ more)) _ e) [
    | inl came ↦ let v = value_of _ came in above_came none path s more v.value v.is own
    | inr rest ↦ elim (some_of (last_at (held t old (coming (acts nodes d))) (path ++ s ∷ more)) _ rest) [
      | inl stays ↦ let v = value_of _ stays in above_held path s more v.value v.is own
      | inr had ↦ above_base path s more had own
    ]
  ]

  -- rows that stand in the tree do so after an edit of it
  pub edited_stand : (rows : Rows) → edited_rows t old nodes d ≡ Ok rows → StandsIn t rows
  edited_stand rows e =
      let none = not_refused (first_refusal t old (acts nodes d)) (brought t old (base_of d old) (acts nodes d)) rows e in
      record {
        each = λ path h. each_leads path (ap is_some (sym (values_are t old nodes d rows path e)) ∙ h);
        above = λ path s more h own. ap is_some (values_are t old nodes d rows path e) ∙ above_data none path s more (ap is_some (sym (values_are t old nodes d rows (path ++ s ∷ more) e)) ∙ h) own;
      }
