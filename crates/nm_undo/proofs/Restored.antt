-- What comes of it when the inverse of an edit is done.
use Rattle.std.proofs.Common.{◌≡◌, ◌⊎◌, ℕ, List, [], ◌∷◌, ◌++◌, map as each, Bool, true, false, cond, not, slice_get, ◌&&◌, ◌||◌, Option, Some, None, is_some, if◌then◌else◌, refl, sym, ap, ◌∙◌, inl, inr, append-nil, append_assoc}
use Rattle.std.specs.Option.{option_or}
use Rattle.std.specs.Ordering.{eq_by_cmp}
use Rattle.std.specs.FinMap.{get, contains_key, entries, find, same_map, get-entries}
use Rattle.std.proofs.lemmas.List.Folds.{list_any-append}
use Rattle.nm_types.specs.Path.{PathStep, path_cmp, Choice}
use Rattle.nm_types.specs.PathLaws.{paths_total, path_cmp-IsAntisymmetric}
use Rattle.nm_types.specs.Value.{is_same_value}
use Rattle.nm_types.specs.ValueLaws.{same_value_decides}
use Rattle.nm_types.specs.LeafType.{TypeOfLeaf}
use Rattle.nm_types.specs.declared.value.Value.{Value}
use Rattle.nm_types.specs.declared.value.Value.TheVariants.{Present}
use Rattle.nm_proto.specs.declared.message.DefaultOperation.TheVariants as unsaid
use Rattle.nm_schema_tree.specs.declared.node.Node.{Node}
use Rattle.nm_schema_tree.specs.declared.node.NodeKind.{NodeKind}
use Rattle.nm_schema_tree.specs.declared.node.NodeKind.TheVariants.{Container, Leaf, LeafList, List as ListOf}
use Rattle.nm_schema_tree.specs.Nodes.{SchemaTree, AreNested, type_at, is_guard, is_guard_in, is_guard_at}
use Rattle.nm_path.specs.Spelling.{node_of}
use Rattle.nm_path.specs.Sound.{IsSound}
use Rattle.nm_config.specs.Rows.{Rows}
use Rattle.nm_config.specs.Under.{is_under}
use Rattle.nm_config.proofs.Meaning.{under-means}
use Rattle.nm_validate_rules.specs.declared.rule.Rule.TheVariants.{ValueType, OneCase}
use Rattle.nm_validate_rules.specs.Standing.{is_own_at, StandsIn}
use Rattle.nm_validate_rules.specs.Violated.{fits_kind, fits_node, fits_at, fits_row, last_chosen}
use Rattle.nm_validate_rules.specs.Violation.{IsValid}
use Rattle.nm_validate_rules.proofs.Among.{Among, both, any_passes}
use Rattle.nm_validate_rules.proofs.Lists.{not_true}
use Rattle.nm_validate_rules.proofs.Placed.{any_at}
use Rattle.nm_overlay.specs.Differences.{differs, differences, with_changes}
use Rattle.nm_overlay.specs.Places.{Pair}
use Rattle.nm_overlay.proofs.Order.{Place, one, under_itself}
use Rattle.nm_overlay.proofs.Changed.{seen, get-with_changes, get-differences}
use Rattle.nm_edit.specs.declared.act.Act.{Act}
use Rattle.nm_edit.specs.Acts.{acts, coming}
use Rattle.nm_edit.specs.Rivals.{ousted_by}
use Rattle.nm_edit.specs.Edited.{gone, ousted, held, brought, limited, unless, edited_by, edited_rows}
use Rattle.nm_edit.specs.Laws.{last_at, goes, value_by}
use Rattle.nm_edit.proofs.After.{get_brought}
use Rattle.nm_edit.proofs.Data.{above_of}
use Rattle.nm_edit_json.specs.declared.nodes.Told.{Told}
use Rattle.nm_edit_json.specs.Whole.{nodes_in}
use Rattle.nm_undo.specs.Inverse.{Saying, is_lacking, lacks_from, lacks_above, merged, removed, row_back}
use Rattle.nm_undo.proofs.Maps.{alike, some_is, no_some, is_there, isnt_there, Has, has, entry_get, get_entry, from_flat, goes_either}
use Rattle.nm_undo.proofs.Below.{front_goes, holds_own, top_no_row, top_no_node, own_node}
use Rattle.nm_undo.proofs.Rivals.{rivals_are_two_cases}
use Rattle.nm_undo.proofs.Sayings.{changes, nodes, own_said, Removes, IsOver, Fronts, said_of_old, said_of_new, own_saying, kind_of, own_got, front_got, own_was, none_new}
use Rattle.nm_undo.proofs.Acted.{plain_act, operation_of, brought_by, is_gone, gone_over, IsQuiet, IsMild, acts_are, comes_is, came, goes_is, none_refused}

-- ---- tests

both_no : (a b : Bool) → (a || b) ≡ false → (a ≡ false) × (b ≡ false)
both_no true b e = absurd (cc)
both_no false b e = (refl, e)

second_of : (a b : Bool) → a ≡ false → (a || b) ≡ true → b ≡ true
second_of true b n e = absurd (cc)
second_of false b n e = e

not_is : (b : Bool) → not b ≡ true → b ≡ false
not_is true e = absurd (cc)
not_is false e = refl

not_both : (a b : Bool) → (a && not b) ≡ false → a ≡ true → b ≡ true
not_both true true e h = refl
not_both true false e h = absurd (cc)
not_both false b e h = absurd (cc)

clash : (b : Bool) → b ≡ true → b ≡ false → ⊥
clash true e h = cc
clash false e h = cc

-- ---- the value of a list entry and of a container with presence that is valid

present_of : (v : Value) → is_same_value Present v ≡ true → v ≡ Present
present_of v e = sym ((same_value_decides Present v (is_same_value Present v) refl).0 e)

guard_present : (o : Option TypeOfLeaf) (k : NodeKind) (c : Choice) (v : Value) → is_guard k ≡ true → fits_kind o k c v ≡ true → v ≡ Present
guard_present o (Container p) c v g e = present_of v e
guard_present o (Leaf ty d m r) c v g e = absurd (cc)
guard_present o (LeafList ty r es) c v g e = absurd (cc)
guard_present o (ListOf ks u es) c v g e = present_of v e

node_present : (o : Option TypeOfLeaf) (n : Option Node) (c : Choice) (v : Value) → is_guard_in n ≡ true → fits_node o n c v ≡ true → v ≡ Present
node_present o None c v g e = absurd (cc)
node_present o (Some n) c v g e = guard_present o n.kind c v g e

at_present : (t : SchemaTree) (o : Option ℕ) (c : Choice) (v : Value) → is_own_at t.nodes o ≡ true → fits_at t.nodes o c v ≡ true → v ≡ Present
at_present t None c v g e = absurd (cc)
at_present t (Some x) c v g e = node_present (type_at t.nodes x) (slice_get t.nodes x) c v g e

own_present : (t : SchemaTree) (old : Rows) → IsValid t old → (q : Place) (v : Value) → is_own_at t.nodes (node_of t q) ≡ true → get old q ≡ Some v → v ≡ Present
own_present t old valid q v own was =
    let fits = not_both (contains_key old q) (fits_row t q (get old q)) (valid ValueType q) (is_there (get old q) v was) in
    at_present t (node_of t q) (last_chosen q) v own (ap (fits_row t q) (sym was) ∙ fits)

-- ---- the topmost list entry or container with presence that isn't there

record Lacking (t : SchemaTree) (old : Rows) (all : Place) : Type 0 where
  place : Place
  step : PathStep
  more : Place
  is : all ≡ place ++ step ∷ more
  own : is_own_at t.nodes (node_of t place) ≡ true
  missing : contains_key old place ≡ false
  holds : lacks_above t old place ≡ false

module _ (t : SchemaTree) (old : Rows) where
  holds_last : (a xs : Place) (s : PathStep) → lacks_from t old a xs ≡ false → is_lacking t old (a ++ xs) ≡ false → lacks_from t old a (xs ++ s ∷ []) ≡ false
  holds_last a [] s h k = ap (λ b. b || false) (ap (is_lacking t old) (sym (append-nil a)) ∙ k)
  holds_last a (x ∷ xs) s h k =
      let parts = both_no (is_lacking t old a) (lacks_from t old (a ++ x ∷ []) xs) h in
      ap (λ b. b || lacks_from t old (a ++ x ∷ []) (xs ++ s ∷ [])) parts.0
      ∙ holds_last (a ++ x ∷ []) xs s parts.1 (ap (is_lacking t old) (append_assoc a (x ∷ []) xs) ∙ k)

  lacking_by : (all above : Place) (s : PathStep) (ss : Place) → all ≡ above ++ s ∷ ss → lacks_above t old above ≡ false
      → (lacks_above t old (above ++ s ∷ []) ≡ false → lacks_from t old (above ++ s ∷ []) ss ≡ true → Lacking t old all)
      → (b : Bool) → is_lacking t old above ≡ b → (b || lacks_from t old (above ++ s ∷ []) ss) ≡ true → Lacking t old all
  lacking_by all above s ss is holds more true here e =
      let h = both (is_own_at t.nodes (node_of t above)) (not (contains_key old above)) here in
      record { place = above; step = s; more = ss; is = is; own = h.0; missing = not_is (contains_key old above) h.1; holds = holds }
  lacking_by all above s ss is holds more false here e = more (holds_last [] above s holds here) e

  lacking : (all above ss : Place) → all ≡ above ++ ss → lacks_above t old above ≡ false → lacks_from t old above ss ≡ true → Lacking t old all
  lacking all above [] is holds e = absurd (cc)
  lacking all above (s ∷ ss) is holds e =
      lacking_by all above s ss is holds (λ h l. lacking all (above ++ s ∷ []) ss (is ∙ sym (append_assoc above (s ∷ []) ss)) h l) (is_lacking t old above) refl e

-- ---- what rows were

abbrev back_of : Option Value → Option (Option Value) → Option (Option Value)
back_of before None = None
back_of before (Some after) = Some before

find_back : (old : Rows) (es : List Pair) (q : Place) → find path_cmp q (each (row_back old) es) ≡ back_of (get old q) (find path_cmp q es)
find_back old [] q = refl
find_back old (e ∷ es) q = by (eq_by_cmp path_cmp q e.0) refl (find_back old es q)
  where
    by : (b : Bool) → eq_by_cmp path_cmp q e.0 ≡ b → find path_cmp q (each (row_back old) es) ≡ back_of (get old q) (find path_cmp q es)
        → cond b (Some (get old e.0)) (find path_cmp q (each (row_back old) es)) ≡ back_of (get old q) (cond b (Some e.1) (find path_cmp q es))
    by true is rest = ap (λ (k : Place). Some (get old k)) (sym (one q e.0 is))
    by false is rest = rest

back_by : (b : Bool) (before after : Option Value) → back_of before (cond b (Some after) None) ≡ cond b (Some before) None
back_by true before after = refl
back_by false before after = refl

-- what rows give back at a path
pub given_back : (t : SchemaTree) (old new now : Rows) (q : Place)
    → get (with_changes now (each (row_back old) (changes t old new))) q ≡ seen (cond (differs (get old q) (get new q)) (Some (get old q)) None) (get now q)
given_back t old new now q =
    let d = differences old new in
    get-with_changes now (each (row_back old) (entries d)) q
    ∙ ap (λ o. seen o (get now q))
    (find_back old (entries d) q ∙ ap (back_of (get old q)) (sym (get-entries d q) ∙ get-differences old new q)
    ∙ back_by (differs (get old q) (get new q)) (get old q) (get new q))

-- ---- the inverse's nodes

module _ (t : SchemaTree) (old new : Rows) (sound : IsSound t.nodes) (nested : AreNested t.choices t.cases) (stands_old : StandsIn t old) (stands_new : StandsIn t new) (valid : IsValid t old) where
  -- something is said of a row below each front of a node
  pub over_front : (p f : Place) (step : PathStep) (more : Place) (told : Told) → get (nodes t old new) p ≡ Some told → p ≡ f ++ step ∷ more → IsOver t old new f
  over_front p f step more told at e = elim (kind_of t old new p told at) [
    | inl own ↦ elim own [
      | inl m ↦ record { saying = (p, merged (Some m.value)); among = own_saying t old new p (merged (Some m.value)) (said_of_old t old new p m.value m.other m.was); step = step; more = more; below = e }
      | inr r ↦ record { saying = (p, removed t p r.value); among = own_saying t old new p (removed t p r.value) (said_of_new t old new p r.value r.was r.made r.holds); step = step; more = more; below = e }
    ]
    | inr fr ↦ record {
      saying = fr.over.saying;
      among = fr.over.among;
      step = step;
      more = more ++ fr.over.step ∷ fr.over.more;
      below = fr.over.below ∙ ap (λ (x : Place). x ++ fr.over.step ∷ fr.over.more) e ∙ append_assoc _ (step ∷ more) (fr.over.step ∷ fr.over.more);
    }
  ]

  -- nothing that is removed is above a node
  never_removed : (f : Place) (told : Told) → IsOver t old new f → get (nodes t old new) f ≡ Some told → told.operation ≡ None
  never_removed f told over at = elim (kind_of t old new f told at) [
    | inl own ↦ elim own [
      | inl m ↦ ap (λ (x : Told). x.operation) m.is
      | inr r ↦ absurd (none_new t old new stands_old stands_new sound f r.value over r.was r.made)
    ]
    | inr fr ↦ ap (λ (x : Told). x.operation) fr.is
  ]

  quiet_by : (f : Place) (o : Option Told) → IsOver t old new f → get (nodes t old new) f ≡ o → operation_of o ≡ None
  quiet_by f None over at = refl
  quiet_by f (Some told) over at = never_removed f told over at

  quiet : IsQuiet (nodes t old new)
  quiet p f step more there e =
      let h = has (get (nodes t old new) p) there in
      quiet_by f (get (nodes t old new) f) (over_front p f step more h.value h.is e) refl

  top_by : (o : Option Told) → get (nodes t old new) [] ≡ o → get (nodes t old new) [] ≡ None
  top_by None at = at
  top_by (Some told) at = elim (kind_of t old new [] told at) [
    | inl own ↦ elim own [
      | inl m ↦ absurd (top_no_row t (stands_old.each [] (is_there (get old []) m.value m.was)))
      | inr r ↦ absurd (top_no_row t (stands_new.each [] (is_there (get new []) r.value r.made)))
    ]
    | inr f ↦ absurd (top_no_node t f.at f.leads)
  ]

  -- what the inverse does
  abbrev pub undoes : List Act
  undoes = each plain_act (entries (nodes t old new))

  pub undoes_is : acts (nodes_in (nodes t old new)) unsaid.Merge ≡ undoes
  undoes_is = acts_are (nodes t old new) quiet (top_by (get (nodes t old new) []) refl)

  mild : (e : Saying) → Among (entries (nodes t old new)) e → IsMild e.1.operation
  mild e a = elim (kind_of t old new e.0 e.1 (entry_get (nodes t old new) e.0 e.1 a)) [
    | inl own ↦ elim own [
      | inl m ↦ inl (ap (λ (x : Told). x.operation) m.is)
      | inr r ↦ inr (ap (λ (x : Told). x.operation) r.is)
    ]
    | inr f ↦ inl (ap (λ (x : Told). x.operation) f.is)
  ]

  -- ---- the rows that come

  -- a row that comes was there: it is changed, or it is that of a list entry or a container with presence and isn't
  record Brings (q : Place) (v : Value) : Type 0 where
    was : get old q ≡ Some v
    kind : (differs (get old q) (get new q) ≡ true) ⊎ ((is_own_at t.nodes (node_of t q) ≡ true) × (differs (get old q) (get new q) ≡ false))

  not_other : (q : Place) (v : Value) → own_said t old new q ≡ None → get old q ≡ Some v → differs (get old q) (get new q) ≡ false
  not_other q v none was = not_true (differs (get old q) (get new q)) (λ other. no_some (merged (Some v)) (sym none ∙ said_of_old t old new q v other was))

  guard_brings : (b : Bool) (v : Value) → (if b then Some Present else None) ≡ Some v → (b ≡ true) × (Present ≡ v)
  guard_brings true v e = (refl, some_is Present v e)
  guard_brings false v e = absurd (no_some v e)

  front_brings : (q : Place) (told : Told) (v : Value) → Fronts t old new q told → brought_by (Some told) ≡ Some v → Brings q v
  front_brings q told v f e =
      let g = guard_brings (is_guard_at t.nodes f.at) v (ap (λ (x : Told). brought_by (Some x)) (sym f.is) ∙ e) in
      let own : is_own_at t.nodes (node_of t q) ≡ true = ap (is_own_at t.nodes) f.leads ∙ g.0 in
      let there = has (get old q) (own_was t old new stands_old stands_new q f.over own) in
      let was : get old q ≡ Some v = there.is ∙ ap Some (own_present t old valid q there.value own there.is ∙ g.1) in
      record { was = was; kind = inr (own, not_other q v f.none was) }

  told_brings : (q : Place) (told : Told) (v : Value) → get (nodes t old new) q ≡ Some told → brought_by (Some told) ≡ Some v → Brings q v
  told_brings q told v at e = elim (kind_of t old new q told at) [
    | inl own ↦ elim own [
      | inl m ↦ record { was = m.was ∙ ap (λ (x : Told). brought_by (Some x)) (sym m.is) ∙ e; kind = inl m.other }
      | inr r ↦ absurd (no_some v (ap (λ (x : Told). brought_by (Some x)) (sym r.is) ∙ e))
    ]
    | inr f ↦ front_brings q told v f e
  ]

  brings_by : (q : Place) (v : Value) (o : Option Told) → get (nodes t old new) q ≡ o → brought_by o ≡ Some v → Brings q v
  brings_by q v None at e = absurd (no_some v e)
  brings_by q v (Some told) at e = told_brings q told v at e

  brings : (q : Place) (v : Value) → last_at (coming undoes) q ≡ Some v → Brings q v
  brings q v e = brings_by q v (get (nodes t old new) q) refl (sym (comes_is (nodes t old new) q) ∙ e)

  came_was : (row : Place × Value) → Among (coming undoes) row → contains_key old row.0 ≡ true
  came_was row a =
      let h = came (entries (nodes t old new)) row a in
      let b = told_brings h.saying.0 h.saying.1 row.1 (entry_get (nodes t old new) h.saying.0 h.saying.1 h.among) h.worth in
      ap (contains_key old) h.at ∙ is_there (get old h.saying.0) row.1 b.was

  -- ---- the rows that are held

  -- a list entry or a container with presence above a node comes
  own_comes_by : (q : Place) (told : Told) → IsOver t old new q → is_own_at t.nodes (node_of t q) ≡ true → get (nodes t old new) q ≡ Some told → is_some (brought_by (Some told)) ≡ true
  own_comes_by q told over own at = elim (kind_of t old new q told at) [
    | inl its ↦ elim its [
      | inl m ↦ ap (λ (x : Told). is_some (brought_by (Some x))) m.is
      | inr r ↦ absurd (none_new t old new stands_old stands_new sound q r.value over r.was r.made)
    ]
    | inr f ↦
        ap (λ (x : Told). is_some (brought_by (Some x))) f.is
        ∙ ap (λ (b : Bool). is_some (if b then Some Present else None)) (ap (is_own_at t.nodes) (sym f.leads) ∙ own)
  ]

  said_there : (q : Place) → IsOver t old new q → is_own_at t.nodes (node_of t q) ≡ true → (o : Option Told) → own_said t old new q ≡ o → Has (get (nodes t old new) q)
  said_there q over own (Some told) is = record { value = told; is = own_got t old new q told is }
  said_there q over own None is = let x = own_node t (node_of t q) own in front_got t old new q x.0 over x.1 is

  own_comes : (q : Place) → IsOver t old new q → is_own_at t.nodes (node_of t q) ≡ true → is_some (last_at (coming undoes) q) ≡ true
  own_comes q over own =
      let h = said_there q over own (own_said t old new q) refl in
      ap is_some (comes_is (nodes t old new) q ∙ ap brought_by h.is) ∙ own_comes_by q h.value over own h.is

  held_by : (now : Rows) (q : Place) (o : Option Value) → last_at (coming undoes) q ≡ None → last_at (held t now (coming undoes)) q ≡ o → o ≡ None
  held_by now q None none is = refl
  held_by now q (Some v) none is =
      let h = above_of t now (coming undoes) q v is in
      let c = came (entries (nodes t old new)) h.row h.among in
      let over = over_front c.saying.0 q h.is.step h.is.more c.saying.1 (entry_get (nodes t old new) c.saying.0 c.saying.1 c.among) (sym c.at ∙ h.is.below) in
      absurd (isnt_there (last_at (coming undoes) q) none (own_comes q over h.is.own))

  -- ---- the rows that go

  -- nothing that was there is at or below what is removed
  below_removed : (p q : Place) (told : Told) → Removes t old new p told → contains_key old q ≡ true → (rest : Place) → q ≡ p ++ rest → ⊥
  below_removed p q told r there [] e = isnt_there (get old q) (ap (get old) (e ∙ append-nil p) ∙ r.was) there
  below_removed p q told r there (s ∷ more) e =
      let own = holds_own t sound p q s more (stands_new.each p (is_there (get new p) r.value r.made)) (stands_old.each q there) e in
      isnt_there (get old p) r.was (stands_old.above p s more (ap (contains_key old) (sym e) ∙ there) own)

  under_removed : (p q : Place) (told : Told) → Removes t old new p told → contains_key old q ≡ true → is_under p q ≡ true → ⊥
  under_removed p q told r there under =
      let on = front_goes t p q (stands_new.each p (is_there (get new p) r.value r.made)) (stands_old.each q there) p [] (sym (append-nil p)) under in
      below_removed p q told r there on.rest on.begins

  not_gone : (q : Place) (e : Saying) → Among (entries (nodes t old new)) e → contains_key old q ≡ true → gone_over q e ≡ true → ⊥
  not_gone q e a there g =
      let h = both (is_gone e.1.operation) (is_under e.0 q) g in
      elim (kind_of t old new e.0 e.1 (entry_get (nodes t old new) e.0 e.1 a)) [
        | inl own ↦ elim own [
          | inl m ↦ clash (is_gone e.1.operation) h.0 (ap (λ (x : Told). is_gone x.operation) m.is)
          | inr r ↦ under_removed e.0 q e.1 r there h.1
        ]
        | inr f ↦ clash (is_gone e.1.operation) h.0 (ap (λ (x : Told). is_gone x.operation) f.is)
      ]

  not_ousted : (q : Place) → contains_key old q ≡ true → goes (ousted t (coming undoes)) q ≡ true → ⊥
  not_ousted q there g =
      let p = any_passes (λ node. is_under node q) (ousted t (coming undoes)) g in
      let f = from_flat (λ (row : Place × Value). ousted_by t row.0) (coming undoes) p.x p.among in
      let yes : goes (ousted_by t f.x.0) q ≡ true = any_at (λ node. is_under node q) (ousted_by t f.x.0) p.x f.of p.passes in
      clash (goes (ousted_by t f.x.0) q) yes (rivals_are_two_cases t old stands_old nested (valid OneCase) sound f.x.0 q (came_was f.x f.among) there)

  abbrev pub taken : List Place
  taken = gone undoes ++ ousted t (coming undoes)

  -- what was there doesn't go
  old_stays : (q : Place) → contains_key old q ≡ true → goes taken q ≡ false
  old_stays q there = not_true (goes taken q) (λ g. elim (goes_either (gone undoes) (ousted t (coming undoes)) q g) [
    | inl removed_too ↦
        let p = any_passes (gone_over q) (entries (nodes t old new)) (sym (goes_is (entries (nodes t old new)) q) ∙ removed_too) in
        not_gone q p.x p.among there p.passes
    | inr ousted_too ↦ not_ousted q there ousted_too
  ])

  goes_first : (a b : Bool) → a ≡ true → (a || b) ≡ true
  goes_first a b e = ap (λ x. x || b) e

  removed_goes : (p q : Place) (w : Value) → get old p ≡ None → get new p ≡ Some w → lacks_above t old p ≡ false → is_under p q ≡ true → goes taken q ≡ true
  removed_goes p q w was made holds under =
      let told = removed t p w in
      let among = get_entry (nodes t old new) p told (own_got t old new p told (said_of_new t old new p w was made holds)) in
      let first : goes (gone undoes) q ≡ true = goes_is (entries (nodes t old new)) q ∙ any_at (gone_over q) (entries (nodes t old new)) (p, told) among under in
      list_any-append (λ node. is_under node q) (gone undoes) (ousted t (coming undoes)) ∙ goes_first (goes (gone undoes) q) (goes (ousted t (coming undoes)) q) first

  -- what has come goes
  new_goes_by : (q : Place) (w : Value) → get old q ≡ None → get new q ≡ Some w → (l : Bool) → lacks_above t old q ≡ l → goes taken q ≡ true
  new_goes_by q w was made false holds = removed_goes q q w was made holds (under_itself q)
  new_goes_by q w was made true lacks =
      let l = lacking t old q [] q refl refl lacks in
      let there = has (get new l.place) (stands_new.above l.place l.step l.more (ap (contains_key new) (sym l.is) ∙ is_there (get new q) w made) l.own) in
      removed_goes l.place q there.value (missing_is (get old l.place) l.missing) there.is l.holds ((under-means l.place q).1 (inl (record { rest = l.step ∷ l.more; begins = l.is })))
    where
      missing_is : (o : Option Value) → is_some o ≡ false → o ≡ None
      missing_is None e = refl
      missing_is (Some v) e = absurd (cc)

  -- ---- the value at each path

  module _ (now : Rows) (taken_same : (q : Place) → goes taken q ≡ true → get new q ≡ get now q)
      (own_same : (q : Place) → is_own_at t.nodes (node_of t q) ≡ true → is_some (last_at (coming undoes) q) ≡ true → get new q ≡ get now q) where
    abbrev given : Place → Bool → Option Value
    given q d = seen (cond d (Some (get old q)) None) (get now q)

    value_came : (q : Place) (v : Value) → last_at (coming undoes) q ≡ Some v → Some v ≡ given q (differs (get old q) (get new q))
    value_came q v e =
        let b = brings q v e in
        elim b.kind [
          | inl other ↦ sym (ap (given q) other ∙ b.was)
          | inr own ↦ sym (ap (given q) own.1 ∙ sym (own_same q own.0 (is_there (last_at (coming undoes) q) v e)) ∙ sym (alike (get old q) (get new q) own.1) ∙ b.was)
        ]

    stays_or : (q : Place) → (g : Bool) → goes taken q ≡ g → get old q ≡ get new q → (o : Option Value) → get old q ≡ o → (if g then None else get now q) ≡ get now q
    stays_or q false g same o was = refl
    stays_or q true g same None was = sym was ∙ same ∙ taken_same q g
    stays_or q true g same (Some v) was = absurd (clash (goes taken q) g (old_stays q (is_there (get old q) v was)))

    other_goes : (q : Place) → last_at (coming undoes) q ≡ None → differs (get old q) (get new q) ≡ true → (before after : Option Value) → get old q ≡ before → get new q ≡ after
        → (if goes taken q then None else get now q) ≡ get old q
    other_goes q none other (Some v) after was made =
        let told = merged (Some v) in
        let comes : last_at (coming undoes) q ≡ Some v = comes_is (nodes t old new) q ∙ ap brought_by (own_got t old new q told (said_of_old t old new q v other was)) in
        absurd (no_some v (sym none ∙ comes))
    other_goes q none other None (Some w) was made =
        ap (λ (b : Bool). if b then None else get now q) (new_goes_by q w was made (lacks_above t old q) refl) ∙ sym was
    other_goes q none other None None was made =
        let same : differs (get old q) (get new q) ≡ false = λ i. differs (was i) (made i) in
        absurd (clash (differs (get old q) (get new q)) other same)

    value_left : (q : Place) → last_at (coming undoes) q ≡ None → (d : Bool) → differs (get old q) (get new q) ≡ d → (if goes taken q then None else get now q) ≡ given q d
    value_left q none true other = other_goes q none other (get old q) (get new q) refl refl
    value_left q none false same = stays_or q (goes taken q) refl (alike (get old q) (get new q) same) (get old q) refl

    value_is : (q : Place) (o : Option Value) → last_at (coming undoes) q ≡ o → value_by t now now undoes q ≡ given q (differs (get old q) (get new q))
    value_is q (Some v) e =
        ap (λ (o : Option Value). option_or o (option_or (last_at (held t now (coming undoes)) q) (if goes taken q then None else get now q))) e ∙ value_came q v e
    value_is q None e =
        ap (λ (o : Option Value). option_or o (option_or (last_at (held t now (coming undoes)) q) (if goes taken q then None else get now q))) e
        ∙ ap (λ (o : Option Value). option_or o (if goes taken q then None else get now q)) (held_by now q (last_at (held t now (coming undoes)) q) e refl)
        ∙ value_left q e (differs (get old q) (get new q)) refl

    made_is : brought t now now undoes ≡ with_changes now (each (row_back old) (changes t old new))
    made_is = same_map paths_total path_cmp-IsAntisymmetric _ _ (λ q.
        get_brought t now now undoes q ∙ value_is q (last_at (coming undoes) q) refl ∙ sym (given_back t old new now q))

    -- the inverse makes what rows give back
    pub restores : edited_rows t now (nodes_in (nodes t old new)) unsaid.Merge ≡ limited (with_changes now (each (row_back old) (changes t old new)))
    restores =
        ap (edited_by t now now) undoes_is
        ∙ ap (λ o. unless o (limited (brought t now now undoes))) (none_refused t now (entries (nodes t old new)) mild)
        ∙ ap limited made_is
