-- Marks and edits: an edit that names no mark takes none and puts none.
use Rattle.std.specs.Prelude.{◌≡◌, ◌⊎◌, ℕ, List, [], ◌∷◌, ◌++◌, Bool, true, false, is_some, Option, Some, None, Ok, slice_get, length, if◌then◌else◌, refl}
use Rattle.std.proofs.Common.{inl, inr, sym, ◌∙◌, ap}
use Rattle.std.specs.List.{list_any, flat_map}
use Rattle.std.specs.Str.{bytes_eq}
use Rattle.std.specs.Option.{option_or}
use Rattle.std.specs.Ordering.{eq_by_cmp}
use Rattle.std.specs.FinMap.{get, get-empty, contains_key}
use Rattle.nm_base.specs.Words.{marker_name}
use Rattle.nm_types.specs.Path.{PathStep, path_cmp, Choice, whole, keys as by_keys, entry as by_value, choice_cmp}
use Rattle.nm_types.specs.PathLaws.{same_choice_decides}
use Rattle.nm_types.specs.declared.value.Value.{Value}
use Rattle.nm_proto.specs.declared.message.DefaultOperation.{DefaultOperation}
use Rattle.nm_proto.specs.declared.message.DefaultOperation.TheVariants as unsaid
use Rattle.nm_proto.specs.Content.{is_replace}
use Rattle.nm_schema_tree.specs.declared.node.Node.{Node}
use Rattle.nm_schema_tree.specs.Nodes.{SchemaTree, same_parent, parent_of, parent_in, case_at, case_of}
use Rattle.nm_path.specs.Spelling.{node_of}
use Rattle.nm_path.specs.Sound.{IsSound}
use Rattle.nm_config.specs.Rows.{Rows}
use Rattle.nm_config.specs.Under.{is_whole, takes_in, is_under, goes_along, is_end}
use Rattle.nm_config.proofs.Contiguous.{stands_parts, one_step}
use Rattle.nm_validate_rules.specs.Cases.{bare, bare_in, numbers, outwards, cases_over}
use Rattle.nm_validate_rules.specs.Violated.{is_area_of}
use Rattle.nm_validate_rules.proofs.Among.{Among, any_passes, both}
use Rattle.nm_validate_rules.proofs.Leading.{by_last}
use Rattle.nm_validate_rules.proofs.Placed.{any_at, both_true}
use Rattle.nm_edit.specs.declared.edit.EditNode.{EditNode}
use Rattle.nm_edit.specs.declared.act.Act.{Act}
use Rattle.nm_edit.specs.Standing.{said, standing}
use Rattle.nm_edit.specs.Acts.{act_of, acts_at, acts, coming}
use Rattle.nm_edit.specs.Rivals.{is_other_case, is_in_other, are_rivals, rival_at, rivals_at, ousted_from, ousted_by}
use Rattle.nm_edit.specs.Edited.{gone_at, gone, ousted, held, base_of, edited_rows}
use Rattle.nm_edit.specs.EditOf.{IsNamed, IsEditOf}
use Rattle.nm_edit.specs.Laws.{last_at, goes, value_after}
use Rattle.nm_edit.proofs.After.{values_are}
use Rattle.nm_edit.proofs.Named.{each_of, comes_of}
use Rattle.nm_edit.proofs.Data.{some_among, above_of}
use Rattle.nm_schema.specs.Marker.{HasMarker, changes_node}
use Rattle.nm_content.specs.Mark.{changes_name, changes_step, entry_step, mark_path, has_mark, is_changes, is_in_marker, names_marks}
use Rattle.nm_content.specs.MarkLaws.{bytes_itself, changes_is, is_changes_step}

-- ---- options and lists

some_of : {X : Type 0} (a b : Option X) → is_some (option_or a b) ≡ true → (is_some a ≡ true) ⊎ (is_some b ≡ true)
some_of (Some x) b e = inl refl
some_of None b e = inr e

some_right : {X : Type 0} (a b : Option X) → is_some b ≡ true → is_some (option_or a b) ≡ true
some_right (Some x) b e = refl
some_right None b e = e

-- what an option has, and that it has it
record Value_of {X : Type 0} (o : Option X) : Type 0 where
  value : X
  is : o ≡ Some value

value_of : {X : Type 0} (o : Option X) → is_some o ≡ true → Value_of o
value_of (Some x) e = record { value = x; is = refl }
value_of None e = absurd (cc)

unless_goes : {X : Type 0} (b : Bool) (o : Option X) → is_some (if b then None else o) ≡ true → is_some o ≡ true
unless_goes true o e = absurd (cc)
unless_goes false o e = e

stays_if : {X : Type 0} (b : Bool) (o : Option X) → (b ≡ true → ⊥) → is_some o ≡ true → is_some (if b then None else o) ≡ true
stays_if true o h e = absurd (h refl)
stays_if false o h e = e

among_parts : {X : Type 0} (xs ys : List X) (x : X) → Among (xs ++ ys) x → Among xs x ⊎ Among ys x
among_parts [] ys x a = inr a
among_parts (y ∷ xs) ys x (inl same) = inl (inl same)
among_parts (y ∷ xs) ys x (inr a) = elim (among_parts xs ys x a) [
  | inl one ↦ inl (inr one)
  | inr other ↦ inr other
]

-- the item from which one of a flat map comes
record From {X Y : Type 0} (f : X → List Y) (xs : List X) (y : Y) : Type 0 where
  x : X
  among : Among xs x
  of : Among (f x) y

from_further : {X Y : Type 0} (f : X → List Y) (x : X) (xs : List X) (y : Y) → From f xs y → From f (x ∷ xs) y
from_further f x xs y h = record { x = h.x; among = inr h.among; of = h.of }

from_flat : {X Y : Type 0} (f : X → List Y) (xs : List X) (y : Y) → Among (flat_map f xs) y → From f xs y
from_flat f [] y a = absurd a
from_flat f (x ∷ xs) y a = elim (among_parts (f x) (flat_map f xs) y a) [
  | inl now ↦ record { x = x; among = inl refl; of = now }
  | inr later ↦ from_further f x xs y (from_flat f xs y later)
]

only_if : {X : Type 0} (b : Bool) (x y : X) → Among (if b then x ∷ [] else []) y → (b ≡ true) × (y ≡ x)
only_if true x y (inl same) = (refl, same)
only_if true x y (inr none) = absurd none
only_if false x y none = absurd none

only_unless : {X : Type 0} (b : Bool) (x y : X) → Among (if b then [] else x ∷ []) y → y ≡ x
only_unless false x y (inl same) = same
only_unless false x y (inr none) = absurd none
only_unless true x y none = absurd none

-- ---- nodes above marks

whole_taken : (c : Choice) → takes_in c whole ≡ true → is_whole c ≡ true
whole_taken whole e = refl
whole_taken (by_keys vs) e =
    let same : by_keys vs ≡ whole = (same_choice_decides (by_keys vs) whole (eq_by_cmp choice_cmp (by_keys vs) whole) refl).0 e in
    absurd (cc)
whole_taken (by_value v) e =
    let same : by_value v ≡ whole = (same_choice_decides (by_value v) whole (eq_by_cmp choice_cmp (by_value v) whole) refl).0 e in
    absurd (cc)

along_changes : (last : Bool) (s : PathStep) → goes_along last s changes_step ≡ true → is_changes s ≡ true
along_changes true s e =
    let h = stands_parts s changes_step e in
    both_true _ _ (both_true _ _ (ap (λ m. bytes_eq m marker_name) h.module_same ∙ bytes_itself marker_name)
    (ap (λ m. bytes_eq m changes_name) h.name_same ∙ bytes_itself changes_name)) (whole_taken s.chosen h.taken)
along_changes false s e = ap is_changes (one_step s changes_step e) ∙ changes_is

-- what a mark is at or below is container `changes`, or in it
first_in : (s : PathStep) (ss : List PathStep) (n : ℕ) → is_under (s ∷ ss) (mark_path n) ≡ true → is_changes s ≡ true
unfolding is_under
first_in s ss n e = let h = both (goes_along (is_end ss) s changes_step) (is_under ss (entry_step n ∷ [])) e in along_changes (is_end ss) s h.0

module _ (t : SchemaTree) (old : Rows) (nodes : List EditNode) (d : DefaultOperation) (plain : names_marks nodes ≡ false) where
  none_named : (n : EditNode) → Among nodes n → is_in_marker n.path ≡ true → ⊥
  none_named n a e = let named = any_at (λ x. is_in_marker x.path) nodes n a e in absurd (cc)

  none_comes : (row : List PathStep × Value) → Among (coming (acts nodes d)) row → is_in_marker row.0 ≡ true → ⊥
  none_comes row a e =
      let v = value_of (last_at (coming (acts nodes d)) row.0) (some_among (coming (acts nodes d)) row.0 row.1 a) in
      let h = comes_of row.0 v.value (said nodes) d nodes v.is in
      none_named h.node h.among (ap is_in_marker h.at ∙ e)

  none_at : (path : List PathStep) → is_some (last_at (coming (acts nodes d)) path) ≡ true → is_in_marker path ≡ true → ⊥
  none_at path there e =
      let v = value_of (last_at (coming (acts nodes d)) path) there in
      let h = comes_of path v.value (said nodes) d nodes v.is in
      none_named h.node h.among (ap is_in_marker h.at ∙ e)

  none_held : (n : ℕ) → is_some (last_at (held t old (coming (acts nodes d))) (mark_path n)) ≡ true → ⊥
  none_held n there =
      let v = value_of (last_at (held t old (coming (acts nodes d))) (mark_path n)) there in
      let h = above_of t old (coming (acts nodes d)) (mark_path n) v.value v.is in
      none_comes h.row h.among (ap is_in_marker h.is.below ∙ changes_is)

  base_there : (e : DefaultOperation) (path : List PathStep) → is_some (get (base_of e old) path) ≡ true → contains_key old path ≡ true
  base_there unsaid.Merge path h = h
  base_there unsaid.Nothing path h = h
  base_there unsaid.Replace path h = let none : is_some (get (base_of unsaid.Replace old) path) ≡ false = ap is_some (get-empty path_cmp path) in absurd (cc)

  -- a mark after the edit was there before
  mark_was : (n : ℕ) → is_some (value_after t old nodes d (mark_path n)) ≡ true → has_mark old n ≡ true
  mark_was n e = elim (some_of (last_at (coming (acts nodes d)) (mark_path n)) _ e) [
    | inl came ↦ absurd (none_at (mark_path n) came changes_is)
    | inr rest ↦ elim (some_of (last_at (held t old (coming (acts nodes d))) (mark_path n)) _ rest) [
      | inl stays ↦ absurd (none_held n stays)
      | inr had ↦ base_there d (mark_path n)
          (unless_goes (goes (gone (acts nodes d) ++ ousted t (coming (acts nodes d))) (mark_path n)) (get (base_of d old) (mark_path n)) had)
    ]
  ]

  pub mark_before : (rows : Rows) (n : ℕ) → edited_rows t old nodes d ≡ Ok rows → has_mark rows n ≡ true → has_mark old n ≡ true
  mark_before rows n e there = mark_was n (ap is_some (sym (values_are t old nodes d rows (mark_path n) e)) ∙ there)

  -- ---- a mark stays

  module _ (sound : IsSound t.nodes) (marker : HasMarker t) (edit : IsEditOf t nodes) where
    record Doing (a : Act) : Type 0 where
      node : EditNode
      among : Among nodes node
      at : node.path ≡ a.path

    doing : (a : Act) → Among (acts nodes d) a → Doing a
    doing a among =
        let h = from_flat (acts_at (said nodes) d) nodes a among in
        let same = only_unless (standing (said nodes) d h.x.path).is_cut (act_of h.x (standing (said nodes) d h.x.path)) a h.of in
        record { node = h.x; among = h.among; at = ap (λ (b : Act). b.path) (sym same) }

    record Going (g : List PathStep) : Type 0 where
      node : EditNode
      among : Among nodes node
      at : node.path ≡ g

    going : (g : List PathStep) → Among (gone (acts nodes d)) g → Going g
    going g among =
        let h = from_flat gone_at (acts nodes d) g among in
        let k = doing h.x h.among in
        record { node = k.node; among = k.among; at = k.at ∙ sym (only_if _ h.x.path g h.of).1 }

    top_none : node_of t [] ≡ None
    unfolding node_of
    top_none = refl

    -- what goes by the edit's own words isn't at or above a mark
    not_gone : (g : List PathStep) (n : ℕ) → Among (gone (acts nodes d)) g → is_under g (mark_path n) ≡ true → ⊥
    not_gone [] n among e =
        let h = going [] among in
        let is = each_of (IsNamed t) nodes h.node edit.each h.among in
        let none : None ≡ Some is.at = sym top_none ∙ ap (node_of t) (sym h.at) ∙ is.leads in
        absurd (cc)
    not_gone (s ∷ ss) n among e = let h = going (s ∷ ss) among in none_named h.node h.among (ap is_in_marker h.at ∙ first_in s ss n e)

    -- ---- rivals

    top_parent : (o : Option ℕ) → is_area_of t o [] ≡ true → o ≡ None
    unfolding node_of
    top_parent None e = refl
    top_parent (Some p) e = absurd (cc)

    no_parent : (o : Option ℕ) → same_parent None o ≡ true → o ≡ None
    no_parent None e = refl
    no_parent (Some p) e = absurd (cc)

    no_names : (s : PathStep) → bare_in None ≡ s → is_changes s ≡ true → ⊥
    unfolding marker_name
    no_names s e changes = let none : [] ≡ marker_name = ap (λ (x : PathStep). x.«module») (e ∙ is_changes_step s changes) in absurd (cc)

    bare_node : (y : ℕ) (o : Option Node) → slice_get t.nodes y ≡ o → parent_in o ≡ None → is_changes (bare_in o) ≡ true → y ≡ marker.at
    unfolding changes_node changes_name
    bare_node y None is parent e = absurd (no_names (bare_in None) refl e)
    bare_node y (Some m) is parent e =
        let step = is_changes_step (bare_in (Some m)) e in
        sound.apart y marker.at m changes_node is marker.changes
        (record { parent = parent; «module» = ap (λ (x : PathStep). x.«module») step; name = ap (λ (x : PathStep). x.name) step })

    in_no_case : (y : ℕ) → y ≡ marker.at → case_at t.nodes y ≡ None
    unfolding changes_node
    in_no_case y e = ap (case_at t.nodes) e ∙ ap case_of marker.changes

    not_other : (y c : ℕ) → case_at t.nodes y ≡ None → is_in_other t y c ≡ false
    unfolding is_in_other cases_over
    not_other y c e = ap (λ o. list_any (is_other_case t c) (outwards t (length t.cases) o)) e

    not_rival : (s : PathStep) (x y : ℕ) → node_of t (s ∷ []) ≡ Some x → are_rivals t x y ≡ true → is_changes (bare t.nodes y) ≡ true → ⊥
    unfolding are_rivals
    not_rival s x y leads rivals e =
        let top = by_last t [] s x leads in
        let h = both (same_parent (parent_of t.nodes x) (parent_of t.nodes y)) (list_any (is_in_other t y) (cases_over t x)) rivals in
        let above : parent_of t.nodes x ≡ None = ap parent_in top.there ∙ top_parent top.node.parent top.area in
        let beside : parent_of t.nodes y ≡ None =
        no_parent (parent_of t.nodes y) (ap (λ (o : Option ℕ). same_parent o (parent_of t.nodes y)) (sym above) ∙ h.0) in
        let one = any_passes (is_in_other t y) (cases_over t x) h.1 in
        let no = not_other y one.x (in_no_case y (bare_node y (slice_get t.nodes y) refl beside e)) in
        let yes = one.passes in
        absurd (cc)

    record Begins (a : PathStep) (g : List PathStep) : Type 0 where
      rest : List PathStep
      begins : g ≡ a ∷ rest

    rivals_begin : (a : PathStep) (front : List PathStep) (o : Option ℕ) (g : List PathStep) → Among (rivals_at t (a ∷ front) o) g → Begins a g
    rivals_begin a front None g among = absurd among
    rivals_begin a front (Some x) g among =
        let h = from_flat (rival_at t (a ∷ front) x) (numbers t.nodes) g among in
        record { rest = front ++ bare t.nodes h.x ∷ []; begins = (only_if (are_rivals t x h.x) (a ∷ front ++ bare t.nodes h.x ∷ []) g h.of).1 }

    begun : (a : PathStep) (front ss g : List PathStep) → Among (ousted_from t (a ∷ front) ss) g → Begins a g
    begun a front [] g among = absurd among
    begun a front (s ∷ ss) g among =
        elim (among_parts (rivals_at t (a ∷ front) (node_of t (a ∷ front ++ s ∷ []))) (ousted_from t (a ∷ front ++ s ∷ []) ss) g among) [
          | inl now ↦ rivals_begin a front (node_of t (a ∷ front ++ s ∷ [])) g now
          | inr later ↦ begun a (front ++ s ∷ []) ss g later
        ]

    top_rival : (s : PathStep) (o : Option ℕ) (g : List PathStep) (n : ℕ) → node_of t (s ∷ []) ≡ o → Among (rivals_at t [] o) g
        → is_under g (mark_path n) ≡ true → ⊥
    top_rival s None g n leads among e = absurd among
    top_rival s (Some x) g n leads among e =
        let h = from_flat (rival_at t [] x) (numbers t.nodes) g among in
        let k = only_if (are_rivals t x h.x) (bare t.nodes h.x ∷ []) g h.of in
        not_rival s x h.x leads k.0 (first_in (bare t.nodes h.x) [] n (ap (λ (p : List PathStep). is_under p (mark_path n)) (sym k.1) ∙ e))

    not_below : (s : PathStep) (ss g : List PathStep) (n : ℕ) → is_changes s ≡ false → Among (ousted_by t (s ∷ ss)) g → is_under g (mark_path n) ≡ true → ⊥
    not_below s ss g n outside among e = elim (among_parts (rivals_at t [] (node_of t (s ∷ []))) (ousted_from t (s ∷ []) ss) g among) [
      | inl now ↦ top_rival s (node_of t (s ∷ [])) g n refl now e
      | inr later ↦
          let b = begun s [] ss g later in
          let inside : is_changes s ≡ true = first_in s b.rest n (ap (λ (p : List PathStep). is_under p (mark_path n)) (sym b.begins) ∙ e) in
          absurd (cc)
    ]

    by_bool : (b : Bool) → (b ≡ true → ⊥) → b ≡ false
    by_bool true h = absurd (h refl)
    by_bool false h = refl

    not_ousted_by : (path g : List PathStep) (n : ℕ) → (is_in_marker path ≡ true → ⊥) → Among (ousted_by t path) g → is_under g (mark_path n) ≡ true → ⊥
    not_ousted_by [] g n outside among e = absurd among
    not_ousted_by (s ∷ ss) g n outside among e = not_below s ss g n (by_bool (is_changes s) outside) among e

    -- what goes with the rows that come isn't at or above a mark
    not_ousted : (g : List PathStep) (n : ℕ) → Among (ousted t (coming (acts nodes d))) g → is_under g (mark_path n) ≡ true → ⊥
    not_ousted g n among e =
        let h = from_flat (λ (row : List PathStep × Value). ousted_by t row.0) (coming (acts nodes d)) g among in
        not_ousted_by h.x.0 g n (none_comes h.x h.among) h.of e

    not_going : (n : ℕ) → goes (gone (acts nodes d) ++ ousted t (coming (acts nodes d))) (mark_path n) ≡ true → ⊥
    not_going n e =
        let h = any_passes (λ node. is_under node (mark_path n)) (gone (acts nodes d) ++ ousted t (coming (acts nodes d))) e in
        elim (among_parts (gone (acts nodes d)) (ousted t (coming (acts nodes d))) h.x h.among) [
          | inl own ↦ not_gone h.x n own h.passes
          | inr other ↦ not_ousted h.x n other h.passes
        ]

    base_is : (e : DefaultOperation) → is_replace e ≡ false → base_of e old ≡ old
    base_is unsaid.Merge h = refl
    base_is unsaid.Nothing h = refl
    base_is unsaid.Replace h = absurd (cc)

    -- a mark before the edit is there after it
    pub mark_stays : (rows : Rows) (n : ℕ) → is_replace d ≡ false → edited_rows t old nodes d ≡ Ok rows → has_mark old n ≡ true → has_mark rows n ≡ true
    mark_stays rows n merges e there =
        ap is_some (values_are t old nodes d rows (mark_path n) e)
        ∙ some_right (last_at (coming (acts nodes d)) (mark_path n)) _ (some_right (last_at (held t old (coming (acts nodes d))) (mark_path n)) _
        (stays_if (goes (gone (acts nodes d) ++ ousted t (coming (acts nodes d))) (mark_path n)) (get (base_of d old) (mark_path n)) (not_going n)
        (ap (λ (m : Rows). is_some (get m (mark_path n))) (base_is d merges) ∙ there)))
