-- What the inverse of an edit says of each path.
use Rattle.std.proofs.Common.{◌≡◌, ◌⊎◌, ℕ, List, [], ◌∷◌, ◌++◌, Bool, true, false, cond, not, ◌&&◌, ◌||◌, Option, Some, None, is_some, if◌then◌else◌, refl, sym, ap, subst, ◌∙◌, inl, inr, append-nil, append_assoc}
use Rattle.std.specs.List.{flat_map}
use Rattle.std.specs.Option.{option_or}
use Rattle.std.specs.Ordering.{eq_by_cmp}
use Rattle.std.specs.FinMap.{get, empty, get-empty, contains_key, entries, entries_sorted, get-entries, find}
use Rattle.nm_types.specs.Path.{PathStep, path_cmp}
use Rattle.nm_types.specs.declared.value.Value.{Value}
use Rattle.nm_schema_tree.specs.Nodes.{SchemaTree}
use Rattle.nm_path.specs.Spelling.{node_of}
use Rattle.nm_path.specs.Sound.{IsSound}
use Rattle.nm_config.specs.Rows.{Rows, with_entries}
use Rattle.nm_validate_rules.specs.Standing.{is_own_at, is_row_path, StandsIn}
use Rattle.nm_validate_rules.specs.Values.{is_same_path}
use Rattle.nm_validate_rules.proofs.Among.{Among, among_left, among_right, among_flat}
use Rattle.nm_validate_rules.proofs.Lists.{among_append}
use Rattle.nm_overlay.specs.Differences.{differs, differences}
use Rattle.nm_overlay.specs.Places.{Pair}
use Rattle.nm_overlay.proofs.Order.{Place, one}
use Rattle.nm_overlay.proofs.Changed.{get-differences}
use Rattle.nm_overlay.proofs.Sorted.{In_order, head_below, tail_sorted, find_below}
use Rattle.nm_edit_json.specs.declared.nodes.Told.{Told}
use Rattle.nm_edit_json.specs.Whole.{NodeMap}
use Rattle.nm_undo.specs.Inverse.{Saying, is_lacking, lacks_from, lacks_above, merged, removed, removed_if, said_by, sayings, said_at, said, front_told, front_by, fronts_from, fronts, fronts_of, mapped}
use Rattle.nm_undo.proofs.Maps.{or_none, or_if, some_is, no_some, is_there, isnt_there, Has, has, last_of, get_with, among_last, some_last, entry_get, from_flat}
use Rattle.nm_undo.proofs.Below.{holds_own}

-- ---- tests

both_no : (a b : Bool) → (a || b) ≡ false → (a ≡ false) × (b ≡ false)
both_no true b e = absurd (cc)
both_no false b e = (refl, e)

not_lacking : (a b : Bool) → (a && not b) ≡ false → a ≡ true → b ≡ true
not_lacking true true e h = refl
not_lacking true false e h = absurd (cc)
not_lacking false b e h = absurd (cc)

-- ---- what is said of the rows of changes

-- what is said of a path, by what changes say of it
abbrev pub told_found : SchemaTree → Rows → Place → Option (Option Value) → Option Told
told_found t old q None = None
told_found t old q (Some after) = said_by t old q (get old q) after

last_sayings : (p : Place) (o : Option Told) (rest : List Saying) (q : Place) → last_of (sayings p o ++ rest) q ≡ option_or (last_of rest q) (if is_same_path q p then o else None)
last_sayings p None rest q = sym (or_if (last_of rest q) (is_same_path q p))
last_sayings p (Some told) rest q = refl

module _ (t : SchemaTree) (old : Rows) where
  said_last_by : (q : Place) (e : Pair) (es : List Pair) → In_order (e ∷ es) → (b : Bool) → eq_by_cmp path_cmp q e.0 ≡ b → last_of (said t old es) q ≡ told_found t old q (find path_cmp q es)
      → option_or (last_of (said t old es) q) (if b then said_by t old e.0 (get old e.0) e.1 else None) ≡ told_found t old q (cond b (Some e.1) (find path_cmp q es))
  said_last_by q e es s true same more =
      let here = said_by t old e.0 (get old e.0) e.1 in
      let is : q ≡ e.0 = one q e.0 same in
      let none : find path_cmp q es ≡ None = ap (λ (k : Place). find path_cmp k es) is ∙ find_below e.0 es (head_below e es s) in
      ap (λ (o : Option Told). option_or o here) (more ∙ ap (told_found t old q) none)
      ∙ ap (λ (k : Place). said_by t old k (get old k) e.1) (sym is)
  said_last_by q e es s false same more = or_none (last_of (said t old es) q) ∙ more

  said_last : (es : List Pair) → In_order es → (q : Place) → last_of (said t old es) q ≡ told_found t old q (find path_cmp q es)
  said_last [] s q = refl
  said_last (e ∷ es) s q =
      last_sayings e.0 (said_by t old e.0 (get old e.0) e.1) (said t old es) q
      ∙ said_last_by q e es s (eq_by_cmp path_cmp q e.0) refl (said_last es (tail_sorted e es s) q)

  sayings_are : (p : Place) (o : Option Told) (q : Place) (told : Told) → Among (sayings p o) (q, told) → (q ≡ p) × (o ≡ Some told)
  sayings_are p None q told a = absurd a
  sayings_are p (Some other) q told (inl same) = (ap (λ (s : Saying). s.0) same, ap (λ (s : Saying). Some s.1) (sym same))
  sayings_are p (Some other) q told (inr a) = absurd a

  -- ---- what is said above them

  -- what is said of a node above a path
  pub record FrontAt (all q : Place) (told : Told) : Type 0 where
    pub step : PathStep
    pub more : Place
    pub below : all ≡ q ++ step ∷ more
    pub at : ℕ
    pub leads : node_of t q ≡ Some at
    pub is : told ≡ front_told t at

  front_by_is : (all above ss q : Place) (s : PathStep) (told : Told) → all ≡ above ++ s ∷ ss → (o : Option ℕ) → node_of t above ≡ o → Among (front_by t above o) (q, told) → FrontAt all q told
  front_by_is all above ss q s told e None at a = absurd a
  front_by_is all above ss q s told e (Some x) at (inl same) =
      let p : q ≡ above = ap (λ (y : Saying). y.0) same in
      record { step = s; more = ss; below = e ∙ ap (λ (k : Place). k ++ s ∷ ss) (sym p); at = x; leads = ap (node_of t) p ∙ at; is = ap (λ (y : Saying). y.1) same }
  front_by_is all above ss q s told e (Some x) at (inr a) = absurd a

  front_is : (all above ss q : Place) (told : Told) → all ≡ above ++ ss → Among (fronts_from t above ss) (q, told) → FrontAt all q told
  front_is all above [] q told e a = absurd a
  front_is all above (s ∷ ss) q told e a = elim (among_append (front_by t above (node_of t above)) (fronts_from t (above ++ s ∷ []) ss) (q, told) a) [
    | inl now ↦ front_by_is all above ss q s told e (node_of t above) refl now
    | inr later ↦ front_is all (above ++ s ∷ []) ss q told (e ∙ sym (append_assoc above (s ∷ []) ss)) later
  ]

  front_head : (q : Place) (x : ℕ) → node_of t q ≡ Some x → Among (front_by t q (node_of t q)) (q, front_told t x)
  front_head q x leads = subst (λ (o : Option ℕ). Among (front_by t q o) (q, front_told t x)) (sym leads) (inl refl)

  front_there : (above ms : Place) (s : PathStep) (more q : Place) (x : ℕ) → q ≡ above ++ ms → node_of t q ≡ Some x → Among (fronts_from t above (ms ++ s ∷ more)) (q, front_told t x)
  front_there above [] s more q x e leads =
      let same : q ≡ above = e ∙ append-nil above in
      among_left (front_by t above (node_of t above)) (fronts_from t (above ++ s ∷ []) more) (q, front_told t x)
      (subst (λ (p : Place). Among (front_by t p (node_of t p)) (q, front_told t x)) same (front_head q x leads))
  front_there above (m ∷ ms) s more q x e leads =
      among_right (front_by t above (node_of t above)) (fronts_from t (above ++ m ∷ []) (ms ++ s ∷ more)) (q, front_told t x)
      (front_there (above ++ m ∷ []) ms s more q x (e ∙ sym (append_assoc above (m ∷ []) ms)) leads)

  -- ---- list entries and containers with presence above a row

  own_on : (above ms : Place) (s : PathStep) (more q : Place) → q ≡ above ++ ms → lacks_from t old above (ms ++ s ∷ more) ≡ false → is_own_at t.nodes (node_of t q) ≡ true → contains_key old q ≡ true
  own_on above [] s more q e holds own =
      let same : q ≡ above = e ∙ append-nil above in
      let here = (both_no (is_lacking t old above) (lacks_from t old (above ++ s ∷ []) more) holds).0 in
      not_lacking (is_own_at t.nodes (node_of t q)) (contains_key old q) (ap (is_lacking t old) same ∙ here) own
  own_on above (m ∷ ms) s more q e holds own =
      own_on (above ++ m ∷ []) ms s more q (e ∙ sym (append_assoc above (m ∷ []) ms)) (both_no (is_lacking t old above) (lacks_from t old (above ++ m ∷ []) (ms ++ s ∷ more)) holds).1 own

-- ---- what is said of each path, of two configurations

module _ (t : SchemaTree) (old new : Rows) where
  -- the changes
  abbrev pub changes : List Pair
  changes = entries (differences old new)

  -- what is said of their rows
  abbrev pub own_sayings : List Saying
  own_sayings = said t old changes

  -- what is said above these
  abbrev pub fronts_said : List Saying
  fronts_said = flat_map (fronts_of t) own_sayings

  -- all by their paths
  abbrev pub nodes : NodeMap
  nodes = mapped t own_sayings

  -- what is said of a path because of its own row
  abbrev pub own_said : Place → Option Told
  own_said q = told_found t old q (cond (differs (get old q) (get new q)) (Some (get new q)) None)

  pub last_is : (q : Place) → last_of own_sayings q ≡ own_said q
  last_is q = said_last t old changes (entries_sorted (differences old new)) q ∙ ap (told_found t old q) (sym (get-entries (differences old new) q) ∙ get-differences old new q)

  -- a row that was there, and that is changed
  pub record Merges (q : Place) (told : Told) : Type 0 where
    pub value : Value
    pub was : get old q ≡ Some value
    pub other : differs (get old q) (get new q) ≡ true
    pub is : told ≡ merged (Some value)

  -- a row that wasn't there and has come, below list entries and containers with presence that were there
  pub record Removes (q : Place) (told : Told) : Type 0 where
    pub value : Value
    pub was : get old q ≡ None
    pub made : get new q ≡ Some value
    pub holds : lacks_above t old q ≡ false
    pub is : told ≡ removed t q value

  by_lacks : (q : Place) (told : Told) (w : Value) (l : Bool) → lacks_above t old q ≡ l → get old q ≡ None → get new q ≡ Some w → removed_if t q w l ≡ Some told → Removes q told
  by_lacks q told w true lacks was made e = absurd (no_some told e)
  by_lacks q told w false lacks was made e = record { value = w; was = was; made = made; holds = lacks; is = sym (some_is (removed t q w) told e) }

  by_values : (q : Place) (told : Told) (before after : Option Value) → get old q ≡ before → get new q ≡ after → differs (get old q) (get new q) ≡ true → said_by t old q before after ≡ Some told
      → Merges q told ⊎ Removes q told
  by_values q told (Some v) after was made other e = inl (record { value = v; was = was; other = other; is = sym (some_is (merged (Some v)) told e) })
  by_values q told None (Some w) was made other e = inr (by_lacks q told w (lacks_above t old q) refl was made e)
  by_values q told None None was made other e = absurd (no_some told e)

  by_differs : (q : Place) (told : Told) (d : Bool) → differs (get old q) (get new q) ≡ d → told_found t old q (cond d (Some (get new q)) None) ≡ Some told → Merges q told ⊎ Removes q told
  by_differs q told true other e = by_values q told (get old q) (get new q) refl refl other e
  by_differs q told false other e = absurd (no_some told e)

  pub own_kind : (q : Place) (told : Told) → own_said q ≡ Some told → Merges q told ⊎ Removes q told
  own_kind q told e = by_differs q told (differs (get old q) (get new q)) refl e

  -- what is said of a row that was there and is changed, and of one that has come
  pub said_of_old : (q : Place) (v : Value) → differs (get old q) (get new q) ≡ true → get old q ≡ Some v → own_said q ≡ Some (merged (Some v))
  said_of_old q v other was =
      ap (λ (b : Bool). told_found t old q (cond b (Some (get new q)) None)) other
      ∙ ap (λ (o : Option Value). said_by t old q o (get new q)) was

  pub said_of_new : (q : Place) (w : Value) → get old q ≡ None → get new q ≡ Some w → lacks_above t old q ≡ false → own_said q ≡ Some (removed t q w)
  said_of_new q w was made holds =
      (λ i. told_found t old q (cond (differs (was i) (made i)) (Some (made i)) None))
      ∙ ap (λ (o : Option Value). said_by t old q o (Some w)) was
      ∙ ap (removed_if t q w) holds

  pub saying_is : (s : Saying) → Among own_sayings s → own_said s.0 ≡ Some s.1
  saying_is s a =
      let h = from_flat (said_at t old) changes s a in
      let is = sayings_are t old h.x.0 (said_by t old h.x.0 (get old h.x.0) h.x.1) s.0 s.1 h.of in
      let found : get (differences old new) h.x.0 ≡ Some h.x.1 = entry_get (differences old new) h.x.0 h.x.1 h.among in
      ap own_said is.0
      ∙ ap (told_found t old h.x.0) (sym (get-differences old new h.x.0) ∙ found) ∙ is.1

  pub own_saying : (q : Place) (told : Told) → own_said q ≡ Some told → Among own_sayings (q, told)
  own_saying q told e = among_last own_sayings q told (last_is q ∙ e)

  -- ---- all of a path

  -- something is said of a row below a path
  pub record IsOver (q : Place) : Type 0 where
    pub saying : Saying
    pub among : Among own_sayings saying
    pub step : PathStep
    pub more : Place
    pub below : saying.0 ≡ q ++ step ∷ more

  -- a node above the row of which something is said
  pub record Fronts (q : Place) (told : Told) : Type 0 where
    pub over : IsOver q
    pub none : own_said q ≡ None
    pub at : ℕ
    pub leads : node_of t q ≡ Some at
    pub is : told ≡ front_told t at

  pub got : (q : Place) → get nodes q ≡ option_or (own_said q) (last_of fronts_said q)
  got q =
      get_with (with_entries empty fronts_said) own_sayings q
      ∙ ap (option_or (last_of own_sayings q)) (get_with empty fronts_said q ∙ ap (option_or (last_of fronts_said q)) (get-empty path_cmp q) ∙ or_none (last_of fronts_said q))
      ∙ ap (λ (o : Option Told). option_or o (last_of fronts_said q)) (last_is q)

  front_kind : (q : Place) (told : Told) → own_said q ≡ None → Among fronts_said (q, told) → Fronts q told
  front_kind q told none a =
      let h = from_flat (fronts_of t) own_sayings (q, told) a in
      let f = front_is t old h.x.0 [] h.x.0 q told refl h.of in
      record { over = record { saying = h.x; among = h.among; step = f.step; more = f.more; below = f.below }; none = none; at = f.at; leads = f.leads; is = f.is }

  kind_by : (q : Place) (told : Told) (o : Option Told) → own_said q ≡ o → option_or o (last_of fronts_said q) ≡ Some told → (Merges q told ⊎ Removes q told) ⊎ Fronts q told
  kind_by q told (Some other) is e = inl (own_kind q told (is ∙ e))
  kind_by q told None is e = inr (front_kind q told is (among_last fronts_said q told e))

  -- what is said of a path is said of its row, or because of a row below it
  pub kind_of : (q : Place) (told : Told) → get nodes q ≡ Some told → (Merges q told ⊎ Removes q told) ⊎ Fronts q told
  kind_of q told e = kind_by q told (own_said q) refl (sym (got q) ∙ e)

  pub own_got : (q : Place) (told : Told) → own_said q ≡ Some told → get nodes q ≡ Some told
  own_got q told e = got q ∙ ap (λ (o : Option Told). option_or o (last_of fronts_said q)) e

  -- of each node above a row of which something is said something is said
  pub front_got : (q : Place) (x : ℕ) → IsOver q → node_of t q ≡ Some x → own_said q ≡ None → Has (get nodes q)
  front_got q x over leads none =
      let on : Among (fronts t over.saying.0) (q, front_told t x) =
      subst (λ (all : Place). Among (fronts_from t [] all) (q, front_told t x)) (sym over.below) (front_there t old [] q over.step over.more q x refl leads) in
      let some = some_last fronts_said q (front_told t x) (among_flat (fronts_of t) own_sayings over.saying (q, front_told t x) over.among on) in
      has (get nodes q) (ap is_some (got q ∙ ap (λ (o : Option Told). option_or o (last_of fronts_said q)) none) ∙ some)

  -- ---- what stands above the rows of which something is said

  module _ (stands_old : StandsIn t old) (stands_new : StandsIn t new) where
    pub said_row : (s : Saying) → Among own_sayings s → is_row_path t s.0 ≡ true
    said_row s a = elim (own_kind s.0 s.1 (saying_is s a)) [
      | inl m ↦ stands_old.each s.0 (is_there (get old s.0) m.value m.was)
      | inr r ↦ stands_new.each s.0 (is_there (get new s.0) r.value r.made)
    ]

    -- a list entry or a container with presence above such a row was there
    pub own_was : (q : Place) → IsOver q → is_own_at t.nodes (node_of t q) ≡ true → contains_key old q ≡ true
    own_was q over own = elim (own_kind over.saying.0 over.saying.1 (saying_is over.saying over.among)) [
      | inl m ↦ stands_old.above q over.step over.more (ap (contains_key old) (sym over.below) ∙ is_there (get old over.saying.0) m.value m.was) own
      | inr r ↦ own_on t old [] q over.step over.more q refl (ap (lacks_above t old) (sym over.below) ∙ r.holds) own
    ]

    -- no row that has come is above such a row
    pub none_new : IsSound t.nodes → (q : Place) (w : Value) → IsOver q → get old q ≡ None → get new q ≡ Some w → ⊥
    none_new sound q w over was made =
        let own = holds_own t sound q over.saying.0 over.step over.more (stands_new.each q (is_there (get new q) w made)) (said_row over.saying over.among) over.below in
        isnt_there (get old q) was (own_was q over own)
