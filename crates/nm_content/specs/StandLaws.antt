-- Rows that stand in a schema tree do so when marks go and come.
use Rattle.std.specs.Prelude.{◌≡◌, ◌⊎◌, ℕ, ◌+◌, List, [], ◌∷◌, ◌++◌, Bool, true, false, cond, not, ◌||◌, is_some, Option, Some, None, slice_get, refl}
use Rattle.std.proofs.Common.{inl, inr, sym, ◌∙◌, ap}
use Rattle.std.specs.Ordering.{eq_by_cmp}
use Rattle.std.specs.FinMap.{get, insert, contains_key, get-insert}
use Rattle.nm_base.specs.Words.{marker_name}
use Rattle.nm_types.specs.Path.{PathStep, path_cmp, whole}
use Rattle.nm_types.specs.PathLaws.{paths_total, same_path_decides}
use Rattle.nm_types.specs.declared.value.Value.TheVariants.{Present}
use Rattle.nm_proto.specs.declared.message.Marks.{Marks}
use Rattle.nm_schema_tree.specs.Nodes.{SchemaTree, is_guard_in}
use Rattle.nm_path.specs.Spelling.{node_of}
use Rattle.nm_path.specs.Sound.{IsSound}
use Rattle.nm_config.specs.Rows.{Rows}
use Rattle.nm_validate_rules.specs.Cases.{bare}
use Rattle.nm_validate_rules.specs.Guards.{is_node}
use Rattle.nm_validate_rules.specs.Standing.{is_chosen_in, is_chosen_at, is_row_at, is_row_in, is_own_at, is_row_path, StandsIn}
use Rattle.nm_validate_rules.proofs.Leading.{itself, bare_is}
use Rattle.nm_validate_rules.proofs.Placed.{both_true, bare_leads}
use Rattle.nm_schema.specs.Marker.{HasMarker, changes_node, applied_node}
use Rattle.nm_content.specs.Mark.{changes_name, applied_name, changes_step, entry_step, mark_path, mark_over, is_taken_in, goes_with, without_marks, marked}
use Rattle.nm_content.specs.MarkLaws.{over_on, get-without_marks, come_by}

either : (a b : Bool) → (a || b) ≡ true → (a ≡ true) ⊎ (b ≡ true)
either true b e = inl refl
either false b e = inr e

or_right : (a b : Bool) → b ≡ true → (a || b) ≡ true
or_right true b e = refl
or_right false b e = e

-- ---- where the path of a mark leads

module _ (t : SchemaTree) (sound : IsSound t.nodes) (marker : HasMarker t) where
  pub changes_bare : bare t.nodes marker.at ≡ changes_step
  unfolding changes_node changes_name
  changes_bare = bare_is t changes_step marker.at changes_node marker.changes refl refl refl

  bare_entry : PathStep
  bare_entry = record { «module» = marker_name; name = applied_name; chosen = whole }

  entry_bare : bare t.nodes (marker.at + 1) ≡ bare_entry
  unfolding applied_node applied_name bare_entry
  entry_bare = bare_is t (record { «module» = marker_name; name = applied_name; chosen = whole }) (marker.at + 1)
      (applied_node marker.at) marker.applied refl refl refl

  pub changes_lead : node_of t (changes_step ∷ []) ≡ Some marker.at
  unfolding changes_node
  changes_lead =
      ap (λ (s : PathStep). node_of t (s ∷ [])) (sym changes_bare) ∙ bare_leads t sound.tree sound.apart marker.at changes_node [] marker.changes refl

  entry_leads : node_of t (changes_step ∷ bare_entry ∷ []) ≡ Some (marker.at + 1)
  unfolding applied_node
  entry_leads =
      ap (λ (s : PathStep). node_of t (changes_step ∷ s ∷ [])) (sym entry_bare)
      ∙ bare_leads t sound.tree sound.apart (marker.at + 1) (applied_node marker.at) (changes_step ∷ []) marker.applied
      (ap (is_node marker.at) changes_lead ∙ itself marker.at)

  mark_leads : (n : ℕ) → node_of t (mark_path n) ≡ Some (marker.at + 1)
  unfolding node_of bare_entry
  mark_leads n = entry_leads

  changes_chosen : is_chosen_at t.nodes (node_of t (changes_step ∷ [])) whole ≡ true
  unfolding changes_node
  changes_chosen = ap (λ (o : Option ℕ). is_chosen_at t.nodes o whole) changes_lead ∙ ap (λ n. is_chosen_in n whole) marker.changes

  entry_chosen : (n : ℕ) → is_chosen_at t.nodes (node_of t (mark_path n)) (entry_step n).chosen ≡ true
  unfolding applied_node
  entry_chosen n = ap (λ (o : Option ℕ). is_chosen_at t.nodes o (entry_step n).chosen) (mark_leads n)
      ∙ ap (λ x. is_chosen_in x (entry_step n).chosen) marker.applied

  row_in : (b : Bool) → is_row_in b (slice_get t.nodes (marker.at + 1)) ≡ true
  unfolding applied_node
  row_in b = ap (is_row_in b) marker.applied

  entry_row : (n : ℕ) → is_row_at t.nodes (node_of t (mark_path n)) ≡ true
  entry_row n = ap (is_row_at t.nodes) (mark_leads n) ∙ row_in _

  pub mark_is_row : (n : ℕ) → is_row_path t (mark_path n) ≡ true
  mark_is_row n = both_true _ _ changes_chosen (both_true _ _ (entry_chosen n) (entry_row n))

  changes_pass : is_own_at t.nodes (node_of t (changes_step ∷ [])) ≡ false
  unfolding changes_node
  changes_pass = ap (is_own_at t.nodes) changes_lead ∙ ap is_guard_in marker.changes

  top_passes : is_own_at t.nodes (node_of t []) ≡ false
  unfolding node_of
  top_passes = refl

  -- no list entry and no container with presence is above a mark
  none_above : (path : List PathStep) (s : PathStep) (more : List PathStep) (n : ℕ) → path ++ s ∷ more ≡ mark_path n
      → is_own_at t.nodes (node_of t path) ≡ true → ⊥
  none_above [] s more n e own = let no = top_passes in absurd (cc)
  none_above (a ∷ []) s more n e own =
      let same : a ≡ changes_step = cc in
      let no : is_own_at t.nodes (node_of t (a ∷ [])) ≡ false = ap (λ (x : PathStep). is_own_at t.nodes (node_of t (x ∷ []))) same ∙ changes_pass in
      absurd (cc)
  none_above (a ∷ b ∷ []) s more n e own = absurd (cc)
  none_above (a ∷ b ∷ c ∷ path) s more n e own = absurd (cc)

  -- ---- a mark comes

  there_after : (rows : Rows) (n : ℕ) (q : List PathStep)
      → contains_key (insert rows (mark_path n) Present) q ≡ (eq_by_cmp path_cmp q (mark_path n) || contains_key rows q)
  there_after rows n q = ap is_some (get-insert paths_total rows (mark_path n) Present q) ∙ come_by (eq_by_cmp path_cmp q (mark_path n)) Present (get rows q)

  is_mark_path : (n : ℕ) (q : List PathStep) → eq_by_cmp path_cmp q (mark_path n) ≡ true → q ≡ mark_path n
  is_mark_path n q e = (same_path_decides q (mark_path n) _ refl).0 e

  stand_with : (rows : Rows) (n : ℕ) → StandsIn t rows → StandsIn t (insert rows (mark_path n) Present)
  stand_with rows n stands = record {
    each = λ path h. elim (either _ _ (sym (there_after rows n path) ∙ h)) [
      | inl new ↦ ap (is_row_path t) (is_mark_path n path new) ∙ mark_is_row n
      | inr old ↦ stands.each path old
    ];
    above = λ path s more h own. elim (either _ _ (sym (there_after rows n (path ++ s ∷ more)) ∙ h)) [
      | inl new ↦ absurd (none_above path s more n (is_mark_path n (path ++ s ∷ more) new) own)
      | inr old ↦ there_after rows n path ∙ or_right _ _ (stands.above path s more old own)
    ];
  }

  -- ---- marks go

  left_parts : {X : Type 0} (b : Bool) (o : Option X) → is_some (cond (not b) o None) ≡ true → (b ≡ false) × (is_some o ≡ true)
  left_parts true o e = absurd (cc)
  left_parts false o e = (refl, e)

  left_whole : {X : Type 0} (b : Bool) (o : Option X) → b ≡ false → is_some o ≡ true → is_some (cond (not b) o None) ≡ true
  left_whole true o n e = absurd (cc)
  left_whole false o n e = e

  goes_on : (marks : Marks) (path : List PathStep) (rest : List PathStep) (o : Option ℕ) → mark_over path ≡ o
      → is_taken_in marks o ≡ true → goes_with marks (path ++ rest) ≡ true
  goes_on marks path rest None is e = absurd (cc)
  goes_on marks path rest (Some n) is e = ap (is_taken_in marks) (over_on path rest n is) ∙ e

  stays_above : (marks : Marks) (path rest : List PathStep) (b : Bool) → goes_with marks path ≡ b → goes_with marks (path ++ rest) ≡ false → b ≡ false
  stays_above marks path rest false is e = refl
  stays_above marks path rest true is e = let on = goes_on marks path rest (mark_over path) refl is in absurd (cc)

  stand_without : (rows : Rows) (marks : Marks) → StandsIn t rows → StandsIn t (without_marks rows marks)
  stand_without rows marks stands = record {
    each = λ path h. stands.each path (left_parts (goes_with marks path) (get rows path) (ap is_some (sym (get-without_marks rows marks path)) ∙ h)).1;
    above = λ path s more h own.
        let p = left_parts (goes_with marks (path ++ s ∷ more)) (get rows (path ++ s ∷ more))
        (ap is_some (sym (get-without_marks rows marks (path ++ s ∷ more))) ∙ h) in
        ap is_some (get-without_marks rows marks path)
        ∙ left_whole (goes_with marks path) (get rows path) (stays_above marks path (s ∷ more) (goes_with marks path) refl p.0)
        (stands.above path s more p.1 own);
  }

  pub marked_stand : (rows : Rows) (marks : Option Marks) → StandsIn t rows → StandsIn t (marked rows marks)
  marked_stand rows None stands = stands
  marked_stand rows (Some marks) stands = stand_with (without_marks rows marks) marks.add (stand_without rows marks stands)
