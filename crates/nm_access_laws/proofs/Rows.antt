-- A row that a user may do nothing to: edits of that user's that are permitted leave it as it was.
use Rattle.std.proofs.Common.{◌≡◌, ◌∙◌, ℕ, List, [], ◌∷◌, Bool, true, false, not, ◌&&◌, cond, Option, None, Some, is_some, Result, Ok, Err, refl, sym, ap, subst}
use Rattle.std.specs.FinMap.{find, get, get-insert}
use Rattle.std.specs.Ordering.{eq_by_cmp}
use Rattle.std.proofs.lemmas.Bool.{cond_both, cond-false, cond-true}
use Rattle.nm_types.specs.Path.{PathStep, path_cmp}
use Rattle.nm_types.specs.PathLaws.{paths_total, same_path_decides}
use Rattle.nm_types.specs.Value.{is_same_value}
use Rattle.nm_types.specs.ValueLaws.{same_value_decides}
use Rattle.nm_types.specs.declared.value.Value.{Value}
use Rattle.nm_types.specs.declared.value.Value.TheVariants as value
use Rattle.nm_proto.specs.Content.{Refusal}
use Rattle.nm_proto.specs.declared.message.DefaultOperation.{DefaultOperation}
use Rattle.nm_proto.specs.declared.message.Marks.{Marks}
use Rattle.nm_proto.specs.declared.message.RowAccess.{RowAccess}
use Rattle.nm_proto.specs.declared.message.RowAccess.TheVariants.{Create, Update, Delete}
use Rattle.nm_schema_tree.specs.Nodes.{SchemaTree}
use Rattle.nm_config.specs.Rows.{Rows}
use Rattle.nm_edit.specs.declared.edit.EditNode.{EditNode}
use Rattle.nm_edit.specs.Edited.{edited_rows}
use Rattle.nm_touched.specs.Touched.{Touch, touch_between, touched}
use Rattle.nm_touched.proofs.Exact.{exact, refused}
use Rattle.nm_content.specs.Mark.{changes_step, goes_with, is_applied, is_changes, is_in_marker, is_taken_in, key_over, mark_over, mark_path, marked, number_of, only_key, with_marks, without_marks}
use Rattle.nm_content.specs.MarkLaws.{changes_is, get-without_marks}
use Rattle.nm_access.specs.declared.rule.AccessRules.{AccessRules}
use Rattle.nm_access.specs.declared.access.Judgement.{Judgement}
use Rattle.nm_access.specs.declared.access.Judgement.TheVariants.{Permit, Deny}
use Rattle.nm_access.specs.Judged.{judged_rows, row_denial, row_judged}
use Rattle.nm_access_judge.specs.Judging.{edit_judged, touches_judged}

-- ---- values

by_same : (v w : Value) (b : Bool) → is_same_value v w ≡ b → cond b None (Some Update) ≡ None → Some w ≡ Some v
by_same v w true is e = ap Some (sym ((same_value_decides v w (is_same_value v w) refl).0 is))
by_same v w false is e = absurd cc

-- what isn't touched is as it was
same_of : (before after : Option Value) → touch_between before after ≡ None → after ≡ before
same_of None None e = refl
same_of None (Some w) e = absurd cc
same_of (Some v) None e = absurd cc
same_of (Some v) (Some w) e = by_same v w (is_same_value v w) refl e

-- ---- marks

not_over : (path : List PathStep) → is_in_marker path ≡ false → mark_over path ≡ None
not_over [] out = refl
not_over (s ∷ []) out = refl
not_over (s ∷ r ∷ more) out = ap (λ b. number_of (cond (b && is_applied r) (only_key r.chosen) None)) out

not_the_mark : (path : List PathStep) (n : ℕ) → is_in_marker path ≡ false → (b : Bool) → b ≡ eq_by_cmp path_cmp path (mark_path n) → b ≡ false
not_the_mark path n out false is = refl
not_the_mark path n out true is =
    let same : path ≡ mark_path n = (same_path_decides path (mark_path n) true is).0 refl in
    absurd (let no : true ≡ false = sym changes_is ∙ ap is_in_marker (sym same) ∙ out in cc)

-- marks of change sets are no other rows
pub marked_elsewhere : (rows : Rows) (marks : Option Marks) (path : List PathStep) → is_in_marker path ≡ false → get (marked rows marks) path ≡ get rows path
marked_elsewhere rows None path out = refl
marked_elsewhere rows (Some marks) path out =
    let left = without_marks rows marks in
    get-insert paths_total left (mark_path marks.add) value.Present path
    ∙ cond-false (eq_by_cmp path_cmp path (mark_path marks.add)) (Some value.Present) (get left path) (not_the_mark path marks.add out (eq_by_cmp path_cmp path (mark_path marks.add)) refl)
    ∙ get-without_marks rows marks path
    ∙ ap (λ (o : Option ℕ). cond (not (is_taken_in marks o)) (get rows path) None) (not_over path out)

-- ---- judgements

permits_row : (denial : Option (List ℕ)) (path : List PathStep) (after : Judgement) → row_judged denial path after ≡ Permit → (denial ≡ None) × (after ≡ Permit)
permits_row None path after e = (refl, e)
permits_row (Some by) path after e = absurd cc

module _ (access : AccessRules) (user : List ℕ) (path : List PathStep) (closed : (kind : RowAccess) → is_some (row_denial access user (path, kind)) ≡ true) where
  -- rows that are permitted don't have it among them
  not_among : (touches : List Touch) → judged_rows access user touches ≡ Permit → find path_cmp path touches ≡ None
  unfolding judged_rows
  not_among [] e = refl
  not_among (row ∷ touches) e =
      let both = permits_row (row_denial access user row) row.0 (judged_rows access user touches) e in
      cond_both (eq_by_cmp path_cmp path row.0) (Some row.1) (find path_cmp path touches) (λ (found : Option RowAccess). found ≡ None)
      (λ is.
      let same : path ≡ row.0 = (same_path_decides path row.0 (eq_by_cmp path_cmp path row.0) refl).0 is in
      absurd (let no : true ≡ false = sym (closed row.1) ∙ ap (λ (p : List PathStep). is_some (row_denial access user (p, row.1))) same ∙ ap is_some both.0 in cc))
      (λ _. not_among touches both.1)

  module _ (t : SchemaTree) (rows : Rows) (nodes : List EditNode) (operation : DefaultOperation) (made : Rows) (makes : edited_rows t rows nodes operation ≡ Ok made) where
    leaves_by : (given : Result (List Touch) Refusal) → touched t rows nodes operation ≡ given → touches_judged access user given ≡ Permit → get made path ≡ get rows path
    leaves_by (Ok touches) tells e =
        same_of (get rows path) (get made path) (sym (exact t rows nodes operation made touches path makes tells) ∙ not_among touches e)
    leaves_by (Err refusal) tells e =
        let other : edited_rows t rows nodes operation ≡ Err refusal = (refused t rows nodes operation refusal).0 tells in
        absurd (let no : Ok made ≡ Err refusal = sym makes ∙ other in cc)

    -- an edit that is permitted leaves it as it was
    pub edit_leaves : edit_judged access t user rows operation (Some nodes) ≡ Permit → get made path ≡ get rows path
    edit_leaves e = leaves_by (touched t rows nodes operation) refl e
