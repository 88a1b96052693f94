-- The inverse of an edit gives back what was.
use Rattle.std.proofs.Common.{◌≡◌, ◌≤◌, List, Bool, true, false, cond, ◌&&◌, ◌||◌, Option, Some, None, Result, Ok, Err, is_some, nat_lt, if◌then◌else◌, refl, sym, ap, subst, ◌∙◌, arith}
use Rattle.std.proofs.lemmas.Bool.Decides.{nat_tests}
use Rattle.std.specs.Prelude.{not}
use Rattle.std.specs.FinMap.{get, len, entries, same_map}
use Rattle.nm_types.specs.PathLaws.{paths_total, path_cmp-IsAntisymmetric}
use Rattle.nm_types.specs.Value.{is_same_value}
use Rattle.nm_types.specs.ValueLaws.{same_value_decides}
use Rattle.nm_types.specs.declared.value.Value.{Value}
use Rattle.nm_proto.specs.Content.{Refusal}
use Rattle.nm_proto.specs.declared.message.DefaultOperation.{DefaultOperation}
use Rattle.nm_proto.specs.declared.message.DefaultOperation.TheVariants as unsaid
use Rattle.nm_schema_tree.specs.Nodes.{SchemaTree}
use Rattle.nm_path.specs.Spelling.{node_of}
use Rattle.nm_config.specs.Rows.{Rows}
use Rattle.nm_json.specs.Whole.{row_limit}
use Rattle.nm_validate_rules.specs.Standing.{is_own_at, StandsIn}
use Rattle.nm_validate_rules.proofs.Lists.{or_left, or_right, and_never}
use Rattle.nm_overlay.specs.Differences.{differs, differences, with_changes}
use Rattle.nm_overlay.proofs.Order.{Place}
use Rattle.nm_overlay.proofs.Changed.{seen}
use Rattle.nm_edit.specs.declared.edit.EditNode.{EditNode}
use Rattle.nm_edit.specs.declared.act.Act.{Act}
use Rattle.nm_edit.specs.Acts.{coming}
use Rattle.nm_edit.specs.Edited.{limited, edited_rows}
use Rattle.nm_edit.specs.Changed.{changed, in_order}
use Rattle.nm_edit.specs.Laws.{last_at}
use Rattle.nm_edit.proofs.Data.{edited_stand}
use Rattle.nm_undo.specs.Inverse.{Undoing, undoing, inverted, inverse_of}
use Rattle.nm_undo.specs.Since.{is_among, is_brought, is_taken, looks_at, acts_of, is_changed, IsNever}
use Rattle.nm_undo.specs.Laws.{AreGiven}
use Rattle.nm_undo.proofs.Maps.{alike}
use Rattle.nm_edit.specs.EditOf.{IsEditOf}
use Rattle.nm_undo.proofs.EditIs.{nodes_are, brought_is}
use Rattle.nm_undo.proofs.Restored.{given_back, undoes, undoes_is, restores}

-- ---- what takes an edit back

by_limit : {E : Type 0} (b : Bool) (e : E) (one other : Undoing) → (if b then Err e else Ok one) ≡ Ok other → one ≡ other
by_limit true e one other is = absurd (cc)
by_limit false e one other is = cc

undoing_is : (t : SchemaTree) (old made : Rows) (nodes : List EditNode) (d : DefaultOperation) (u : Undoing) → edited_rows t old nodes d ≡ Ok made → inverse_of t old nodes d ≡ Ok u
    → undoing t old (entries (differences old made)) ≡ u
undoing_is t old made nodes d u makes is =
    by_limit _ None (undoing t old (entries (differences old made))) u (sym (ap (λ (r : Result Rows Refusal). inverted t old (in_order (changed old r))) makes) ∙ is)

within_by : {E : Type 0} (b : Bool) (e : E) (rows : Rows) → b ≡ false → (if b then Err e else Ok rows) ≡ Ok rows
within_by true e rows is = absurd (cc)
within_by false e rows is = refl

-- ---- what was changed since

and_no : (a b : Bool) → (a && b) ≡ false → a ≡ true → b ≡ false
and_no true b e h = e
and_no false b e h = absurd (cc)

both_true : (a b : Bool) → a ≡ true → b ≡ true → (a && b) ≡ true
both_true a b p q = ap (λ x. x && b) p ∙ q

unchanged : (x : Option Value) → differs x x ≡ false
unchanged None = refl
unchanged (Some v) = ap not ((same_value_decides v v (is_same_value v v) refl).1 refl)

module _ (t : SchemaTree) (old made : Rows) (nodes : List EditNode) (d : DefaultOperation) (given : AreGiven t old nodes) (makes : edited_rows t old nodes d ≡ Ok made) where
  stands_made : StandsIn t made
  stands_made = edited_stand t old nodes d given.stands given.edit made makes

  abbrev plan : Undoing
  plan = undoing t old (entries (differences old made))

  abbrev done : List Act
  done = undoes t old made given.sound given.nested given.stands stands_made given.valid

  done_is : acts_of plan ≡ done
  done_is = undoes_is t old made given.sound given.nested given.stands stands_made given.valid

  -- what is looked at and wasn't changed is the same
  same_at : (later : Rows) (q : Place) → IsNever (is_changed t plan made later) → looks_at t plan (acts_of plan) q ≡ true → get made q ≡ get later q
  same_at later q never looks = alike (get made q) (get later q) (and_no (looks_at t plan (acts_of plan) q) (differs (get made q) (get later q)) (never q) looks)

  pub later_is : (later : Rows) → IsNever (is_changed t plan made later) → edited_rows t later plan.nodes unsaid.Merge ≡ limited (with_changes later plan.rows)
  later_is later never =
      restores t old made given.sound given.nested given.stands stands_made given.valid later
      (λ q g. same_at later q never
      (or_right (is_among plan.rows q) (is_brought t (acts_of plan) q || is_taken t (acts_of plan) q)
      (or_right (is_brought t (acts_of plan) q) (is_taken t (acts_of plan) q) (ap (λ (a : List Act). is_taken t a q) done_is ∙ g))))
      (λ q own comes. same_at later q never
      (or_right (is_among plan.rows q) (is_brought t (acts_of plan) q || is_taken t (acts_of plan) q)
      (or_left (is_brought t (acts_of plan) q) (is_taken t (acts_of plan) q)
      (ap (λ (a : List Act). is_brought t a q) done_is ∙ both_true (is_own_at t.nodes (node_of t q)) (is_some (last_at (coming done) q)) own comes))))

  -- at once nothing was changed
  never_at_once : IsNever (is_changed t plan made made)
  never_at_once q = ap (λ b. looks_at t plan (acts_of plan) q && b) (unchanged (get made q)) ∙ and_never (looks_at t plan (acts_of plan) q)

  back_by : (q : Place) (b : Bool) → differs (get old q) (get made q) ≡ b → seen (cond b (Some (get old q)) None) (get made q) ≡ get old q
  back_by q true other = refl
  back_by q false same = sym (alike (get old q) (get made q) same)

  rows_give_back : with_changes made plan.rows ≡ old
  rows_give_back = same_map paths_total path_cmp-IsAntisymmetric _ _ (λ q. given_back t old made made q ∙ back_by q (differs (get old q) (get made q)) refl)

  within : (rows : Rows) → len rows ≤ row_limit → limited rows ≡ Ok rows
  within rows upto =
      let not_more : nat_lt row_limit (len rows) ≡ false = grind (arith, nat_tests) in
      within_by (nat_lt row_limit (len rows)) _ rows not_more

  pub back_is : len old ≤ row_limit → edited_rows t made plan.nodes unsaid.Merge ≡ Ok old
  back_is upto = later_is made never_at_once ∙ ap limited rows_give_back ∙ within old upto

-- ---- the laws

pub gives_back : (t : SchemaTree) (old made : Rows) (nodes : List EditNode) (d : DefaultOperation) (u : Undoing) → AreGiven t old nodes → len old ≤ row_limit → edited_rows t old nodes d ≡ Ok made
    → inverse_of t old nodes d ≡ Ok u → edited_rows t made u.nodes unsaid.Merge ≡ Ok old
gives_back t old made nodes d u given upto makes is =
    ap (λ (v : Undoing). edited_rows t made v.nodes unsaid.Merge) (sym (undoing_is t old made nodes d u makes is)) ∙ back_is t old made nodes d given makes upto

pub gives_back_later : (t : SchemaTree) (old made later : Rows) (nodes : List EditNode) (d : DefaultOperation) (u : Undoing) → AreGiven t old nodes → edited_rows t old nodes d ≡ Ok made
    → inverse_of t old nodes d ≡ Ok u → IsNever (is_changed t u made later) → edited_rows t later u.nodes unsaid.Merge ≡ limited (with_changes later u.rows)
gives_back_later t old made later nodes d u given makes is never =
    let plan_is = undoing_is t old made nodes d u makes is in
    let its : IsNever (is_changed t (undoing t old (entries (differences old made))) made later) = subst (λ (v : Undoing). IsNever (is_changed t v made later)) (sym plan_is) never in
    ap (λ (v : Undoing). edited_rows t later v.nodes unsaid.Merge) (sym plan_is)
    ∙ later_is t old made nodes d given makes later its
    ∙ ap (λ (v : Undoing). limited (with_changes later v.rows)) plan_is

pub inverse_edits : (t : SchemaTree) (old made : Rows) (nodes : List EditNode) (d : DefaultOperation) (u : Undoing) → AreGiven t old nodes → edited_rows t old nodes d ≡ Ok made
    → inverse_of t old nodes d ≡ Ok u → IsEditOf t u.nodes
inverse_edits t old made nodes d u given makes is =
    let stands = edited_stand t old nodes d given.stands given.edit made makes in
    subst (λ (v : Undoing). IsEditOf t v.nodes) (undoing_is t old made nodes d u makes is)
    (nodes_are t old made given.sound given.nested given.stands stands given.valid (brought_is t old made nodes d given.edit makes))
