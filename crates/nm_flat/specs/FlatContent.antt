-- Flat contents as a content: their meaning and its laws.
use Rattle.std.specs.Prelude.{◌≡◌, ◌↔◌, List, [], ◌∷◌, decimal, ℕ, Bool, true, false, cond, not, ◌||◌, ◌&&◌, ◌==◌, is_some, Option, Some, None, Result, Ok, Err, refl}
use Rattle.std.proofs.Common.{◌⊎◌, inl, inr, sym, ◌∙◌, ap, arith, lit≤}
use Rattle.std.proofs.lemmas.Bool.{cases_Bool}
use Rattle.std.proofs.lemmas.Bool.Decides.{nat_tests}
use Rattle.std.specs.List.{list_all, list_any}
use Rattle.std.specs.Ordering.{nat_cmp, eq_by_cmp}
use Rattle.std.specs.Cmp.{nat_cmp_total, unsigned_tied}
use Rattle.std.specs.FinMap.{FinMap, get, contains_key, keys, insert, remove, retain_keys, empty, contains_key-keys, get-empty, get-insert, get-remove, get-retain_keys, nat_cmp-IsAntisymmetric}
use Rattle.std.specs.Option.{option_map}
use Rattle.nm_base.specs.declared.tag.Tag.TheVariants.{InvalidValue, DataMissing}
use Rattle.nm_proto.specs.declared.message.DefaultOperation.{DefaultOperation}
use Rattle.nm_proto.specs.declared.message.DefaultOperation.TheVariants.{Merge, Replace, Nothing}
use Rattle.nm_proto.specs.declared.message.Marks.{Marks}
use Rattle.nm_flat.specs.declared.flat.FlatEdit.{FlatEdit}
use Rattle.nm_flat.specs.declared.flat.FlatNode.{FlatNode}
use Rattle.nm_proto.specs.Content.{Refusal, Meaning, Laws, IsAnswerable, is_taken, adds_mark, takes_mark}
use Rattle.nm_flat.specs.Flat.{FlatState, cells_edited, changed, kept_unless, least_absent, marked, with_marks, flat_edited, flat_violation, flat_found, flat_exists, flat_overlaps, flat_part, same_cell, flat_same_at, has_marks_of, flat_same_marks, flat_has_mark, flat_rows}

-- all configurations and edits belong, and no edit names a mark
abbrev pub flat_meaning : Meaning FlatState FlatEdit FlatNode
flat_meaning = record {
  belongs = λ _. Unit {0};
  edit_belongs = λ _. Unit {0};
  is_plain = λ _. Unit {0};
  edited = λ config edit. flat_edited config edit.changes;
  violation = flat_violation;
  found = flat_found;
  exists = flat_exists;
  overlaps = flat_overlaps;
  part = flat_part;
  same_at = flat_same_at;
  same_marks = flat_same_marks;
  has_mark = flat_has_mark;
  rows = flat_rows;
}

-- ---- marks after an edit

-- the marks after an edit: `add`, and otherwise old ones outside `remove`
marks_after : Option Marks → (ℕ → Bool) → ℕ → Bool
marks_after None old n = old n
marks_after (Some marks) old n = n == marks.add || (not (is_taken marks n) && old n)

from_old : (here goes had : Bool) → here ≡ false → (here || (not goes && had)) ≡ true → (had ≡ true) × (goes ≡ false)
from_old true goes had a h = cc
from_old false true had a h = cc
from_old false false had a h = (h, refl)

stays : (here goes had : Bool) → had ≡ true → goes ≡ false → (here || (not goes && had)) ≡ true
stays true goes had h g = refl
stays false true had h g = cc
stays false false had h g = h

comes : (here rest : Bool) → here ≡ true → (here || rest) ≡ true
comes true rest h = refl
comes false rest h = cc

after_added : (marks : Option Marks) (old : ℕ → Bool) (n : ℕ) → adds_mark marks n ≡ true → marks_after marks old n ≡ true
unfolding marks_after
after_added None old n a = cc
after_added (Some marks) old n a = comes (n == marks.add) _ a

after_old : (marks : Option Marks) (old : ℕ → Bool) (n : ℕ) → adds_mark marks n ≡ false → marks_after marks old n ≡ true
    → (old n ≡ true) × (takes_mark marks n ≡ false)
unfolding marks_after
after_old None old n a h = (h, refl)
after_old (Some marks) old n a h = from_old (n == marks.add) (is_taken marks n) (old n) a h

after_kept : (marks : Option Marks) (old : ℕ → Bool) (n : ℕ) → old n ≡ true → takes_mark marks n ≡ false → marks_after marks old n ≡ true
unfolding marks_after
after_kept None old n h t = h
after_kept (Some marks) old n h t = stays (n == marks.add) (is_taken marks n) (old n) h t

-- the marks of what an edit makes
marks-with_marks : (cells : Result (FinMap nat_cmp ℕ) Refusal) (marks : FinMap nat_cmp (Unit {0})) (after : FlatState)
    → with_marks cells marks ≡ Ok after → marks ≡ after.marks
marks-with_marks (Ok cells) marks after e = cc
marks-with_marks (Err refusal) marks after e = cc

kept : (taken had : Bool) (o : Option (Unit {0})) → is_some o ≡ had → is_some (cond (not taken) o None) ≡ (not taken && had)
kept true had o e = refl
kept false had o e = e

put : (here : Bool) (o : Option (Unit {0})) (had : Bool) → is_some o ≡ had → is_some (cond here (Some tt) o) ≡ (here || had)
put true o had e = refl
put false o had e = e

-- after an edit, `add`, and otherwise old marks outside `remove`
has_mark-marked : (old : FinMap nat_cmp (Unit {0})) (marks : Option Marks) (n : ℕ)
    → is_some (get (marked old marks) n) ≡ marks_after marks (λ n. is_some (get old n)) n
unfolding marks_after
has_mark-marked old None n = refl
has_mark-marked old (Some marks) n =
    let left = retain_keys old (λ k. not (is_taken marks k)) in
    let rest : is_some (get left n) ≡ (not (is_taken marks n) && is_some (get old n)) =
    ap is_some (get-retain_keys old (λ k. not (is_taken marks k)) n (λ x t. ap (λ k. not (is_taken marks k)) (sym (nat_cmp-IsAntisymmetric n x t))))
    ∙ kept (is_taken marks n) (is_some (get old n)) (get old n) refl in
    ap is_some (get-insert nat_cmp_total left marks.add tt n)
    ∙ put (eq_by_cmp nat_cmp n marks.add) (get left n) (not (is_taken marks n) && is_some (get old n)) rest
    ∙ ap (λ b. b || (not (is_taken marks n) && is_some (get old n))) (unsigned_tied n marks.add)

missing_is_answerable : (cells : FinMap nat_cmp ℕ) (key : Option ℕ) (refusal : Refusal) → kept_unless cells key ≡ Err refusal → IsAnswerable refusal
missing_is_answerable cells None refusal e = cc
missing_is_answerable cells (Some key) refusal e = let t : refusal.tag ≡ DataMissing = cc in rw t (lit≤ tt)

cells_answerable : (cells : FinMap nat_cmp ℕ) (edit : FinMap nat_cmp (Option ℕ)) (operation : DefaultOperation) (refusal : Refusal)
    → cells_edited cells edit operation ≡ Err refusal → IsAnswerable refusal
cells_answerable cells edit Merge refusal e = cc
cells_answerable cells edit Replace refusal e = cc
cells_answerable cells edit Nothing refusal e = missing_is_answerable cells (least_absent cells edit) refusal e

refused-with_marks : (cells : Result (FinMap nat_cmp ℕ) Refusal) (marks : FinMap nat_cmp (Unit {0})) (refusal : Refusal)
    → with_marks cells marks ≡ Err refusal → cells ≡ Err refusal
refused-with_marks (Ok cells) marks refusal e = cc
refused-with_marks (Err given) marks refusal e = cc

too_great : {A : Type 0} (path : A → List ℕ) (found : Option A) (refusal : Refusal)
    → option_map (λ e. record { tag = InvalidValue; path = path e }) found ≡ Some refusal → IsAnswerable refusal
too_great path None refusal e = cc
too_great path (Some x) refusal e = let t : refusal.tag ≡ InvalidValue = cc in rw t (lit≤ tt)

-- the marks of a configuration after an edit
marks_told : (config after : FlatState) (edit : FlatEdit) (operation : DefaultOperation) (marks : Option Marks)
    → flat_edited config edit.changes operation marks ≡ Ok after
    → (n : ℕ) → flat_has_mark after n ≡ marks_after marks (flat_has_mark config) n
marks_told config after edit operation marks e n =
    ap (λ m. is_some (get m n)) (sym (marks-with_marks (cells_edited config.cells edit.changes operation) (marked config.marks marks) after e))
    ∙ has_mark-marked config.marks marks n

-- ---- nodes

same_key : (one other : ℕ) → (one == other) ≡ (other == one)
same_key one other = grind (arith, nat_tests)

itself : (key : ℕ) → (key == key) ≡ true
itself key = grind (arith, nat_tests)

no_cell : (m : FinMap nat_cmp ℕ) (key : ℕ) (b : Bool) → get m key ≡ None → cond b None (get m key) ≡ None
no_cell m key true h = refl
no_cell m key false h = h

own_cell : (key : ℕ) (cell : Option ℕ) → get (changed empty key cell) key ≡ cell
own_cell key None =
    let none : FinMap nat_cmp ℕ = empty in
    get-remove nat_cmp_total none key key ∙ no_cell none key (eq_by_cmp nat_cmp key key) (get-empty nat_cmp key)
own_cell key (Some value) =
    get-insert nat_cmp_total empty key value key ∙ ap (λ b. cond b (Some value) (get {R = nat_cmp} empty key)) (unsigned_tied key key ∙ itself key)

same_cells : (one other : Option ℕ) → (same_cell one other ≡ true) ↔ (one ≡ other)
same_cells None None = (λ _. refl, λ _. refl)
same_cells None (Some value) = (λ h. cc, λ h. cc)
same_cells (Some value) None = (λ h. cc, λ h. cc)
same_cells (Some value) (Some other) = (λ h. ap Some (grind (arith, nat_tests)), λ h. (let e : value ≡ other = cc in grind (arith, nat_tests)))

same_flat_parts : (one other : FlatState) (node : FlatNode) → (flat_same_at one other node ≡ true) ↔ (flat_part one node ≡ flat_part other node)
same_flat_parts one other node = (
  λ h. ap (λ cell. record { cells = changed empty node.0 cell; marks = empty }) ((same_cells (get one.cells node.0) (get other.cells node.0)).0 h),
  λ e. (same_cells (get one.cells node.0) (get other.cells node.0)).1
      (sym (own_cell node.0 (get one.cells node.0)) ∙ ap (λ s. get s.cells node.0) e ∙ own_cell node.0 (get other.cells node.0)),
)

-- ---- the same marks

both_true : (a b : Bool) → (a && b) ≡ true → (a ≡ true) × (b ≡ true)
both_true true b h = (refl, h)
both_true false b h = cc

and_true : (a b : Bool) → a ≡ true → b ≡ true → (a && b) ≡ true
and_true true b h k = k
and_true false b h k = cc

alike : (a b : Bool) → (a ≡ true → b ≡ true) → (b ≡ true → a ≡ true) → a ≡ b
alike true true h k = refl
alike true false h k = sym (h refl)
alike false true h k = k refl
alike false false h k = refl

at_key : (p : ℕ → Bool) (q k : ℕ) (rest : Bool) → p k ≡ true → (rest ≡ true → p q ≡ true) → ((q == k) || rest) ≡ true → p q ≡ true
at_key p q k rest here there h = elim (cases_Bool (q == k)) [
  | inl same ↦ (let e : q ≡ k = grind (arith, nat_tests) in ap p e ∙ here)
  | inr other ↦ there (sym (ap (λ b. b || rest) other) ∙ h)
]

all_at : (p : ℕ → Bool) (q : ℕ) (ks : List ℕ) → list_all p ks ≡ true → list_any (eq_by_cmp nat_cmp q) ks ≡ true → p q ≡ true
all_at p q [] h any = cc
all_at p q (k ∷ ks) h any = let b = both_true (p k) (list_all p ks) h in
    at_key p q k (list_any (eq_by_cmp nat_cmp q) ks) b.0 (all_at p q ks b.1) (sym (ap (λ b. b || list_any (eq_by_cmp nat_cmp q) ks) (unsigned_tied q k)) ∙ any)

or_left : (a b : Bool) → a ≡ true → (a || b) ≡ true
or_left true b h = refl
or_left false b h = cc

or_right : (a b : Bool) → b ≡ true → (a || b) ≡ true
or_right true b h = refl
or_right false b h = h

all_from : (p : ℕ → Bool) (ks : List ℕ) → ((q : ℕ) → list_any (eq_by_cmp nat_cmp q) ks ≡ true → p q ≡ true) → list_all p ks ≡ true
all_from p [] h = refl
all_from p (k ∷ ks) h = and_true (p k) (list_all p ks)
    (h k (or_left (eq_by_cmp nat_cmp k k) (list_any (eq_by_cmp nat_cmp k) ks) (unsigned_tied k k ∙ itself k)))
    (all_from p ks (λ q any. h q (or_right (eq_by_cmp nat_cmp q k) (list_any (eq_by_cmp nat_cmp q) ks) any)))

module _ (one other : FinMap nat_cmp (Unit {0})) where
  has_each : has_marks_of other one ≡ true → (n : ℕ) → contains_key one n ≡ true → contains_key other n ≡ true
  has_each h n there = all_at (contains_key other) n (keys one) h (sym (contains_key-keys one n) ∙ there)

  has_all : ((n : ℕ) → contains_key one n ≡ true → contains_key other n ≡ true) → has_marks_of other one ≡ true
  has_all h = all_from (contains_key other) (keys one) (λ q any. h q (contains_key-keys one q ∙ any))

same_flat_marks : (one other : FlatState) → (flat_same_marks one other ≡ true) ↔ ((n : ℕ) → flat_has_mark one n ≡ flat_has_mark other n)
same_flat_marks one other = (
  λ h n. let b = both_true (has_marks_of other.marks one.marks) (has_marks_of one.marks other.marks) h in
      alike (flat_has_mark one n) (flat_has_mark other n) (has_each one.marks other.marks b.0 n) (has_each other.marks one.marks b.1 n),
  λ e. and_true (has_marks_of other.marks one.marks) (has_marks_of one.marks other.marks)
      (has_all one.marks other.marks (λ n there. sym (e n) ∙ there)) (has_all other.marks one.marks (λ n there. e n ∙ there)),
)

-- what the core asks of a content holds of flat contents
pub flat_laws : Laws flat_meaning
flat_laws = record {
  edited_belongs = λ config edit operation marks after _ _ _. tt;
  added = λ config edit operation marks after _ _ e n a. marks_told config after edit operation marks e n ∙ after_added marks (flat_has_mark config) n a;
  only_old = λ config edit operation marks after _ _ _ e n a there.
      after_old marks (flat_has_mark config) n a (sym (marks_told config after edit operation marks e n) ∙ there);
  kept = λ config edit operation marks after _ _ _ e _ n had t.
      marks_told config after edit operation marks e n ∙ after_kept marks (flat_has_mark config) n had t;
  overlaps_both_ways = λ one other. same_key one.0 other.0;
  same_parts = same_flat_parts;
  same_numbers = same_flat_marks;
  refusals = λ config edit operation marks refusal _ _ e.
      cells_answerable config.cells edit.changes operation refusal
      (refused-with_marks (cells_edited config.cells edit.changes operation) (marked config.marks marks) refusal e);
  violations = λ config refusal _ e. too_great (λ e. decimal e.0) _ refusal e;
}
