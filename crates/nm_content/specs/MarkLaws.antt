-- Which paths are marks, and what marks go and come.
use Rattle.std.specs.Prelude.{◌≡◌, ◌⊎◌, ℕ, pos, negsuc, List, [], ◌∷◌, ◌++◌, Bool, true, false, cond, not, ◌&&◌, ◌||◌, ◌==◌, is_some, Option, Some, None, if◌then◌else◌, refl}
use Rattle.std.proofs.Common.{inl, inr, sym, ◌∙◌, ap, arith}
use Rattle.std.proofs.lemmas.Bool.Decides.{nat_tests}
use Rattle.std.proofs.lemmas.Slice.Eq.{bytes_eq-Decides}
use Rattle.std.specs.Str.{bytes_eq}
use Rattle.std.specs.Ordering.{eq_by_cmp}
use Rattle.std.specs.FinMap.{get, get-insert, get-retain_keys}
use Rattle.nm_base.specs.Words.{marker_name}
use Rattle.nm_types.specs.Path.{PathStep, path_cmp, Choice, whole, keys as by_keys, entry as by_value}
use Rattle.nm_types.specs.PathLaws.{paths_total, path_cmp-IsAntisymmetric, same_path_decides}
use Rattle.nm_types.specs.declared.value.Value.{Value}
use Rattle.nm_types.specs.declared.value.Value.TheVariants as value
use Rattle.nm_proto.specs.declared.message.Marks.{Marks}
use Rattle.nm_proto.specs.Content.{is_taken, adds_mark, takes_mark}
use Rattle.nm_config.specs.Rows.{Rows}
use Rattle.nm_config.specs.Under.{is_under, is_whole, Continues, EntersList}
use Rattle.nm_config.proofs.Meaning.{under-means}
use Rattle.nm_validate_rules.specs.Violated.{last_chosen}
use Rattle.nm_validate_rules.proofs.Among.{both}
use Rattle.nm_validate_rules.proofs.Placed.{both_true}
use Rattle.nm_edit.proofs.Named.{last_step}
use Rattle.nm_content.specs.Mark.{changes_name, applied_name, changes_step, entry_step, mark_path, has_mark, is_of_marker, is_changes, is_applied, only_key, key_by, number_in, number_of, mark_at, mark_over, is_given, is_taken_in, goes_with, without_marks, marked}

-- ---- which paths are marks

-- texts that compare as equal are one text
pub same_bytes : (a b : List ℕ) → bytes_eq a b ≡ true → a ≡ b
same_bytes a b e = (bytes_eq-Decides a b).0 e

-- a text compares as equal to itself
pub bytes_itself : (a : List ℕ) → bytes_eq a a ≡ true
bytes_itself a = (bytes_eq-Decides a a).1 refl

-- the step to the container of the marks is such a step
pub changes_is : is_changes changes_step ≡ true
changes_is = both_true _ true (both_true _ _ (bytes_itself marker_name) (bytes_itself changes_name)) refl

applied_is : (n : ℕ) → is_applied (entry_step n) ≡ true
applied_is n = both_true _ _ (bytes_itself marker_name) (bytes_itself applied_name)

key_is : (n : ℕ) → key_by changes_step (entry_step n) ≡ Some (value.Int (pos n))
key_is n = ap (λ b. if b then Some (value.Int (pos n)) else None) (both_true _ _ changes_is (applied_is n))

-- the path of a mark tells its number
pub at_itself : (n : ℕ) → mark_at (mark_path n) ≡ Some n
at_itself n = ap number_of (key_is n)

-- so does what is below it
pub over_itself : (n : ℕ) (rest : List PathStep) → mark_over (mark_path n ++ rest) ≡ Some n
over_itself n rest = ap number_of (key_is n)

number_is : (v : Value) (n : ℕ) → number_in v ≡ Some n → v ≡ value.Int (pos n)
number_is (value.Int (pos m)) n e = let same : m ≡ n = cc in ap (λ k. value.Int (pos k)) same
number_is (value.Int (negsuc m)) n e = absurd (cc)
number_is (value.Decimal a b) n e = absurd (cc)
number_is (value.Bool b) n e = absurd (cc)
number_is (value.Text t) n e = absurd (cc)
number_is (value.Name t) n e = absurd (cc)
number_is (value.Bits t) n e = absurd (cc)
number_is value.Empty n e = absurd (cc)
number_is value.Present n e = absurd (cc)

chosen_is : (c : Choice) (n : ℕ) → number_of (only_key c) ≡ Some n → c ≡ by_keys (value.Int (pos n) ∷ [])
chosen_is whole n e = absurd (cc)
chosen_is (by_value v) n e = absurd (cc)
chosen_is (by_keys []) n e = absurd (cc)
chosen_is (by_keys (v ∷ [])) n e = ap (λ w. by_keys (w ∷ [])) (number_is v n e)
chosen_is (by_keys (v ∷ w ∷ vs)) n e = absurd (cc)

whole_is : (c : Choice) → is_whole c ≡ true → c ≡ whole
whole_is whole e = refl
whole_is (by_keys vs) e = absurd (cc)
whole_is (by_value v) e = absurd (cc)

key_passes : (b : Bool) (c : Choice) (n : ℕ) → number_of (if b then only_key c else None) ≡ Some n → (b ≡ true) × (number_of (only_key c) ≡ Some n)
key_passes true c n e = (refl, e)
key_passes false c n e = absurd (cc)

-- a step is what its three parts are
pub step_is : (s : PathStep) (owner name : List ℕ) (c : Choice) → s.«module» ≡ owner → s.name ≡ name → s.chosen ≡ c
    → s ≡ record { «module» = owner; name = name; chosen = c }
step_is s owner name c o n e = λ i. record { «module» = o i; name = n i; chosen = e i }

-- a step to the container of the marks is that one step
pub is_changes_step : (s : PathStep) → is_changes s ≡ true → s ≡ changes_step
is_changes_step s e =
    let h = both (is_of_marker s && bytes_eq s.name changes_name) (is_whole s.chosen) e in
    let k = both (is_of_marker s) (bytes_eq s.name changes_name) h.0 in
    step_is s marker_name changes_name whole (same_bytes _ _ k.0) (same_bytes _ _ k.1) (whole_is s.chosen h.1)

steps_are : (s r : PathStep) (n : ℕ) → number_of (key_by s r) ≡ Some n → (s ≡ changes_step) × (r ≡ entry_step n)
steps_are s r n e =
    let h = key_passes (is_changes s && is_applied r) r.chosen n e in
    let k = both (is_changes s) (is_applied r) h.0 in
    let a = both (is_of_marker r) (bytes_eq r.name applied_name) k.1 in (
      is_changes_step s k.0,
      step_is r marker_name applied_name (by_keys (value.Int (pos n) ∷ [])) (same_bytes _ _ a.0)
          (same_bytes _ _ a.1) (chosen_is r.chosen n h.1),
    )

-- a path that tells a mark's number is the mark's path
pub at_is : (path : List PathStep) (n : ℕ) → mark_at path ≡ Some n → path ≡ mark_path n
at_is [] n e = absurd (cc)
at_is (s ∷ []) n e = absurd (cc)
at_is (s ∷ r ∷ []) n e = let h = steps_are s r n e in (λ i. h.0 i ∷ h.1 i ∷ [])
at_is (s ∷ r ∷ q ∷ more) n e = absurd (cc)

over_is : (path : List PathStep) (n : ℕ) → mark_over path ≡ Some n → Continues (mark_path n) path
over_is [] n e = absurd (cc)
over_is (s ∷ []) n e = absurd (cc)
over_is (s ∷ r ∷ more) n e = let h = steps_are s r n e in record { rest = more; begins = λ i. h.0 i ∷ h.1 i ∷ more }

-- what is below a mark, or the mark, stays below it with further steps
pub over_on : (path rest : List PathStep) (n : ℕ) → mark_over path ≡ Some n → mark_over (path ++ rest) ≡ Some n
over_on [] rest n e = absurd (cc)
over_on (s ∷ []) rest n e = absurd (cc)
over_on (s ∷ r ∷ more) rest n e = e

-- a path is at or below a mark exactly where that is the mark over it
over_means : (n : ℕ) (path : List PathStep) → Continues (mark_path n) path ⊎ EntersList (mark_path n) path → mark_over path ≡ Some n
over_means n path (inl c) = ap mark_over c.begins ∙ over_itself n c.rest
over_means n path (inr l) =
    let ends : last_chosen (mark_path n) ≡ whole = ap last_chosen l.ends ∙ last_step l.above l.list ∙ l.as_whole in
    absurd (cc)

-- what is at or below a mark tells its number
pub under_over : (n : ℕ) (path : List PathStep) → is_under (mark_path n) path ≡ true → mark_over path ≡ Some n
under_over n path e = over_means n path ((under-means (mark_path n) path).0 e)

-- what tells a mark's number is at or below it
pub over_under : (n : ℕ) (path : List PathStep) → mark_over path ≡ Some n → is_under (mark_path n) path ≡ true
over_under n path e = (under-means (mark_path n) path).1 (inl (over_is path n e))

-- tests that follow from one another are one test
pub alike : (a b : Bool) → (a ≡ true → b ≡ true) → (b ≡ true → a ≡ true) → a ≡ b
alike true true h k = refl
alike true false h k = sym (h refl)
alike false true h k = k refl
alike false false h k = refl

-- a number that is given is that number
pub given_is : (n : ℕ) (o : Option ℕ) → is_given n o ≡ true → o ≡ Some n
given_is n None e = absurd (cc)
given_is n (Some m) e = ap Some (grind (arith, nat_tests))

-- a number is given by itself
pub given_itself : (n : ℕ) (o : Option ℕ) → o ≡ Some n → is_given n o ≡ true
given_itself n o e = ap (is_given n) e ∙ grind (arith, nat_tests)

-- a path is at or below a mark exactly where it tells the mark's number
pub under_mark : (n : ℕ) (path : List PathStep) → is_under (mark_path n) path ≡ is_given n (mark_over path)
under_mark n path = alike _ _ (λ e. given_itself n (mark_over path) (under_over n path e)) (λ e. over_under n path (given_is n (mark_over path) e))

-- the marks of two numbers are one path exactly where these are one number
pub marks_differ : (n m : ℕ) → eq_by_cmp path_cmp (mark_path n) (mark_path m) ≡ (n == m)
marks_differ n m =
    let decides = same_path_decides (mark_path n) (mark_path m) _ refl in
    alike _ _
    (λ e. let same : Some n ≡ Some m = sym (at_itself n) ∙ ap mark_at (decides.0 e) ∙ at_itself m in grind (arith, nat_tests))
    (λ e. let same : n ≡ m = grind (arith, nat_tests) in decides.1 (ap mark_path same))

-- ---- what marks go and come

-- which rows stand once marks are gone
pub get-without_marks : (rows : Rows) (marks : Marks) (path : List PathStep)
    → get (without_marks rows marks) path ≡ cond (not (goes_with marks path)) (get rows path) None
get-without_marks rows marks path =
    get-retain_keys rows (λ p. not (goes_with marks p)) path (λ x t. ap (λ p. not (goes_with marks p)) (sym (path_cmp-IsAntisymmetric path x t)))

-- the marks after an edit, by those that it makes by itself: `add`, and otherwise those outside `remove`
abbrev marks_after : Option Marks → (ℕ → Bool) → ℕ → Bool
marks_after None had n = had n
marks_after (Some marks) had n = n == marks.add || (not (is_taken marks n) && had n)

left_by : {X : Type 0} (taken : Bool) (o : Option X) → is_some (cond (not taken) o None) ≡ (not taken && is_some o)
left_by true o = refl
left_by false o = refl

-- a mark is there once it comes, or where it was
pub come_by : {X : Type 0} (here : Bool) (x : X) (o : Option X) → is_some (cond here (Some x) o) ≡ (here || is_some o)
come_by true x o = refl
come_by false x o = refl

-- which marks there are once some went and one came
pub has_mark-marked : (rows : Rows) (marks : Option Marks) (n : ℕ) → has_mark (marked rows marks) n ≡ marks_after marks (has_mark rows) n
has_mark-marked rows None n = refl
has_mark-marked rows (Some marks) n =
    let left = without_marks rows marks in
    let own : goes_with marks (mark_path n) ≡ is_taken marks n = ap (is_taken_in marks) (over_itself n []) in
    let rest : is_some (get left (mark_path n)) ≡ (not (is_taken marks n) && has_mark rows n) =
    ap is_some (get-without_marks rows marks (mark_path n))
    ∙ left_by (goes_with marks (mark_path n)) (get rows (mark_path n))
    ∙ ap (λ b. not b && has_mark rows n) own in
    ap is_some (get-insert paths_total left (mark_path marks.add) value.Present (mark_path n))
    ∙ come_by (eq_by_cmp path_cmp (mark_path n) (mark_path marks.add)) value.Present (get left (mark_path n))
    ∙ ap (λ b. b || is_some (get left (mark_path n))) (marks_differ n marks.add)
    ∙ ap (λ b. n == marks.add || b) rest

first_true : (a b : Bool) → a ≡ true → (a || b) ≡ true
first_true true b e = refl
first_true false b e = absurd (cc)

-- a mark that comes is there
pub after_added : (marks : Option Marks) (had : ℕ → Bool) (n : ℕ) → adds_mark marks n ≡ true → marks_after marks had n ≡ true
after_added None had n a = absurd (cc)
after_added (Some marks) had n a = first_true (n == marks.add) _ a

from_old : (here goes had : Bool) → here ≡ false → (here || (not goes && had)) ≡ true → (had ≡ true) × (goes ≡ false)
from_old true goes had a h = absurd (cc)
from_old false true had a h = absurd (cc)
from_old false false had a h = (h, refl)

-- a mark that is there and didn't come was there, and wasn't taken
pub after_old : (marks : Option Marks) (had : ℕ → Bool) (n : ℕ) → adds_mark marks n ≡ false → marks_after marks had n ≡ true
    → (had n ≡ true) × (takes_mark marks n ≡ false)
after_old None had n a h = (h, refl)
after_old (Some marks) had n a h = from_old (n == marks.add) (is_taken marks n) (had n) a h

stays : (here goes had : Bool) → had ≡ true → goes ≡ false → (here || (not goes && had)) ≡ true
stays true goes had h g = refl
stays false true had h g = absurd (cc)
stays false false had h g = h

-- a mark that was there and isn't taken stays
pub after_kept : (marks : Option Marks) (had : ℕ → Bool) (n : ℕ) → had n ≡ true → takes_mark marks n ≡ false → marks_after marks had n ≡ true
after_kept None had n h t = h
after_kept (Some marks) had n h t = stays (n == marks.add) (is_taken marks n) (had n) h t
