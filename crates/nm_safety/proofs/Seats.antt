-- What the course of a change set in step has done by its next action.
use Rattle.std.proofs.Common.{ℕ, ◌≡◌, ◌∙◌, suc, ◌+◌, true, false, List, [], ◌∷◌, length, Option, Some, None, is_some, slice_get, refl, ap, subst}
use Rattle.std.specs.List.{All}
use Rattle.std.proofs.lemmas.Option.{slice_get_within, get_or_from_slice_get}
use Rattle.nm_proto.specs.declared.journal.Entry.{Entry}
use Rattle.nm_proto.specs.declared.journal.Verdict.{Verdict}
use Rattle.nm_proto.specs.declared.journal.Verdict.TheVariants as verdict
use Rattle.nm_decider.specs.declared.course.NextAction.TheVariants.{Decide}
use Rattle.nm_decider.specs.declared.seat.Seat.{Seat}
use Rattle.nm_decider.specs.Course.{next_action, seat_count}
use Rattle.nm_decider.specs.Rightly.{ActsRightly, IsReady}
use Rattle.nm_decider.proofs.Actions.{rightly}
use Rattle.nm_manager.specs.Slot.{SideState, SlotState, to_commit}
use Rattle.nm_safety.specs.Step.{GoWith, IsInStep}
use Rattle.nm_safety.proofs.Basics.{never}

-- as many seats as sides
same_length : {A B : Type 0} (xs : List A) (ys : List B) → ((j : ℕ) → is_some (slice_get xs j) ≡ is_some (slice_get ys j)) → length xs ≡ length ys
same_length [] [] same = refl
same_length [] (y ∷ ys) same = absurd (let g : false ≡ true = same 0 in cc)
same_length (x ∷ xs) [] same = absurd (let g : true ≡ false = same 0 in cc)
same_length (x ∷ xs) (y ∷ ys) same = ap suc (same_length xs ys (λ j. same (suc j)))

both_there : (members device : ℕ) (v : Option Verdict) (seat : Option Seat) (side : Option SideState) → GoWith members v device seat side → is_some seat ≡ is_some side
both_there members device v None None pair = refl
both_there members device v None (Some side) pair = absurd pair
both_there members device v (Some seat) None pair = absurd pair
both_there members device v (Some seat) (Some side) pair = refl

pub listed : {A : Type 0} (P : A → Type 0) (xs : List A) → All P xs → (place : ℕ) (x : A) → slice_get xs place ≡ Some x → P x
listed P xs all place x there = subst P (get_or_from_slice_get xs place x x there) (all place x (slice_get_within xs place x there))

module _ (change members : ℕ) (entries : List Entry) (slot : SlotState) (in_step : IsInStep change members entries slot) where
  pub long : length slot.course.seats ≡ seat_count
  long =
      same_length slot.course.seats slot.sides
      (λ j. both_there members (j + 1) slot.course.verdict (slice_get slot.course.seats j) (slice_get slot.sides j) (in_step.pairs j))
      ∙ in_step.sides

  pub acts : ActsRightly slot.course
  acts = rightly slot.course long

  -- it decides once
  pub undecided : (v : Verdict) → next_action slot.course ≡ Decide v → slot.course.verdict ≡ None
  undecided verdict.Commit next = (acts.commits next).undecided
  undecided (verdict.Abort why) next = (acts.aborts why next).undecided

  -- and that all is to be committed where all is acknowledged
  pub ready : (v : Verdict) → next_action slot.course ≡ Decide v → (place : ℕ) (seat : Seat) → slice_get slot.course.seats place ≡ Some seat
      → to_commit (Some v) ≡ true → seat.is_member ≡ true → IsReady seat
  ready verdict.Commit next place seat there commit member =
      listed (λ one. one.is_member ≡ true → IsReady one) slot.course.seats (acts.commits next).ready place seat there member
  ready (verdict.Abort why) next place seat there commit member = never commit
