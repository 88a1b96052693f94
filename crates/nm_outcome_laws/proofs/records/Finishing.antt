-- A change set that is to be committed ends with just those devices as keeping it where it is confirmed, and is pending nowhere.
use Rattle.std.proofs.Common.{◌≡◌, ◌∙◌, ℕ, ◌+◌, ◌&&◌, Bool, true, List, Option, Some, ap, subst, slice_get, arith}
use Rattle.std.proofs.lemmas.Bool.Decides.{nat_tests}
use Rattle.nm_base.specs.declared.mask.DeviceMask.{DeviceMask}
use Rattle.nm_base.specs.Mask.{mask_contains}
use Rattle.nm_proto.specs.declared.journal.Entry.{Entry}
use Rattle.nm_history.specs.declared.outcome.Outcome.{Outcome}
use Rattle.nm_history.specs.Outcome.{is_final}
use Rattle.nm_decider_stage.specs.declared.stage.Stage.{Stage}
use Rattle.nm_decider_stage.specs.Stages.{has_kept, is_settled}
use Rattle.nm_decider.specs.declared.seat.Seat.{Seat}
use Rattle.nm_decider.specs.declared.course.NextAction.TheVariants.{Finish}
use Rattle.nm_decider.specs.Course.{next_action}
use Rattle.nm_decider.specs.Rightly.{MayEnd}
use Rattle.nm_resync.specs.declared.resync.ResyncStage.{ResyncStage}
use Rattle.nm_manager.specs.Slot.{SideState, SlotState, to_commit}
use Rattle.nm_safety.specs.Pair.{is_confirmed}
use Rattle.nm_safety.specs.Step.{IsInStep}
use Rattle.nm_safety.proofs.Seats.{acts, listed}
use Rattle.nm_outcome_laws.specs.RecordsSupport.{AllKnown, IsKnown, IsTold, is_known_as, knows_at}
use Rattle.nm_outcome_laws.proofs.records.Slots.{known_at}
use Rattle.nm_outcome_laws.proofs.records.Tables.{known_final}

-- who is settled is known
settled_knows : (stage : Stage) (r : ResyncStage) → is_settled stage ≡ true → knows_at stage r ≡ Some (has_kept stage)
settled_knows stage r s = grind (arith, nat_tests)

known_confirmed : (kept : Bool) (outcome : Outcome) → is_known_as kept outcome ≡ true → kept ≡ is_confirmed outcome
known_confirmed kept outcome k = grind (arith, nat_tests)

module _ (outs : ℕ → Option Outcome) (change members : ℕ) (entries : List Entry) (slot : SlotState)
    (in_step : IsInStep change members entries slot) (all : AllKnown outs slot) (commits : to_commit slot.course.verdict ≡ true)
    (kept : DeviceMask) (ends : next_action slot.course ≡ Finish kept)
    (place : ℕ) (seat : Seat) (here : slice_get slot.course.seats place ≡ Some seat) (member : seat.is_member ≡ true)
    (side : SideState) (there : slice_get slot.sides place ≡ Some side) (outcome : Outcome) (has : outs place ≡ Some outcome) where
  may : MayEnd slot.course kept
  may = (acts change members entries slot in_step).finishes kept ends

  told : IsTold seat side outcome
  told =
      subst (IsKnown slot.course.verdict seat side) has (known_at outs change members entries slot in_step all place seat side here there)
      commits member

  known : is_known_as (has_kept seat.stage) outcome ≡ true
  known =
      told.known (has_kept seat.stage)
      (settled_knows seat.stage side.resync.stage
      (listed (λ one. one.is_member ≡ true → is_settled one.stage ≡ true) slot.course.seats may.settled place seat here member))

  pub finishes_so : mask_contains kept.0 (place + 1) ≡ is_confirmed outcome
  finishes_so =
      may.kept_them place seat here ∙ ap (λ b. b && has_kept seat.stage) member
      ∙ known_confirmed (has_kept seat.stage) outcome known

  pub finishes_final : is_final outcome ≡ true
  finishes_final = known_final (has_kept seat.stage) outcome known
