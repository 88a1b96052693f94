-- A step for a device of a change set does what it does to the pair, where there is one, and else nothing.
use Rattle.std.proofs.Common.{◌≡◌, ℕ, ◌-◌, Option, Some, None, slice_get, refl}
use Rattle.nm_decider.specs.Course.{CourseState}
use Rattle.nm_manager.specs.Slot.{SideState, SlotState, PairStep, SlotStep, side_at, with_pair, unchanged, on_side}
use Rattle.nm_manager.specs.Manager.{ManagerState, Step, idle, with_step, on_slot}

module _ (step : CourseState → SideState → PairStep) (slot : SlotState) (device : ℕ) (T : SlotStep → Type 0) where
  by_side : T (unchanged slot) → ((side : SideState) → slice_get slot.sides (device - 1) ≡ Some side → T (with_pair slot device (step slot.course side)))
      → (found : Option SideState) → slice_get slot.sides (device - 1) ≡ found → T (on_side step slot device found)
  by_side none some None there = none
  by_side none some (Some side) there = some side there

  pub side_reached : T (unchanged slot) → ((side : SideState) → slice_get slot.sides (device - 1) ≡ Some side → T (with_pair slot device (step slot.course side)))
      → T (on_side step slot device (slice_get slot.sides (device - 1)))
  side_reached none some = by_side none some (slice_get slot.sides (device - 1)) refl

module _ (step : CourseState → SideState → PairStep) (state : ManagerState) (change device : ℕ) (T : Step → Type 0) where
  by_slot : T (idle state)
      → ((slot : SlotState) → slice_get state.slots (change - 1) ≡ Some slot → T (with_step state change (on_side step slot device (side_at slot device))))
      → (found : Option SlotState) → slice_get state.slots (change - 1) ≡ found → T (on_slot step state change device found)
  by_slot none some None there = none
  by_slot none some (Some slot) there = some slot there

  pub slot_reached : T (idle state)
      → ((slot : SlotState) → slice_get state.slots (change - 1) ≡ Some slot → T (with_step state change (on_side step slot device (side_at slot device))))
      → T (on_slot step state change device (slice_get state.slots (change - 1)))
  slot_reached none some = by_slot none some (slice_get state.slots (change - 1)) refl
