-- All pairs of one change set (this project's own): the device of number d stands at place d - 1, as its seat and its side do.
use Rattle.std.specs.Prelude.{ℕ, List, Option, Some, None, slice_get}
use Rattle.nm_proto.specs.declared.journal.Verdict.{Verdict}
use Rattle.nm_history.specs.History.{RecordedState}
use Rattle.nm_decider.specs.declared.seat.Seat.{Seat}
use Rattle.nm_manager.specs.Slot.{SideState, SlotState}
use Rattle.nm_safety.specs.Pair.{PairHolds}

module _ {Config Node : Type 0} where
  -- the pair at a place holds, where there is a device
  abbrev pub HoldsAt : ℕ → Option Verdict → Option Seat → Option SideState → Option (RecordedState Config Node) → Type 0
  HoldsAt change decided seat side None = Unit {0}
  HoldsAt change decided None side (Some r) = Unit {0}
  HoldsAt change decided (Some seat) None (Some r) = Unit {0}
  HoldsAt change decided (Some seat) (Some side) (Some r) = PairHolds change decided seat side.wire r

  -- each pair of the change set holds, under this verdict
  abbrev pub AllHold : ℕ → Option Verdict → SlotState → List (RecordedState Config Node) → Type 0
  AllHold change decided slot devices =
      (place : ℕ) → HoldsAt change decided (slice_get slot.course.seats place) (slice_get slot.sides place) (slice_get devices place)
