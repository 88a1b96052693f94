-- What is kept of each device of a change set, by its seat and its side of the manager (this project's own).
use Rattle.std.specs.Prelude.{ℕ, ◌≡◌, ◌+◌, Option, Some, None, slice_get}
use Rattle.nm_proto.specs.declared.journal.Verdict.{Verdict}
use Rattle.nm_decider.specs.declared.seat.Seat.{Seat}
use Rattle.nm_manager.specs.Slot.{SideState, SlotState}
use Rattle.nm_safety.specs.Step.{GoesWith, IsSeated}

-- a seat and its side, by the place of the device, under a verdict
abbrev pub OfPair : Type 1
OfPair = ℕ → Option Verdict → Seat → SideState → Type 0

module _ (Q : OfPair) where
  -- so of a seat and its side, where both are there
  abbrev pub PairAt : ℕ → Option Verdict → Option Seat → Option SideState → Type 0
  PairAt place decided None side = Unit {0}
  PairAt place decided (Some seat) None = Unit {0}
  PairAt place decided (Some seat) (Some side) = Q place decided seat side

  -- each of a change set
  abbrev pub AllPairs : Option Verdict → SlotState → Type 0
  AllPairs decided slot = (place : ℕ) → PairAt place decided (slice_get slot.course.seats place) (slice_get slot.sides place)

-- one of a change set of these devices, and how its seat and its side go together
pub record IsPair (members : ℕ) (slot : SlotState) (place : ℕ) (seat : Seat) (side : SideState) : Type 0 where
  pub here : slice_get slot.course.seats place ≡ Some seat
  pub there : slice_get slot.sides place ≡ Some side
  pub seated : IsSeated members (place + 1) seat
  pub goes : GoesWith slot.course.verdict seat side
