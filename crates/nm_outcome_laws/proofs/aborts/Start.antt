-- What is kept of change sets that are to be aborted, at the beginning.
use Rattle.std.proofs.Common.{◌≡◌, ℕ, zero, suc, ◌+◌, Bool, false, true, List, [], ◌∷◌, replicate, Option, Some, None, IfSome, slice_get, refl, ap}
use Rattle.nm_base.specs.Mask.{mask_contains}
use Rattle.nm_base.specs.Token.{token_of}
use Rattle.nm_proto.specs.declared.plan.ChangePlan.{ChangePlan}
use Rattle.nm_proto.specs.Plan.{devices_in}
use Rattle.nm_history.specs.History.{RecordedState}
use Rattle.nm_decider_stage.specs.declared.stage.Stage.TheVariants.{Live}
use Rattle.nm_decider.specs.declared.seat.Seat.{Seat}
use Rattle.nm_decider.specs.Course.{seat_count, seats_from}
use Rattle.nm_wire.specs.Words.{commits_sent}
use Rattle.nm_manager.specs.Slot.{SideState, fresh_side, fresh_slot}
use Rattle.nm_manager.specs.Manager.{slots_from}
use Rattle.nm_world.specs.World.{Setting, begin}
use Rattle.nm_safety.specs.Keeping.{AreKept}
use Rattle.nm_safety.specs.Pair.{first_link}
use Rattle.nm_safety.specs.Pairs.{PairAt}
use Rattle.nm_safety.proofs.Lists.{all_equal, to_some}
use Rattle.nm_outcome_laws.specs.AbortsSupport.{AbortedPair, AllAborted, IsAborted, IsSpent, OfAborted, OfNone}

module _ {Config Node : Type 0} (devices : List (RecordedState Config Node)) where
  fresh_aborted : (member : Bool) (token : List ℕ) (seat : Seat) (side : SideState) (r : RecordedState Config Node) → side ≡ fresh_side
      → IsAborted member false None token seat side r
  fresh_aborted member token seat side r fresh =
      let spent : IsSpent member false token side.wire r = record {
        stranger = λ e. ap (λ one. commits_sent (first_link one.wire)) fresh;
        ended = λ e. absurd (let g : false ≡ true = e in cc);
      } in
      record { spent = spent; told = λ e. absurd (let g : false ≡ true = e in cc) }

  module _ (members : ℕ) (token : List ℕ) where
    fresh_at : (place : ℕ) (seat : Option Seat) (side : Option SideState) → IfSome side (λ one. one ≡ fresh_side)
        → PairAt (AbortedPair members false token devices) place None seat side
    fresh_at place None side fresh = tt
    fresh_at place (Some seat) None fresh = tt
    fresh_at place (Some seat) (Some side) fresh =
        to_some (IsAborted (mask_contains members (place + 1)) false None token seat side) (slice_get devices place)
        (λ r here. fresh_aborted (mask_contains members (place + 1)) token seat side r fresh)

    fresh_aborts : (change own : ℕ) → AllAborted members false token devices (fresh_slot change own)
    fresh_aborts change own j =
        fresh_at j (slice_get (seats_from own (Live 0) 1 seat_count) j) (slice_get (replicate seat_count fresh_side) j)
        (all_equal (λ one. one ≡ fresh_side) seat_count fresh_side refl j)

  slots_abort : (plan : ChangePlan) (number : ℕ) (plans : List ChangePlan) (base place : ℕ)
      → IfSome (slice_get (slots_from base plans) place) (AllAborted (devices_in plan.edits) false (token_of number) devices)
  slots_abort plan number [] base place = tt
  slots_abort plan number (first ∷ plans) base zero = fresh_aborts (devices_in plan.edits) (token_of number) base (devices_in first.edits)
  slots_abort plan number (first ∷ plans) base (suc place) = slots_abort plan number plans (suc base) place

module _ {Config TheEdit Node : Type 0} (setting : Setting TheEdit) (running : List Config) where
  pub begin_aborts : AreKept {Config = Config} {Node = Node} setting OfAborted OfNone (begin setting running)
  begin_aborts = record {
    slots = λ place plan planned. slots_abort (begin {Node = Node} setting running).devices plan (suc place) setting.plans 1 place;
    devices = λ place. to_some (OfNone [] place) (slice_get (begin {Node = Node} setting running).devices place) (λ r here. tt);
  }
