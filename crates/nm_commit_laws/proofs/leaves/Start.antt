-- What every world keeps at its beginning.
use Rattle.std.proofs.Common.{ℕ, ◌≡◌, zero, suc, false, true, List, [], ◌∷◌, map, replicate, Option, Some, None, IfSome, slice_get, refl, sym, subst}
use Rattle.nm_proto.specs.declared.plan.ChangePlan.{ChangePlan}
use Rattle.nm_proto.specs.Content.{Meaning}
use Rattle.nm_proto.specs.Plan.{devices_in}
use Rattle.nm_history.specs.History.{RecordedState, recorded}
use Rattle.nm_decider_stage.specs.declared.stage.Stage.TheVariants.{Live}
use Rattle.nm_decider.specs.declared.seat.Seat.{Seat}
use Rattle.nm_decider.specs.Course.{seat_count, seats_from}
use Rattle.nm_manager.specs.Slot.{SideState, fresh_side, fresh_slot}
use Rattle.nm_manager.specs.Manager.{slots_from}
use Rattle.nm_world.specs.World.{Setting, begin}
use Rattle.nm_safety.proofs.Along.{history_none}
use Rattle.nm_commit_laws.specs.Leaves.{LeavesAsIs}
use Rattle.nm_commit_laws.specs.LeavesSupport.{AreClean, IsClean, IsHolding, IsKnown, KnownPair}
use Rattle.nm_safety.specs.Pairs.{PairAt}
use Rattle.nm_safety.proofs.Lists.{all_equal}

-- the sides are fresh, and nothing is decided
fresh_known : (place : ℕ) (seat : Option Seat) (side : Option SideState) → IfSome side (λ one. one ≡ fresh_side) → PairAt KnownPair place None seat side
fresh_known place None side t = tt
fresh_known place (Some seat) None t = tt
fresh_known place (Some seat) (Some side) t =
    subst (IsKnown None seat) (sym t) (record { current = tt; acked = λ c member live. absurd (let g : false ≡ true = c in cc) })

module _ {Config TheEdit Node : Type 0} (m : Meaning Config TheEdit Node) (setting : Setting TheEdit) (running : List Config) where
  abbrev devices : List (RecordedState Config Node)
  devices = map recorded running

  fresh_clean : (change members : ℕ) → IsClean devices (fresh_slot change members)
  fresh_clean change members = record {
    course = λ j.
        fresh_known j (slice_get (seats_from members (Live 0) 1 seat_count) j) (slice_get (replicate seat_count fresh_side) j)
        (all_equal (λ one. one ≡ fresh_side) seat_count fresh_side refl j);
    links =
        λ d. all_equal (λ side. (place : ℕ)
        → IfSome (slice_get side.wire.links place) (IsHolding (slice_get devices d))) seat_count fresh_side (λ place. tt) d;
  }

  slots_clean : (plans : List ChangePlan) (base place : ℕ) → IfSome (slice_get (slots_from base plans) place) (IsClean devices)
  slots_clean [] base place = tt
  slots_clean (plan ∷ plans) base zero = fresh_clean base (devices_in plan.edits)
  slots_clean (plan ∷ plans) base (suc place) = slots_clean plans (suc base) place

  pub begin_clean : AreClean {Node = Node} m setting running (begin setting running)
  begin_clean = record {
    slots = λ place plan planned. slots_clean setting.plans 1 place;
    devices = history_none m setting.tables (LeavesAsIs m setting) running;
  }
