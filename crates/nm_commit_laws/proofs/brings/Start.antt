-- What every world keeps at its beginning.
use Rattle.std.proofs.Common.{◌≡◌, ℕ, zero, suc, ◌+◌, ◌≤◌, true, false, List, [], ◌∷◌, map, replicate, Option, Some, None, IfSome, slice_get, refl, sym, subst, arith}
use Rattle.nm_proto.specs.declared.ask.Ask.TheVariants as ask
use Rattle.nm_proto.specs.declared.plan.ChangePlan.{ChangePlan}
use Rattle.nm_proto.specs.Content.{Meaning}
use Rattle.nm_proto.specs.Plan.{devices_in}
use Rattle.nm_history.specs.History.{RecordedState, recorded}
use Rattle.nm_decider_stage.specs.declared.stage.Stage.TheVariants.{Live}
use Rattle.nm_decider.specs.declared.seat.Seat.{Seat}
use Rattle.nm_decider.specs.Course.{seat_count, seats_from}
use Rattle.nm_wire.specs.Wire.{no_links}
use Rattle.nm_manager.specs.Slot.{SideState, fresh_side, fresh_slot}
use Rattle.nm_manager.specs.Manager.{slots_from}
use Rattle.nm_world.specs.World.{Setting, begin}
use Rattle.nm_safety.specs.Pair.{first_link}
use Rattle.nm_safety.specs.Pairs.{PairAt}
use Rattle.nm_safety.proofs.Along.{history_none}
use Rattle.nm_safety.proofs.Lists.{all_equal}
use Rattle.nm_commit_laws.specs.Brings.{BringsOwn}
use Rattle.nm_commit_laws.specs.BringsSupport.{AreBrought, CoursePair, IsBrought, IsOnCourse, IsOwnLink}
use Rattle.nm_commit_laws.specs.Course.{steps_known, steps_of}
use Rattle.nm_commit_laws.proofs.brings.Words.{zero_below}

seats_live : (members device count j : ℕ) → IfSome (slice_get (seats_from members (Live 0) device count) j) (λ one. one.stage ≡ Live 0)
unfolding seats_from
seats_live members device zero j = tt
seats_live members device (suc count) zero = refl
seats_live members device (suc count) (suc j) = seats_live members (device + 1) count j

-- nothing was sent
fresh_course : (seat : Seat) → seat.stage ≡ Live 0 → IsOnCourse None seat no_links
fresh_course seat first = record {
  asked = λ e. absurd (let g : None ≡ Some ask.CommitConfirmed = e in cc);
  known = λ none unsent. subst (λ stage. steps_known stage ≤ steps_of (first_link no_links)) (sym first) (omega arith);
  most = λ none live unsent. zero_below (steps_known seat.stage);
}

module _ {Config TheEdit Node : Type 0} (m : Meaning Config TheEdit Node) (setting : Setting TheEdit) (running : List Config) where
  abbrev devices : List (RecordedState Config Node)
  devices = map recorded running

  course_at : (j : ℕ) (seat : Option Seat) (side : Option SideState) → IfSome seat (λ one. one.stage ≡ Live 0)
      → IfSome side (λ one. one ≡ fresh_side) → PairAt (CoursePair None devices) j None seat side
  course_at j None side s t = tt
  course_at j (Some seat) None s t = tt
  course_at j (Some seat) (Some side) s t = λ some. subst (λ (one : SideState). IsOnCourse None seat one.wire) (sym t) (fresh_course seat s)

  fresh_brought : (change base members : ℕ) → IsBrought m setting change [] devices (fresh_slot base members)
  fresh_brought change base members = record {
    numbered = λ other e. absurd (let g : false ≡ true = e in cc);
    course = λ j.
        course_at j (slice_get (seats_from members (Live 0) 1 seat_count) j) (slice_get (replicate seat_count fresh_side) j)
        (seats_live members 1 seat_count j) (all_equal (λ one. one ≡ fresh_side) seat_count fresh_side refl j);
    links =
        λ d. all_equal (λ side. (place : ℕ)
        → IfSome (slice_get side.wire.links place)
        (IsOwnLink m setting [] change (suc d) (slice_get devices d) place)) seat_count fresh_side (λ place. tt) d;
  }

  slots_brought : (change : ℕ) (plans : List ChangePlan) (base place : ℕ)
      → IfSome (slice_get (slots_from base plans) place) (IsBrought m setting change [] devices)
  slots_brought change [] base place = tt
  slots_brought change (plan ∷ plans) base zero = fresh_brought change base (devices_in plan.edits)
  slots_brought change (plan ∷ plans) base (suc place) = slots_brought change plans (suc base) place

  pub begin_brought : AreBrought {Node = Node} m setting running (begin setting running)
  begin_brought = record {
    slots = λ place plan planned. slots_brought (suc place) setting.plans 1 place;
    devices = λ place. history_none m setting.tables (BringsOwn m setting [] (suc place)) running place;
  }
