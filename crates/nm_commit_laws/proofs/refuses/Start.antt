-- What every world keeps at its beginning.
use Rattle.std.proofs.Common.{◌≡◌, ◌∙◌, ℕ, zero, suc, false, true, ap, List, [], ◌∷◌, map, replicate, Option, Some, None, IfSome, slice_get, refl, sym}
use Rattle.std.proofs.lemmas.Option.{none-some}
use Rattle.nm_proto.specs.declared.plan.ChangePlan.{ChangePlan}
use Rattle.nm_proto.specs.Content.{Meaning}
use Rattle.nm_proto.specs.Plan.{devices_in}
use Rattle.nm_history.specs.History.{RecordedState, recorded}
use Rattle.nm_decider_stage.specs.declared.stage.Stage.TheVariants.{Live}
use Rattle.nm_decider.specs.declared.seat.Seat.{Seat}
use Rattle.nm_decider.specs.Course.{seat_count, seats_from}
use Rattle.nm_manager.specs.Slot.{SideState, fresh_side, fresh_slot}
use Rattle.nm_manager.specs.Manager.{slots_from}
use Rattle.nm_world.specs.World.{Setting, begin}
use Rattle.nm_safety.specs.Along.{HistoryAt}
use Rattle.nm_safety.specs.Pairs.{PairAt}
use Rattle.nm_safety.proofs.Along.{history_none}
use Rattle.nm_safety.proofs.Sound.{first_at}
use Rattle.nm_safety.proofs.Lists.{all_equal}
use Rattle.nm_commit_laws.specs.Refuses.{LeavesGone}
use Rattle.nm_commit_laws.specs.RefusesSupport.{AreFit, FirstPair, IsFit, IsFitted, IsGuarded}

both_if : {A : Type 0} (P Q : A → Type 0) (found : Option A) → IfSome found P → IfSome found Q → IfSome found (λ a. P a × Q a)
both_if P Q None p q = tt
both_if P Q (Some a) p q = (p, q)

module _ {Config TheEdit Node : Type 0} (m : Meaning Config TheEdit Node) (setting : Setting TheEdit) (running : List Config) where
  abbrev devices : List (RecordedState Config Node)
  devices = map recorded running

  -- the sides are fresh
  fresh_first : (place : ℕ) (seat : Option Seat) (side : Option SideState) → IfSome side (λ one. one ≡ fresh_side) → PairAt (FirstPair devices) place None seat side
  fresh_first place None side t = tt
  fresh_first place (Some seat) None t = tt
  fresh_first place (Some seat) (Some side) t = λ has first number current. absurd (none-some number (ap (λ one. one.wire.current) (sym t) ∙ current))

  fresh_fits : (plan : ChangePlan) (change members : ℕ) → IsFitted plan devices (fresh_slot change members)
  fresh_fits plan change members = record {
    course = λ j.
        fresh_first j (slice_get (seats_from members (Live 0) 1 seat_count) j) (slice_get (replicate seat_count fresh_side) j)
        (all_equal (λ one. one ≡ fresh_side) seat_count fresh_side refl j);
    links =
        λ d. all_equal (λ side. (place : ℕ)
        → IfSome (slice_get side.wire.links place) (IsFit plan (slice_get devices d) place)) seat_count fresh_side (λ place. tt) d;
  }

  slots_fit : (plan : ChangePlan) (plans : List ChangePlan) (base place : ℕ) → IfSome (slice_get (slots_from base plans) place) (IsFitted plan devices)
  slots_fit plan [] base place = tt
  slots_fit plan (first ∷ plans) base zero = fresh_fits plan base (devices_in first.edits)
  slots_fit plan (first ∷ plans) base (suc place) = slots_fit plan plans (suc base) place

  -- nothing waits
  fresh_guarded : (place : ℕ) → IfSome (slice_get devices place) (λ r. IsGuarded setting.plans r.device)
  fresh_guarded =
      first_at {Node = Node} (λ place r. IsGuarded setting.plans r.device) running
      (λ place first begins. record { apart = tt; timed = λ at plan planned waits. absurd (let g : false ≡ true = waits in cc) })

  pub begin_fits : AreFit {Node = Node} m setting running (begin setting running)
  begin_fits = record {
    slots = λ place plan planned. slots_fit plan setting.plans 1 place;
    devices = λ place.
        both_if {A = RecordedState Config Node} (λ r. IsGuarded setting.plans r.device) (HistoryAt m setting.tables (LeavesGone m setting) running place) (slice_get devices place)
        (fresh_guarded place) (history_none m setting.tables (LeavesGone m setting) running place);
  }
