-- What every run keeps, from its beginning.
use Rattle.std.proofs.Common.{◌≡◌, ℕ, zero, suc, ◌+◌, ◌≤◌, true, false, List, [], ◌∷◌, length, map, replicate, Option, None, IfSome, is_some, slice_get, refl, subst, arith}
use Rattle.nm_proto.specs.declared.plan.ChangePlan.{ChangePlan}
use Rattle.nm_proto.specs.declared.plan.Event.{Event}
use Rattle.nm_proto.specs.Content.{Meaning, Laws}
use Rattle.nm_proto.specs.Plan.{devices_in}
use Rattle.nm_history.specs.History.{recorded}
use Rattle.nm_decider_stage.specs.declared.stage.Stage.TheVariants.{Live}
use Rattle.nm_decider.specs.Course.{seat_count}
use Rattle.nm_manager.specs.Slot.{fresh_slot, fresh_side}
use Rattle.nm_manager.specs.Manager.{slots_from}
use Rattle.nm_world.specs.World.{Setting, WorldState, start, world_step, core_of, run}
use Rattle.nm_safety.specs.Safe.{IsGiven, IsProper}
use Rattle.nm_safety.proofs.Current.{begin_current}
use Rattle.nm_safety.proofs.Start.{begin_supported}
use Rattle.nm_safety.proofs.Sound.{first_at}
use Rattle.nm_rest_laws.specs.Steady.{IsAble, IsSteady, IsRightSeat, IsOrderly}
use Rattle.nm_rest_laws.proofs.rest.Able.{seats_each}
use Rattle.nm_rest_laws.proofs.rest.Calm.{alone}
use Rattle.nm_rest_laws.proofs.rest.Holding.{AllHeld}
use Rattle.nm_rest_laws.proofs.rest.Lasting.{Lasts, one_lasts, no_steady, IsWide}
use Rattle.nm_safety.proofs.Steps.{run_keeps}
use Rattle.nm_safety.proofs.Lists.{all_equal}

fresh_able : (change members : ℕ) → IsAble change [] (fresh_slot change members)
fresh_able change members = record {
  course = seats_each members (Live 0) (IsRightSeat None None) (λ device member. refl) 1 seat_count;
  wires = all_equal (λ side. IsSteady side.wire) seat_count fresh_side no_steady;
  ready = all_equal (λ side. is_some side.wire.current ≡ true → _) seat_count fresh_side (λ is. absurd (let f : false ≡ true = is in cc));
}

slots_able : (plans : List ChangePlan) (base place : ℕ) → IfSome (slice_get (slots_from base plans) place) (IsAble (base + place) [])
slots_able [] base place = tt
slots_able (plan ∷ plans) base zero = let same : base ≡ base + 0 = omega arith in subst (λ c. IsAble c [] (fresh_slot base (devices_in plan.edits))) same (fresh_able base (devices_in plan.edits))
slots_able (plan ∷ plans) base (suc place) =
    let same : suc base + place ≡ base + suc place = omega arith in
    subst (λ c. IfSome (slice_get (slots_from (suc base) plans) place) (IsAble c [])) same (slots_able plans (suc base) place)

abbrev no_session : ℕ → List (Option ℕ)
no_session n = replicate n None

module _ {Config : Type 0} (Node : Type 0) where
  wide_none : (running : List Config) (j : ℕ) → is_some (slice_get (no_session (length running)) j) ≡ is_some (slice_get (map (recorded {Node = Node}) running) j)
  wide_none [] j = refl
  wide_none (first ∷ running) zero = refl
  wide_none (first ∷ running) (suc j) = wide_none running j

module _ {Config TheEdit Node : Type 0} (m : Meaning Config TheEdit Node) (laws : Laws m) (setting : Setting TheEdit) (running : List Config) (events : List Event) (proper : IsProper {Node = Node} m setting running events) where
  abbrev few : length setting.plans ≤ 64
  few = proper.few

  pub start_lasts : Lasts m laws setting proper.edits few proper.strangers (start setting running)
  start_lasts = record {
    supported = begin_supported m setting running proper.first;
    going = record { slots = λ j. let same : 1 + j ≡ suc j = omega arith in subst (λ c. IfSome (slice_get (slots_from 1 setting.plans) j) (IsAble c [])) same (slots_able setting.plans 1 j); tickets = λ i. tt };
    current = begin_current m setting running;
    held = first_at (λ d r. AllHeld (slots_from 1 setting.plans) (replicate (length setting.users) (replicate (length running) None)) d r) running (λ place first there t is. absurd (let f : false ≡ true = is in cc));
    last = first_at (λ d r. r.device.sessions.last ≤ 0) running (λ place first there. omega arith);
    wide = λ o. all_equal (IsWide (map recorded running)) (length setting.users) (replicate (length running) None) (wide_none Node running) o;
  }

  abbrev LastsIn : WorldState Config Node → Type 0
  LastsIn w = Lasts m laws setting proper.edits few proper.strangers w

  one : (w : WorldState Config Node) (event : Event) → IsGiven setting event → LastsIn w → LastsIn (world_step m setting w event)
  one w event given k = one_lasts m laws setting proper.edits few proper.strangers w event given k

  pub run_lasts : LastsIn (run m setting (start setting running) events)
  run_lasts = run_keeps m setting LastsIn one (start setting running) events proper.given start_lasts

  pub run_orderly : IsOrderly (run m setting (start setting running) events)
  run_orderly =
      let w = run m setting (start setting running) events in
      record { able = run_lasts.going.slots; alone = alone m setting (length w.trail) (core_of w) run_lasts }
