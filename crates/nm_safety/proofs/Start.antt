-- What every world keeps at its beginning.
use Rattle.std.proofs.Common.{◌≡◌, inl, ℕ, zero, suc, ◌+◌, ◌≤◌, true, false, List, [], ◌∷◌, length, map, replicate, Option, Some, None, IfSome, slice_get, refl, sym, ap, subst, arith}
use Rattle.std.proofs.lemmas.Option.{none-some}
use Rattle.nm_base.specs.Token.{token_of}
use Rattle.nm_proto.specs.declared.plan.ChangePlan.{ChangePlan}
use Rattle.nm_proto.specs.Content.{Meaning}
use Rattle.nm_proto.specs.Plan.{devices_in}
use Rattle.nm_device.specs.Device.{fresh_device}
use Rattle.nm_history.specs.History.{RecordedState, recorded}
use Rattle.nm_device_laws.specs.Telling.{TellsToken}
use Rattle.nm_device_laws.proofs.Numbers.{fresh_numbered}
use Rattle.nm_device_laws.proofs.Tells.{pending_told_first, token_told_first}
use Rattle.nm_decider_stage.specs.declared.stage.Stage.TheVariants.{Live}
use Rattle.nm_decider.specs.declared.seat.Seat.{Seat}
use Rattle.nm_decider.specs.Course.{seat_of, seats_from, seat_count}
use Rattle.nm_manager.specs.Slot.{SideState, fresh_side, fresh_slot}
use Rattle.nm_manager.specs.Manager.{slots_from}
use Rattle.nm_safety.specs.Slots.{AllHold, HoldsAt}
use Rattle.nm_safety.proofs.Begun.{fresh_pair}
use Rattle.nm_safety.proofs.PairSteps.{fresh_stays}
use Rattle.nm_world.specs.World.{Setting, IsFirst, begin, given_on}
use Rattle.nm_safety.specs.Support.{Owners, IsLinked, IsKept, KeptAt, IsDevice, IsOperator, IsSupported}
use Rattle.nm_safety.proofs.Lists.{all_equal, some_is, to_some}
use Rattle.nm_safety.proofs.Sound.{first_at}

-- nobody has a session
abbrev pub nobody : ℕ → Owners
nobody device session = None

seats_within : (members device count j : ℕ) → IfSome (slice_get (seats_from members (Live 0) device count) j) (λ one. one ≡ seat_of members (Live 0) (device + j))
unfolding seats_from
seats_within members device zero j = tt
seats_within members device (suc count) zero = ap (seat_of members (Live 0)) (here device)
  where
    here : (device : ℕ) → device ≡ device + 0
    here device = omega arith
seats_within members device (suc count) (suc j) =
    subst (λ n. IfSome (slice_get (seats_from members (Live 0) (device + 1) count) j) (λ one. one ≡ seat_of members (Live 0) n)) (later device j) (seats_within members (device + 1) count j)
  where
    later : (device j : ℕ) → device + 1 + j ≡ device + suc j
    later device j = omega arith

module _ {Config : Type 0} (Node : Type 0) (change members : ℕ) (running : List Config) where
  abbrev devices : List (RecordedState Config Node)
  devices = map recorded running

  fresh_at : (j : ℕ) (seat : Option Seat) (side : Option SideState) (r : Option (RecordedState Config Node)) → IfSome seat (λ one. one ≡ seat_of members (Live 0) (1 + j)) → IfSome side (λ one. one ≡ fresh_side)
      → IfSome r (λ one. (config : Config) × (one ≡ recorded config)) → HoldsAt change None seat side r
  fresh_at j seat side None s t u = tt
  fresh_at j None side (Some r) s t u = tt
  fresh_at j (Some seat) None (Some r) s t u = tt
  fresh_at j (Some seat) (Some side) (Some r) s t u =
      subst (λ one. HoldsAt change None (Some one) (Some side) (Some r)) (sym s)
      (subst (λ one. HoldsAt change None (Some (seat_of members (Live 0) (1 + j))) (Some one) (Some r)) (sym t)
      (subst (λ one. HoldsAt change None (Some (seat_of members (Live 0) (1 + j))) (Some fresh_side) (Some one)) (sym u.1) (fresh_pair change members (1 + j) u.0)))

  fresh_holds : AllHold change None (fresh_slot change members) devices
  fresh_holds j =
      fresh_at j (slice_get (seats_from members (Live 0) 1 seat_count) j) (slice_get (replicate seat_count fresh_side) j) (slice_get devices j)
      (seats_within members 1 seat_count j) (all_equal (λ one. one ≡ fresh_side) seat_count fresh_side refl j)
      (first_at (λ place one. (config : Config) × (one ≡ recorded config)) running (λ place first there. (first, refl)) j)

  pub fresh_kept : IsKept change members [] nobody devices (fresh_slot change members)
  fresh_kept = record {
    numbered = refl;
    in_step = fresh_stays change members [] refl;
    known = inl refl;
    holds = fresh_holds;
    linked = λ d. all_equal (λ side. (place : ℕ) → IfSome (slice_get side.wire.links place) (IsLinked change [] (nobody d) (slice_get devices d) place)) seat_count fresh_side (λ place. tt) d;
    tells = λ d. first_at (λ place one. TellsToken (token_of change) one) running (λ place first there. token_told_first {Node = Node} (token_of change) (recorded first) first refl) d;
  }

module _ {Config : Type 0} (Node : Type 0) (running : List Config) where
  slots_kept : (plans : List ChangePlan) (base place : ℕ) → KeptAt {Node = Node} (base + place) [] nobody (map recorded running) (slice_get plans place) (slice_get (slots_from base plans) place)
  slots_kept [] base place = tt
  slots_kept (plan ∷ plans) base zero =
      subst (λ c. IsKept {Node = Node} c (devices_in plan.edits) [] nobody (map recorded running) (fresh_slot base (devices_in plan.edits))) (here base) (fresh_kept Node base (devices_in plan.edits) running)
    where
      here : (base : ℕ) → base ≡ base + 0
      here base = omega arith
  slots_kept (plan ∷ plans) base (suc place) =
      subst (λ c. KeptAt {Node = Node} c [] nobody (map recorded running) (slice_get plans place) (slice_get (slots_from (suc base) plans) place)) (later base place) (slots_kept plans (suc base) place)
    where
      later : (base place : ℕ) → suc base + place ≡ base + suc place
      later base place = omega arith

none_given : (n place : ℕ) (session : ℕ) → given_on (replicate n None) place ≡ Some session → ⊥
none_given zero place session e = absurd (none-some session e)
none_given (suc n) zero session e = absurd (none-some session e)
none_given (suc n) (suc place) session e = none_given n place session e

module _ {Config TheEdit Node : Type 0} (m : Meaning Config TheEdit Node) (setting : Setting TheEdit) (running : List Config) (firsts : (place : ℕ) → IfSome (slice_get running place) (IsFirst m)) where
  device_first : (place : ℕ) (first : Config) → slice_get running place ≡ Some first → IsDevice {Node = Node} m (nobody place) (recorded first)
  device_first place first there =
      let is : IsFirst m first = some_is first (IsFirst m) (slice_get running place) there (firsts place) in
      record {
        numbered = fresh_numbered (fresh_device first) first refl;
        belong = record { stores_belong = record { running = is.belongs; candidate = tt }; before_belongs = tt };
        tells = λ token. pending_told_first {Node = Node} token (recorded first) first refl;
        users = λ session e. absurd (let g : false ≡ true = e in cc);
        fresh = λ session above. refl;
      }

  pub begin_supported : IsSupported {Node = Node} m setting (begin setting running)
  begin_supported = record {
    owners = nobody;
    entries = λ change. record { begun = λ e. refl; ended = λ e. absurd (let g : false ≡ true = e in cc) };
    devices = first_at (λ place r. IsDevice m (nobody place) r) running device_first;
    slots = λ place.
        subst (λ c. KeptAt {Node = Node} c [] nobody (map recorded running) (slice_get setting.plans place) (slice_get (slots_from 1 setting.plans) place)) (next_of place) (slots_kept Node running setting.plans 1 place);
    operators = all_equal (IsOperator {Node = Node} nobody (map recorded running)) (length setting.users) (replicate (length running) None)
        (λ d.
        to_some (λ r. (session : ℕ) → given_on (replicate (length running) None) d ≡ Some session → (nobody d session ≡ None) × (session ≤ r.device.sessions.last)) (slice_get (map recorded running) d)
        (λ r there session e. absurd (none_given (length running) d session e)));
  }
    where
      next_of : (place : ℕ) → 1 + place ≡ suc place
      next_of place = omega arith
