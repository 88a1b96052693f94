-- A run brings each change set by its own edit, and once at most.
use Rattle.std.proofs.Common.{◌≡◌, ℕ, zero, suc, ◌+◌, ◌≤◌, ◌<◌, true, false, List, [], ◌∷◌, length, Option, Some, None, is_some, slice_get, refl, subst, arith}
use Rattle.std.proofs.lemmas.Option.{slice_get_within}
use Rattle.nm_base.specs.Token.{token_of}
use Rattle.nm_proto.specs.declared.plan.ChangePlan.{ChangePlan}
use Rattle.nm_proto.specs.declared.plan.Event.{Event}
use Rattle.nm_proto.specs.Content.{Meaning, Laws}
use Rattle.nm_proto.specs.Plan.{devices_in}
use Rattle.nm_device.specs.Device.{fresh_device}
use Rattle.nm_history.specs.History.{RecordedState}
use Rattle.nm_device_laws.specs.Token.{commits_done}
use Rattle.nm_manager.specs.Slot.{SideState, SlotState}
use Rattle.nm_world.specs.World.{Setting, WorldState, run, core_of, start}
use Rattle.nm_safety.specs.Safe.{IsProper}
use Rattle.nm_safety.specs.Along.{IsAlong}
use Rattle.nm_safety.specs.Support.{IsKept, IsSupported, KeptAt}
use Rattle.nm_safety.proofs.Devices.{run_keeps}
use Rattle.nm_safety.proofs.Lists.{some_is}
use Rattle.nm_safety.proofs.Sound.{first_at}
use Rattle.nm_safety.proofs.Start.{begin_supported}
use Rattle.nm_commit_laws.specs.Brings.{BringsAlone, BringsOwn}
use Rattle.nm_commit_laws.specs.BringsSupport.{OfHistory}
use Rattle.nm_commit_laws.proofs.brings.Others.{pair_here}
use Rattle.nm_commit_laws.proofs.brings.Runs.{IsBringing, run_brought}
use Rattle.nm_commit_laws.proofs.brings.Start.{begin_brought}

-- what stands at a place of a list that is long enough
there_by : {A : Type 0} (xs : List A) (n j : ℕ) → length xs ≡ n → j < n → is_some (slice_get xs j) ≡ true
there_by [] n j e h = absurd (omega (arith, e, h))
there_by (x ∷ xs) n zero e h = refl
there_by (x ∷ xs) n (suc j) e h = there_by xs (length xs) j refl (omega (arith, e, h))

module _ {Config TheEdit Node : Type 0} (m : Meaning Config TheEdit Node) (setting : Setting TheEdit) (w : WorldState Config Node)
    (s : IsSupported m setting (core_of w)) (place : ℕ) (plan : ChangePlan) (planned : slice_get setting.plans place ≡ Some plan)
    (device : ℕ) (small : device < 32) (r : RecordedState Config Node) (here : slice_get w.devices device ≡ Some r) where
  one_most : (done way sent : ℕ) → done + way ≤ sent → sent ≤ 1 → done ≤ 1
  one_most done way sent a b = omega (arith, a, b)

  once_on : (slot : SlotState) → IsKept (suc place) (devices_in plan.edits) w.entries s.owners w.devices slot → (side : Option SideState)
      → slice_get slot.sides device ≡ side → is_some side ≡ true → commits_done (token_of (suc place)) r.history ≤ 1
  once_on slot k None at some = absurd (let g : false ≡ true = some in cc)
  once_on slot k (Some side) at some =
      pair_here m setting (suc place) (devices_in plan.edits) w.entries s.owners w.devices slot k device r here side at
      (commits_done (token_of (suc place)) r.history ≤ 1)
      (λ seat seated pair. one_most (commits_done (token_of (suc place)) r.history) _ _ pair.first.count pair.first.once)

  once_by : (slot : Option SlotState) → KeptAt (suc place) w.entries s.owners w.devices (Some plan) slot
      → commits_done (token_of (suc place)) r.history ≤ 1
  once_by None k = absurd k
  once_by (Some slot) k = once_on slot k (slice_get slot.sides device) refl (there_by slot.sides 32 device k.in_step.sides small)

  pub commits_once : commits_done (token_of (suc place)) r.history ≤ 1
  commits_once =
      once_by (slice_get w.slots place)
      (subst (λ o. KeptAt (suc place) w.entries s.owners w.devices o (slice_get w.slots place)) planned (s.slots place))

-- ---- every run

module _ {Config TheEdit Node : Type 0} (m : Meaning Config TheEdit Node) (laws : Laws m) (setting : Setting TheEdit)
    (running : List Config) (events : List Event) (proper : IsProper {Node = Node} m setting running events) where
  abbrev ran : WorldState Config Node
  ran = run m setting (start setting running) events

  small_at : (device : ℕ) (r : RecordedState Config Node) → slice_get ran.devices device ≡ Some r → device < 32
  small_at device r there =
      some_is r (λ _. device < 32) (slice_get ran.devices device) there
      (run_keeps m setting (λ place _. place < 32) (λ place r event h happens small. small) (start setting running) events
      (first_at (λ place _. place < 32) running
      (λ place first begins. let within : place < length running = slice_get_within running place first begins in omega
      (arith, within, proper.few_devices))) device)

  brought : IsBringing m laws setting proper.edits proper.few proper.strangers running ran
  brought =
      run_brought m laws setting proper.edits proper.few proper.strangers running (start setting running) events proper.given
      (record { before = begin_supported m setting running proper.first; own = begin_brought m setting running })

  pub run_brings : BringsAlone m setting running ran
  run_brings = record {
    own_edits = λ place first r begins here.
        (some_is first (λ one. IsAlong m setting.tables (BringsOwn m setting ran.entries (suc place)) (fresh_device one) r)
        (slice_get running place) begins
        (some_is r (OfHistory m setting running ran.entries place) (slice_get ran.devices place) here (brought.own.devices place))).along;
    once = λ place plan device r planned here.
        commits_once m setting ran brought.before place plan planned device (small_at device r here) r here;
  }
