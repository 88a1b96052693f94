-- After a run no change set that was to be aborted and is ended is pending at any device.
use Rattle.std.proofs.Common.{◌≡◌, ◌∙◌, ℕ, zero, suc, ◌+◌, ◌<◌, Bool, true, false, ◌&&◌, List, [], ◌∷◌, length, Option, Some, None, is_some, slice_get, refl, sym, ap, subst, arith}
use Rattle.std.proofs.lemmas.Option.{slice_get_within}
use Rattle.nm_base.specs.Mask.{mask_contains}
use Rattle.nm_base.specs.Token.{token_of}
use Rattle.nm_proto.specs.declared.journal.Verdict.{Verdict}
use Rattle.nm_proto.specs.declared.journal.Verdict.TheVariants as verdict
use Rattle.nm_proto.specs.declared.plan.ChangePlan.{ChangePlan}
use Rattle.nm_proto.specs.declared.plan.Event.{Event}
use Rattle.nm_proto.specs.Content.{Meaning, Laws}
use Rattle.nm_proto.specs.Plan.{devices_in}
use Rattle.nm_history.specs.Outcome.{is_pending, outcome_of}
use Rattle.nm_history.specs.History.{RecordedState}
use Rattle.nm_recovery.specs.Recovery.{is_ended_in, verdict_in}
use Rattle.nm_decider.specs.declared.seat.Seat.{Seat}
use Rattle.nm_manager.specs.Slot.{SideState, SlotState}
use Rattle.nm_world.specs.World.{Setting, WorldState, core_of, run, start}
use Rattle.nm_world.specs.Drain.{drained}
use Rattle.nm_safety.specs.Keeping.{AreKept}
use Rattle.nm_safety.specs.Pair.{to_abort}
use Rattle.nm_safety.specs.Safe.{IsProper, is_abort}
use Rattle.nm_safety.specs.Support.{IsKept, IsSupported, KeptAt}
use Rattle.nm_safety.proofs.Devices.{run_keeps as devices_keep}
use Rattle.nm_safety.proofs.Drained.{drained_too}
use Rattle.nm_safety.proofs.EachPair as each_pair
use Rattle.nm_safety.proofs.Lists.{some_is}
use Rattle.nm_safety.proofs.PairSteps.{pair_at}
use Rattle.nm_safety.proofs.Sound.{first_at}
use Rattle.nm_commit_laws.proofs.refuses.Alone.{begin_refusing}
use Rattle.nm_outcome_laws.specs.Aborts.{AbortsAreOver}
use Rattle.nm_outcome_laws.specs.AbortsSupport.{AbortedPair, AllAborted, IsAborted, OfAborted, OfNone, is_over}
use Rattle.nm_outcome_laws.proofs.aborts.Keeping.{IsAborting, run_aborting}
use Rattle.nm_outcome_laws.proofs.aborts.Start.{begin_aborts}

-- what stands at a place of a list that is long enough
there_by : {A : Type 0} (xs : List A) (n j : ℕ) → length xs ≡ n → j < n → is_some (slice_get xs j) ≡ true
there_by [] n j e h = absurd (omega (arith, e, h))
there_by (x ∷ xs) n zero e h = refl
there_by (x ∷ xs) n (suc j) e h = there_by xs (length xs) j refl (omega (arith, e, h))

aborts_so : (v : Option Verdict) → is_abort v ≡ true → to_abort v ≡ true
aborts_so None e = absurd (let g : false ≡ true = e in cc)
aborts_so (Some verdict.Commit) e = absurd (let g : false ≡ true = e in cc)
aborts_so (Some (verdict.Abort why)) e = refl

both_so : (a b : Bool) → a ≡ true → b ≡ true → (a && b) ≡ true
both_so true b e f = f
both_so false b e f = absurd (let g : false ≡ true = e in cc)

module _ {Config TheEdit Node : Type 0} (m : Meaning Config TheEdit Node) (setting : Setting TheEdit) (w : WorldState Config Node)
    (s : IsSupported m setting (core_of w)) (c : AreKept setting OfAborted OfNone (core_of w))
    (place : ℕ) (plan : ChangePlan) (planned : slice_get setting.plans place ≡ Some plan)
    (over : is_over (suc place) w.entries ≡ true) (device : ℕ) (few : device < 32) (r : RecordedState Config Node)
    (here : slice_get w.devices device ≡ Some r) where
  abbrev members : ℕ
  members = devices_in plan.edits

  abbrev token : List ℕ
  token = token_of (suc place)

  abbrev IsNone : Type 0
  IsNone = is_pending (outcome_of token r.history) ≡ false

  none_with : (slot : SlotState) → IsKept (suc place) members w.entries s.owners w.devices slot
      → AllAborted members (is_over (suc place) w.entries) token w.devices slot → (seat : Option Seat)
      → slice_get slot.course.seats device ≡ seat → (side : Option SideState) → slice_get slot.sides device ≡ side
      → is_some side ≡ true → IsNone
  none_with slot k all seat seated None at_side there = absurd (let g : false ≡ true = there in cc)
  none_with slot k all None seated (Some side) at_side there =
      absurd (pair_at (suc place) members w.entries slot k.in_step device None (Some side) seated at_side)
  none_with slot k all (Some seat) seated (Some side) at_side there =
      let a : IsAborted (mask_contains members (device + 1)) (is_over (suc place) w.entries) slot.course.verdict token seat side r =
      some_is r (IsAborted (mask_contains members (device + 1)) (is_over (suc place) w.entries) slot.course.verdict token seat side)
      (slice_get w.devices device) here
      (each_pair.known_at (AbortedPair members (is_over (suc place) w.entries) token w.devices) (suc place) members w.entries slot k.in_step all device
      seat side seated at_side) in
      (a.spent.ended over).outcome

  none_in : (slot : Option SlotState) → slice_get w.slots place ≡ slot → KeptAt (suc place) w.entries s.owners w.devices (Some plan) slot
      → IsNone
  none_in None there k = absurd k
  none_in (Some slot) there k =
      none_with slot k
      (some_is slot (AllAborted members (is_over (suc place) w.entries) token w.devices) (slice_get w.slots place) there
      (c.slots place plan planned)) (slice_get slot.course.seats device) refl (slice_get slot.sides device) refl
      (there_by slot.sides 32 device k.in_step.sides few)

  none_pending : IsNone
  none_pending =
      none_in (slice_get w.slots place) refl
      (subst (λ o. KeptAt (suc place) w.entries s.owners w.devices o (slice_get w.slots place)) planned (s.slots place))

module _ {Config TheEdit Node : Type 0} (m : Meaning Config TheEdit Node) (laws : Laws m) (setting : Setting TheEdit)
    (running : List Config) (events : List Event) (proper : IsProper {Node = Node} m setting running events) where
  abbrev ran : WorldState Config Node
  ran = run m setting (start setting running) events

  came : IsAborting m laws setting proper.edits proper.few proper.strangers running ran
  came =
      run_aborting m laws setting proper.edits proper.few proper.strangers running (start setting running) events proper.given
      (record { before = begin_refusing m laws setting running events proper; own = begin_aborts setting running })

  few_at : (device : ℕ) (r : RecordedState Config Node) → slice_get ran.devices device ≡ Some r → device < 32
  few_at device r there =
      some_is r (λ _. device < 32) (slice_get ran.devices device) there
      (devices_keep m setting (λ place _. place < 32) (λ place one event h happens small. small) (start setting running) events
      (first_at (λ place _. place < 32) running
      (λ place first begins.
      let within : place < length running = slice_get_within running place first begins in omega (arith, within, proper.few_devices))) device)

  pub run_is_over : AbortsAreOver setting ran
  run_is_over = record {
    over = λ place plan planned ended aborts device r here waits.
        let over_now : is_over (suc place) ran.entries ≡ true =
        both_so (is_ended_in (suc place) ran.entries) (to_abort (verdict_in (suc place) ran.entries)) ended
        (aborts_so (verdict_in (suc place) ran.entries) aborts) in
        let none : is_pending (outcome_of (token_of (suc place)) r.history) ≡ false =
        none_pending m setting ran came.before.before.before came.own place plan planned over_now device (few_at device r here) r here in
        let g : true ≡ false = sym (ap is_pending waits) ∙ none in
        cc;
  }

pub drained_is_over : {Config TheEdit Node : Type 0} (m : Meaning Config TheEdit Node) (laws : Laws m) (setting : Setting TheEdit)
    (running : List Config) (events : List Event) (steps : ℕ) → IsProper {Node = Node} m setting running events
    → AbortsAreOver setting (drained m setting steps (run m setting (start setting running) events))
drained_is_over m laws setting running events steps proper =
    drained_too m laws setting running (AbortsAreOver setting) (run_is_over m laws setting running) events steps proper
