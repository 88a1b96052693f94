-- A world that is supported is safe.
use Rattle.std.proofs.Common.{◌≡◌, ◌∙◌, ℕ, zero, suc, ◌+◌, ◌-◌, ◌≤◌, ◌<◌, Bool, true, false, List, [], ◌∷◌, length, Option, Some, None, IfSome, is_some, slice_get, unwrap_or, refl, sym, ap, subst, arith}
use Rattle.std.proofs.lemmas.Option.{slice_get_within}
use Rattle.nm_base.specs.Mask.{mask_contains}
use Rattle.nm_base.specs.Token.{token_of}
use Rattle.nm_proto.specs.declared.journal.Verdict.{Verdict}
use Rattle.nm_proto.specs.declared.journal.Verdict.TheVariants.{Commit, Abort}
use Rattle.nm_proto.specs.declared.plan.ChangePlan.{ChangePlan}
use Rattle.nm_proto.specs.declared.plan.Event.{Event}
use Rattle.nm_proto.specs.Content.{Meaning, Laws}
use Rattle.nm_proto.specs.Plan.{devices_in}
use Rattle.nm_history.specs.declared.outcome.Outcome.TheVariants.{Undone}
use Rattle.nm_history.specs.declared.outcome.Undoing.{Undoing}
use Rattle.nm_history.specs.declared.outcome.Undoing.TheVariants.{Cancel, End, Timer, Restart}
use Rattle.nm_history.specs.Outcome.{outcome_of}
use Rattle.nm_history.specs.History.{RecordedState}
use Rattle.nm_recovery.specs.Recovery.{verdict_in}
use Rattle.nm_decider.specs.declared.seat.Seat.{Seat}
use Rattle.nm_wire.specs.Link.{LinkState, fresh_link}
use Rattle.nm_wire.specs.Words.{commits_sent}
use Rattle.nm_manager.specs.Slot.{SideState, SlotState, to_commit, wire_of_side}
use Rattle.nm_manager.specs.Manager.{wire_of, wire_in}
use Rattle.nm_safety.specs.Pair.{PairHolds, EachLink, OutcomeFits, is_never, is_confirmed, is_cancelled, is_ended, to_abort}
use Rattle.nm_safety.specs.Slots.{HoldsAt}
use Rattle.nm_safety.specs.Step.{IsSeated}
use Rattle.nm_safety.proofs.Basics.{never}
use Rattle.nm_safety.proofs.PairSteps.{pair_at}
use Rattle.nm_world.specs.World.{Setting, CoreState, manager_in, core_of, run, start}
use Rattle.nm_safety.specs.Safe.{KeepsDecision, commits_over, is_abort, is_unasked, IsProper, IsSafe}
use Rattle.nm_safety.specs.Support.{IsKept, KeptAt, IsSupported}
use Rattle.nm_safety.proofs.Lists.{some_is, to_some}
use Rattle.nm_safety.proofs.Devices.{run_keeps}
use Rattle.nm_safety.proofs.Sound.{first_at, run_sound}
use Rattle.nm_safety.proofs.Start.{begin_supported}
use Rattle.nm_safety.proofs.Runs.{run_supported}

-- ---- one device of a change set

commits : (v : Option Verdict) → to_commit v ≡ true → v ≡ Some Commit
commits None e = never e
commits (Some Commit) e = refl
commits (Some (Abort why)) e = never e

aborts : (v : Option Verdict) → to_abort v ≡ true → is_abort v ≡ true
aborts None e = never e
aborts (Some Commit) e = never e
aborts (Some (Abort why)) e = refl

module _ {Config Node : Type 0} (change : ℕ) (decided : Option Verdict) (is_device : Bool) (r : RecordedState Config Node) (fits : OutcomeFits (token_of change) decided is_device r) where
  unasked : decided ≡ Some Commit → (by : Undoing) → outcome_of (token_of change) r.history ≡ Undone by → is_unasked by ≡ true
  unasked commit Timer e = refl
  unasked commit Restart e = refl
  unasked commit Cancel e = absurd (let g : false ≡ true = sym (ap to_abort commit) ∙ fits.cancelled (ap is_cancelled e) in cc)
  unasked commit End e = absurd (let g : true ≡ false = sym (ap is_ended e) ∙ fits.ended in cc)

  fits_keeps : KeepsDecision change decided is_device r.history
  fits_keeps = record {
    confirmed_only_if_journalled = λ e. commits decided (fits.confirmed (ap is_confirmed e));
    committed_everywhere = λ commit member e. let g : true ≡ false = sym (ap is_never e) ∙ fits.committed (ap to_commit commit) member in cc;
    undone_by_timer_or_restart = unasked;
    cancelled_only_if_aborted = λ e. aborts decided (fits.cancelled (ap is_cancelled e));
  }

none_over : (links : List LinkState) → ((j : ℕ) → IfSome (slice_get links j) (λ link. commits_sent link ≡ 0)) → commits_over links ≡ 0
none_over [] none = refl
none_over (link ∷ links) none = sum (commits_sent link) (commits_over links) (none 0) (none_over links (λ j. none (suc j)))
  where
    sum : (a b : ℕ) → a ≡ 0 → b ≡ 0 → a + b ≡ 0
    sum a b ea eb = omega (arith, ea, eb)

once_over : (decided : Option Verdict) (links : List LinkState) → ((j : ℕ) → IfSome (slice_get links j) (EachLink decided j)) → commits_sent (unwrap_or (slice_get links 0) fresh_link) ≤ 1 → commits_over links ≤ 1
once_over decided [] each once = omega arith
once_over decided (link ∷ links) each once =
    sum (commits_sent link) (commits_over links) once
    (none_over links
    (λ j. to_some (λ one. commits_sent one ≡ 0) (slice_get links j) (λ one there. (some_is one (EachLink decided (suc j)) (slice_get links j) there (each (suc j))).later (positive j))))
  where
    sum : (a b : ℕ) → a ≤ 1 → b ≡ 0 → a + b ≤ 1
    sum a b ea eb = omega (arith, ea, eb)

    positive : (j : ℕ) → 1 ≤ suc j
    positive j = omega arith

-- what stands at a place of a list that is long enough
there_by : {A : Type 0} (xs : List A) (n j : ℕ) → length xs ≡ n → j < n → is_some (slice_get xs j) ≡ true
there_by [] n j e h = absurd (omega (arith, e, h))
there_by (x ∷ xs) n zero e h = refl
there_by (x ∷ xs) n (suc j) e h = there_by xs (length xs) j refl (omega (arith, e, h))

module _ {Config TheEdit Node : Type 0} (m : Meaning Config TheEdit Node) (setting : Setting TheEdit) (w : CoreState Config Node) (s : IsSupported m setting w) (place : ℕ) (plan : ChangePlan)
    (planned : slice_get setting.plans place ≡ Some plan) (device : ℕ) (small : device < 32) (r : RecordedState Config Node) (here : slice_get w.devices device ≡ Some r) where
  abbrev members : ℕ
  members = devices_in plan.edits

  abbrev change : ℕ
  change = suc place

  -- the pair, with its seat and its side
  record IsPair : Type 0 where
    slot : SlotState
    seat : Seat
    side : SideState
    there : slice_get w.slots place ≡ Some slot
    at_side : slice_get slot.sides device ≡ Some side
    seated : IsSeated members (device + 1) seat
    holds : PairHolds change (verdict_in change w.entries) seat side.wire r

  pair_with : (slot : SlotState) → slice_get w.slots place ≡ Some slot → IsKept change members w.entries s.owners w.devices slot → (seat : Option Seat) → slice_get slot.course.seats device ≡ seat
      → (side : Option SideState) → slice_get slot.sides device ≡ side → is_some side ≡ true → IsPair
  pair_with slot there k seat seated None at_side some = never some
  pair_with slot there k None seated (Some side) at_side some = absurd (pair_at change members w.entries slot k.in_step device None (Some side) seated at_side)
  pair_with slot there k (Some seat) seated (Some side) at_side some = record {
    slot = slot;
    seat = seat;
    side = side;
    there = there;
    at_side = at_side;
    seated = (pair_at change members w.entries slot k.in_step device (Some seat) (Some side) seated at_side).0;
    holds =
        subst (λ o. HoldsAt change (verdict_in change w.entries) (Some seat) (Some side) o) here
        (subst (λ o. HoldsAt change (verdict_in change w.entries) (Some seat) o (slice_get w.devices device)) at_side
        (subst (λ o. HoldsAt change (verdict_in change w.entries) o (slice_get slot.sides device) (slice_get w.devices device)) seated (k.holds device)));
  }

  pair_in : (slot : Option SlotState) → slice_get w.slots place ≡ slot → KeptAt change w.entries s.owners w.devices (Some plan) slot → IsPair
  pair_in None there k = absurd k
  pair_in (Some slot) there k =
      pair_with slot there k (slice_get slot.course.seats device) refl (slice_get slot.sides device) refl (there_by slot.sides 32 device k.in_step.sides small)

  pair_here : IsPair
  pair_here = pair_in (slice_get w.slots place) refl (subst (λ o. KeptAt change w.entries s.owners w.devices o (slice_get w.slots place)) planned (s.slots place))

  next_of : (n : ℕ) → n + 1 ≡ suc n
  next_of n = omega arith

  less_one : (n : ℕ) → n ≡ suc n - 1
  less_one n = omega arith

  pub decision_kept : KeepsDecision change (verdict_in change w.entries) (mask_contains members (suc device)) r.history
  decision_kept =
      let p : IsPair = pair_here in
      let member : p.seat.is_member ≡ mask_contains members (suc device) = p.seated.member ∙ ap (mask_contains members) (next_of device) in
      subst (λ b. KeepsDecision change (verdict_in change w.entries) b r.history) member (fits_keeps change (verdict_in change w.entries) p.seat.is_member r p.holds.outcome)

  pub commits_once : commits_over (wire_in (manager_in w) change (suc device)).links ≤ 1
  commits_once =
      let p : IsPair = pair_here in
      subst (λ n. commits_over (wire_of (suc device) (slice_get w.slots n)).links ≤ 1) (less_one place)
      (subst (λ o. commits_over (wire_of (suc device) o).links ≤ 1) (sym p.there)
      (subst (λ n. commits_over (wire_of_side (slice_get p.slot.sides n)).links ≤ 1) (less_one device)
      (subst (λ o. commits_over (wire_of_side o).links ≤ 1) (sym p.at_side) (once_over (verdict_in change w.entries) p.side.wire.links p.holds.each p.holds.first.once))))

-- ---- every run

module _ {Config TheEdit Node : Type 0} (m : Meaning Config TheEdit Node) (laws : Laws m) (setting : Setting TheEdit) (running : List Config) (events : List Event) (proper : IsProper {Node = Node} m setting running events) where
  small_at : (device : ℕ) (r : RecordedState Config Node) → slice_get (run m setting (start setting running) events).devices device ≡ Some r → device < 32
  small_at device r there =
      some_is r (λ _. device < 32) (slice_get (run m setting (start setting running) events).devices device) there
      (run_keeps m setting (λ place _. place < 32) (λ place r event h happens small. small) (start setting running) events
      (first_at (λ place _. place < 32) running (λ place first begins. let within : place < length running = slice_get_within running place first begins in omega (arith, within, proper.few_devices))) device)

  supported : IsSupported m setting (core_of (run m setting (start {Node = Node} setting running) events))
  supported = run_supported m laws setting proper.edits proper.few proper.strangers (start setting running) events proper.given (begin_supported m setting running proper.first)

  pub run_is_safe : IsSafe m setting running events (run m setting (start {Node = Node} setting running) events)
  run_is_safe = record {
    sound_devices = run_sound m laws setting running events;
    keeps_decisions = λ place plan device r planned here.
        decision_kept m setting (core_of (run m setting (start setting running) events)) supported place plan planned device (small_at device r here) r here;
    sent_once = λ place plan device r planned here.
        commits_once m setting (core_of (run m setting (start setting running) events)) supported place plan planned device (small_at device r here) r here;
  }
