-- A world that is brought to rest is one after a longer run, so it is as every run's.
use Rattle.std.proofs.Common.{ℕ, ◌≡◌, zero, suc, List, [], ◌∷◌, ◌++◌, false, Option, Some, None, IfSome, refl, sym, ap, ◌∙◌, subst}
use Rattle.nm_proto.specs.declared.plan.Event.{Event}
use Rattle.nm_proto.specs.declared.plan.Event.TheVariants.{Submit, Turn, Deliver, Answer, Break, Lose, Advance, Restart, Forget, Crash, Renew, Foreign, Leave, Round}
use Rattle.nm_proto.specs.Content.{Meaning, Laws}
use Rattle.nm_world.specs.World.{Setting, WorldState, run, start}
use Rattle.nm_world.specs.Drain.{drain_event, drain_by, drain_step, drained}
use Rattle.nm_world.proofs.Passing.{is_round, other_step, run_then}
use Rattle.nm_world.proofs.ToRest.{IsStep, drain_event_is_step}
use Rattle.nm_safety.specs.Safe.{IsGiven, AreGiven, AreSoundFrom, IsProper, IsSafe}
use Rattle.nm_safety.proofs.Lists.{to_some}
use Rattle.nm_safety.proofs.Sound.{run_sound}
use Rattle.nm_safety.proofs.Safely.{run_is_safe}

-- a step is an event that a scenario may have
pub step_given : {TheEdit : Type 0} (setting : Setting TheEdit) (event : Event) → IsStep event → IsGiven setting event
step_given setting (Submit change) step = absurd step
step_given setting (Turn change) step = step
step_given setting (Deliver change device link) step = step
step_given setting (Answer change device link number) step = step
step_given setting (Break change device) step = step
step_given setting (Lose change device link) step = step
step_given setting (Advance device seconds) step = absurd step
step_given setting (Restart device) step = absurd step
step_given setting (Forget change) step = absurd step
step_given setting Crash step = absurd step
step_given setting (Renew change device) step = absurd step
step_given setting (Foreign operator device request) step = absurd step
step_given setting (Leave operator device) step = step
step_given setting (Round change turns) step = absurd step

-- and no round
pub step_single : (event : Event) → IsStep event → is_round event ≡ false
step_single (Submit change) step = refl
step_single (Turn change) step = refl
step_single (Deliver change device link) step = refl
step_single (Answer change device link number) step = refl
step_single (Break change device) step = refl
step_single (Lose change device link) step = refl
step_single (Advance device seconds) step = refl
step_single (Restart device) step = refl
step_single (Forget change) step = refl
step_single Crash step = refl
step_single (Renew change device) step = refl
step_single (Foreign operator device request) step = refl
step_single (Leave operator device) step = refl
step_single (Round change turns) step = absurd step

-- an event, where there is one, before others
abbrev and_then : Option Event → List Event → List Event
and_then None later = later
and_then (Some event) later = event ∷ later

both_given : {TheEdit : Type 0} (setting : Setting TheEdit) (first later : List Event) → AreGiven setting first → AreGiven setting later → AreGiven setting (first ++ later)
both_given setting [] later given more = more
both_given setting (event ∷ first) later given more = (given.0, both_given setting first later given.1 more)

then_given : {TheEdit : Type 0} (setting : Setting TheEdit) (event : Option Event) (later : List Event) → IfSome event (IsGiven setting) → AreGiven setting later
    → AreGiven setting (and_then event later)
then_given setting None later given more = more
then_given setting (Some event) later given more = (given, more)

module _ {Config TheEdit Node : Type 0} (m : Meaning Config TheEdit Node) (setting : Setting TheEdit) where
  -- the steps that bring a world to rest, so many at most
  abbrev steps_of : ℕ → WorldState Config Node → List Event
  steps_of zero w = []
  steps_of (suc n) w = and_then (drain_event setting w) (steps_of n (drain_step m setting w))

  step_runs : (w : WorldState Config Node) (event : Option Event) (later : List Event) → IfSome event (λ x. is_round x ≡ false)
      → run m setting w (and_then event later) ≡ run m setting (drain_by m setting w event) later
  step_runs w None later single = refl
  step_runs w (Some event) later single = ap (λ v. run m setting v later) (sym (other_step m setting w event single))

  steps_run : (n : ℕ) (w : WorldState Config Node) → run m setting w (steps_of n w) ≡ drained m setting n w
  steps_run zero w = refl
  steps_run (suc n) w =
      let next = drain_step m setting w in
      step_runs w (drain_event setting w) (steps_of n next)
      (to_some (λ x. is_round x ≡ false) (drain_event setting w) (λ x is. step_single x (drain_event_is_step setting w x is))) ∙ steps_run n next

  steps_given : (n : ℕ) (w : WorldState Config Node) → AreGiven setting (steps_of n w)
  steps_given zero w = tt
  steps_given (suc n) w =
      let next = drain_step m setting w in
      then_given setting (drain_event setting w) (steps_of n next)
      (to_some (IsGiven setting) (drain_event setting w) (λ x is. step_given setting x (drain_event_is_step setting w x is))) (steps_given n next)

module _ {Config TheEdit Node : Type 0} (m : Meaning Config TheEdit Node) (laws : Laws m) (setting : Setting TheEdit) (running : List Config) (events : List Event) (steps : ℕ) where
  abbrev ran : WorldState Config Node
  ran = run m setting (start setting running) events

  abbrev pub all_events : List Event
  all_events = events ++ steps_of m setting steps ran

  pub drained_is : run m setting (start setting running) all_events ≡ drained m setting steps ran
  drained_is = run_then m setting (start setting running) events (steps_of m setting steps ran) ∙ steps_run m setting steps ran

  pub drained_sound : AreSoundFrom m setting running (drained m setting steps ran)
  drained_sound = subst (AreSoundFrom m setting running) drained_is (run_sound m laws setting running all_events)

  pub all_proper : IsProper {Node = Node} m setting running events → IsProper {Node = Node} m setting running all_events
  all_proper proper = record {
    first = proper.first;
    edits = proper.edits;
    few_devices = proper.few_devices;
    few = proper.few;
    strangers = proper.strangers;
    given = both_given setting events (steps_of m setting steps ran) proper.given (steps_given m setting steps ran);
  }

  pub drained_safe : IsProper {Node = Node} m setting running events → IsSafe m setting running events (drained m setting steps ran)
  drained_safe proper =
      let s = run_is_safe m laws setting running all_events (all_proper proper) in
      subst (IsSafe m setting running events) drained_is (record { sound_devices = s.sound_devices; keeps_decisions = s.keeps_decisions; sent_once = s.sent_once })

-- what is so after every run is so once its world is brought to rest
module _ {Config TheEdit Node : Type 0} (m : Meaning Config TheEdit Node) (laws : Laws m) (setting : Setting TheEdit) (running : List Config) (Q : WorldState Config Node → Type 0)
    (each : (events : List Event) → IsProper {Node = Node} m setting running events → Q (run m setting (start setting running) events)) where
  pub drained_too : (events : List Event) (steps : ℕ) → IsProper {Node = Node} m setting running events → Q (drained m setting steps (run m setting (start setting running) events))
  drained_too events steps proper =
      subst Q (drained_is m laws setting running events steps)
      (each (all_events m laws setting running events steps) (all_proper m laws setting running events steps proper))
