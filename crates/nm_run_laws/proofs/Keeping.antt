-- Each step keeps all on which safety rests, and from that it follows.
use Rattle.std.proofs.Common.{◌≡◌, ℕ, ◌<◌, List, [], length, Option, Some, None, IfSome, slice_get, arith}
use Rattle.std.proofs.lemmas.Option.{slice_get_within}
use Rattle.nm_proto.specs.Content.{Meaning, Laws}
use Rattle.nm_proto.specs.declared.plan.Event.{Event}
use Rattle.nm_history.specs.History.{RecordedState}
use Rattle.nm_world.specs.Drain.{drain_by, drain_event, drain_step}
use Rattle.nm_world.specs.World.{Setting, WorldState, core_of, start, world_step}
use Rattle.nm_world.proofs.ToRest.{drain_event_is_step}
use Rattle.nm_safety.specs.Safe.{AreSoundFrom, IsGiven, IsProper, IsSafe}
use Rattle.nm_run_laws.specs.Upheld.{IsUpheld}
use Rattle.nm_safety.proofs.Devices.{one_keeps}
use Rattle.nm_safety.proofs.Drained.{step_given}
use Rattle.nm_safety.proofs.Lists.{some_is, to_some}
use Rattle.nm_safety.proofs.Runs.{one_supported}
use Rattle.nm_safety.proofs.Safely.{decision_kept, commits_once}
use Rattle.nm_safety.proofs.Sound.{IsSoundAt, first_at, first_sound, happened_sound}
use Rattle.nm_safety.proofs.Start.{begin_supported}

module _ {Config TheEdit Node : Type 0} (m : Meaning Config TheEdit Node) (laws : Laws m) (setting : Setting TheEdit) (running : List Config) where
  abbrev AllSound : WorldState Config Node → Type 0
  AllSound w = (place : ℕ) → IfSome (slice_get w.devices place) (IsSoundAt m laws setting running place)

  all_sound : (w : WorldState Config Node) → AreSoundFrom m setting running w → AllSound w
  all_sound w sound place = to_some (IsSoundAt m laws setting running place) (slice_get w.devices place) (λ r there first begins valid. sound place first r begins there valid)

  sound_from : (w : WorldState Config Node) → AllSound w → AreSoundFrom m setting running w
  sound_from w all place first r begins there valid = some_is r (IsSoundAt m laws setting running place) (slice_get w.devices place) there (all place) first begins valid

  pub begins : IsProper {Node = Node} m setting running [] → IsUpheld m setting running (start {Node = Node} setting running)
  begins proper = record {
    proper = proper;
    sound_devices = sound_from (start setting running) (first_at (IsSoundAt m laws setting running) running (first_sound m laws setting running));
    few_devices = first_at (λ place r. place < 32) running
        (λ place first there. let within : place < length running = slice_get_within running place first there in let few = proper.few_devices in omega (arith, within, few));
    supported = begin_supported m setting running proper.first;
  }

  module _ (w : WorldState Config Node) (k : IsUpheld m setting running w) where
    pub steps : (event : Event) → IsGiven setting event → IsUpheld m setting running (world_step m setting w event)
    steps event given = record {
      proper = k.proper;
      sound_devices = sound_from (world_step m setting w event)
          (one_keeps m setting (IsSoundAt m laws setting running) (happened_sound m laws setting running) w event (all_sound w k.sound_devices));
      few_devices = one_keeps m setting (λ place r. place < 32) (λ place r event h happens small. small) w event k.few_devices;
      supported = one_supported m laws setting k.proper.edits k.proper.few k.proper.strangers w event given k.supported;
    }

    drains_by : (event : Option Event) → IfSome event (IsGiven setting) → IsUpheld m setting running (drain_by m setting w event)
    drains_by None given = k
    drains_by (Some event) given = steps event given

    pub drains : IsUpheld m setting running (drain_step m setting w)
    drains = drains_by (drain_event setting w) (to_some (IsGiven setting) (drain_event setting w) (λ x is. step_given setting x (drain_event_is_step setting w x is)))

    small_at : (device : ℕ) (r : RecordedState Config Node) → slice_get w.devices device ≡ Some r → device < 32
    small_at device r there = some_is r (λ _. device < 32) (slice_get w.devices device) there (k.few_devices device)

    pub is_safe : (events : List Event) → IsSafe m setting running events w
    is_safe events = record {
      sound_devices = k.sound_devices;
      keeps_decisions = λ place plan device r planned here. decision_kept m setting (core_of w) k.supported place plan planned device (small_at device r here) r here;
      sent_once = λ place plan device r planned here. commits_once m setting (core_of w) k.supported place plan planned device (small_at device r here) r here;
    }
