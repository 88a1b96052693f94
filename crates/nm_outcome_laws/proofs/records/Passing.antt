-- A world that a run has come to, and what it comes to by one event more.
use Rattle.std.proofs.Common.{◌≡◌, ◌∙◌, false, List, [], ◌∷◌, ◌++◌, refl, sym, ap}
use Rattle.nm_proto.specs.declared.plan.Event.{Event}
use Rattle.nm_proto.specs.Content.{Meaning}
use Rattle.nm_world.specs.World.{Setting, WorldState, event_step, run, start, world_step}
use Rattle.nm_world.proofs.Passing.{is_round, other_step, run_then}
use Rattle.nm_safety.specs.Safe.{AreGiven, IsGiven, IsProper}

one_given : {TheEdit : Type 0} (setting : Setting TheEdit) (events : List Event) (event : Event) → AreGiven setting events
    → IsGiven setting event → AreGiven setting (events ++ event ∷ [])
one_given setting [] event given new = (new, tt)
one_given setting (first ∷ events) event given new = (given.0, one_given setting events event given.1 new)

module _ {Config TheEdit Node : Type 0} (m : Meaning Config TheEdit Node) (setting : Setting TheEdit) (running : List Config) where
  pub record HasRun (w : WorldState Config Node) : Type 0 where
    pub events : List Event
    pub proper : IsProper {Node = Node} m setting running events
    pub is : run m setting (start setting running) events ≡ w

  -- a scenario that may have some events may have others
  proper_of : (before : List Event) → IsProper {Node = Node} m setting running before → (events : List Event) → AreGiven setting events
      → IsProper {Node = Node} m setting running events
  proper_of before may events given = record {
    first = may.first;
    edits = may.edits;
    few_devices = may.few_devices;
    few = may.few;
    strangers = may.strangers;
    given = given;
  }

  pub start_ran : (events : List Event) → IsProper {Node = Node} m setting running events → HasRun (start setting running)
  start_ran events may = record { events = []; proper = proper_of events may [] tt; is = refl }

  pub next_ran : (w : WorldState Config Node) (event : Event) → IsGiven setting event → is_round event ≡ false → HasRun w
      → HasRun (world_step m setting w event)
  next_ran w event given single k = record {
    events = k.events ++ event ∷ [];
    proper = proper_of k.events k.proper (k.events ++ event ∷ []) (one_given setting k.events event k.proper.given given);
    is =
        run_then m setting (start setting running) k.events (event ∷ []) ∙ ap (λ v. event_step m setting v event) k.is
        ∙ sym (other_step m setting w event single);
  }
