-- After a run the mark of a change set that isn't ended is in running where the change set is.
use Rattle.std.proofs.Common.{◌≡◌, ℕ, suc, ◌<◌, ◌^◌, true, false, List, Some, slice_get, subst}
use Rattle.std.proofs.lemmas.Option.{none-some}
use Rattle.nm_proto.specs.declared.plan.Event.{Event}
use Rattle.nm_proto.specs.Content.{Meaning, Laws}
use Rattle.nm_history.specs.History.{RecordedState, recorded}
use Rattle.nm_recovery.specs.Recovery.{is_ended_in}
use Rattle.nm_world.specs.World.{IsFirst, Setting, WorldState, run, start}
use Rattle.nm_world.specs.Drain.{drained}
use Rattle.nm_safety.specs.Safe.{IsProper}
use Rattle.nm_safety.proofs.Drained.{drained_too}
use Rattle.nm_safety.proofs.Lists.{some_is}
use Rattle.nm_safety.proofs.Sound.{run_sound}
use Rattle.nm_commit_laws.proofs.brings.Alone.{run_brings}
use Rattle.nm_commit_laws.proofs.leaves.Alone.{run_leaves}
use Rattle.nm_commit_laws.specs.Stays.{MarksStay}
use Rattle.nm_commit_laws.proofs.marks.Alone.{with_first}
use Rattle.nm_commit_laws.proofs.marks.Runs.{run_finds}
use Rattle.nm_commit_laws.proofs.marks.Staying.{IsStaying, staying_along}

module _ {Config TheEdit Node : Type 0} (m : Meaning Config TheEdit Node) (laws : Laws m) (setting : Setting TheEdit)
    (running : List Config) (events : List Event) (proper : IsProper {Node = Node} m setting running events) where
  abbrev ran : WorldState Config Node
  ran = run m setting (start setting running) events

  -- a device begins with nothing
  first_stays : (n : ℕ) (first : Config) → IsFirst m first → IsStaying {Node = Node} m n (recorded first)
  first_stays n first is = record {
    belong = record { stores_belong = record { running = is.belongs; candidate = tt }; before_belongs = tt };
    stays = λ has. absurd (let g : false ≡ true = has in cc);
    before = λ config e. absurd (none-some config e);
  }

  stays_from : (n : ℕ) → n < 2 ^ 32 → is_ended_in n ran.entries ≡ false → (place : ℕ) (r : RecordedState Config Node)
      → slice_get ran.devices place ≡ Some r → (first : Config) → slice_get running place ≡ Some first → IsStaying m n r
  stays_from n small unended place r here first begins =
      let is : IsFirst m first = some_is first (IsFirst m) (slice_get running place) begins (proper.first place) in
      let lead = run_sound m laws setting running events place first r begins here is.valid in
      subst (λ s. IsStaying m n (record { device = s; history = r.history })) lead.reaches
      (staying_along m laws setting proper.edits ran.entries (suc place) n small unended first r.history lead.legal
      ((run_brings m laws setting running events proper).own_edits place first r begins here)
      ((run_leaves m laws setting running events proper).leaves place first r begins here)
      (run_finds m laws setting running events proper place r here n small) (first_stays n first is))

  pub run_stays : MarksStay m ran
  run_stays = record {
    one_by_one = λ n small place r here. run_finds m laws setting running events proper place r here n small;
    stays = λ n small unended place r here.
        (with_first m setting running events place r here (IsStaying m n r) (stays_from n small unended place r here)).stays;
  }

pub drained_stays : {Config TheEdit Node : Type 0} (m : Meaning Config TheEdit Node) (laws : Laws m) (setting : Setting TheEdit)
    (running : List Config) (events : List Event) (steps : ℕ) → IsProper {Node = Node} m setting running events
    → MarksStay {Node = Node} m (drained m setting steps (run m setting (start setting running) events))
drained_stays m laws setting running events steps proper =
    drained_too m laws setting running (MarksStay m) (run_stays m laws setting running) events steps proper
