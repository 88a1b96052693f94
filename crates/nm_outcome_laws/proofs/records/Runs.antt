-- Every event keeps what is known of all change sets, and so does every run.
use Rattle.std.proofs.Common.{◌≡◌, ℕ, zero, suc, true, false, List, [], ◌∷◌, Option, Some, None, IfSome, slice_get}
use Rattle.std.proofs.lemmas.Option.{none-some}
use Rattle.nm_proto.specs.declared.plan.ChangePlan.{ChangePlan}
use Rattle.nm_proto.specs.declared.plan.Event.{Event}
use Rattle.nm_proto.specs.Content.{Meaning, Laws}
use Rattle.nm_proto.specs.Plan.{devices_in}
use Rattle.nm_history.specs.declared.outcome.Outcome.{Outcome}
use Rattle.nm_history.specs.History.{RecordedState}
use Rattle.nm_recovery.specs.Recovery.{verdict_in}
use Rattle.nm_decider.specs.declared.seat.Seat.{Seat}
use Rattle.nm_manager.specs.Slot.{SideState, fresh_slot}
use Rattle.nm_manager.specs.Manager.{slots_from}
use Rattle.nm_world.specs.World.{Setting, WorldState, core_of, run, start, world_step}
use Rattle.nm_world.proofs.Passing.{is_round}
use Rattle.nm_safety.specs.Keeping.{AreKept, Both, Keeps}
use Rattle.nm_safety.specs.Pairs.{PairAt}
use Rattle.nm_safety.specs.Safe.{IsGiven, IsProper}
use Rattle.nm_safety.proofs.Cases.{comes}
use Rattle.nm_safety.proofs.Keeping.{one_kept}
use Rattle.nm_safety.proofs.Lists.{to_some}
use Rattle.nm_safety.proofs.Steps.{run_keeps_each}
use Rattle.nm_commit_laws.specs.Marks.{ArePlain, AreUnmarked}
use Rattle.nm_outcome_laws.specs.RecordsSupport.{IsKnown, IsRecorded, KnownPair, OfNone, OfRecorded, outcomes_at}
use Rattle.nm_outcome_laws.proofs.records.Ended.{AllSo, SoThen, so_cases}
use Rattle.nm_outcome_laws.proofs.records.Keeping.{anew_recorded, broken_recorded, decided_recorded, forgotten_recorded, lost_recorded, received_recorded, renewed_recorded, restarted_recorded, sent_recorded}
use Rattle.nm_outcome_laws.proofs.records.Later.{recorded_later}
use Rattle.nm_outcome_laws.proofs.records.Marks.{fresh_own}
use Rattle.nm_outcome_laws.proofs.records.Passing.{HasRun, next_ran, start_ran}
use Rattle.nm_outcome_laws.proofs.records.Said.{few_devices, supported}
use Rattle.nm_outcome_laws.proofs.records.Told.{asked_recorded, opened_recorded}

-- ---- the beginning: nothing is decided

undecided_known : (seat : Seat) (side : SideState) (o : Option Outcome) → IsKnown None seat side o
undecided_known seat side None = tt
undecided_known seat side (Some outcome) = λ commits member. absurd (let g : false ≡ true = commits in cc)

none_known : (outs : ℕ → Option Outcome) (place : ℕ) (seat : Option Seat) (side : Option SideState) → PairAt (KnownPair outs) place None seat side
none_known outs place None side = tt
none_known outs place (Some seat) None = tt
none_known outs place (Some seat) (Some side) = undecided_known seat side (outs place)

module _ {Config Node : Type 0} (change : ℕ) (devices : List (RecordedState Config Node)) where
  fresh_recorded : (number members : ℕ) → IsRecorded change devices (fresh_slot number members)
  fresh_recorded number members = record {
    own = fresh_own change number members;
    known = λ place.
        none_known (outcomes_at change devices) place (slice_get (fresh_slot number members).course.seats place)
        (slice_get (fresh_slot number members).sides place);
  }

  slots_begin : (plans : List ChangePlan) (base place : ℕ) → IfSome (slice_get (slots_from base plans) place) (IsRecorded change devices)
  slots_begin [] base place = tt
  slots_begin (plan ∷ plans) base zero = fresh_recorded base (devices_in plan.edits)
  slots_begin (plan ∷ plans) base (suc place) = slots_begin plans (suc base) place

-- ---- each event

module _ {Config TheEdit Node : Type 0} (m : Meaning Config TheEdit Node) (laws : Laws m) (setting : Setting TheEdit) (running : List Config)
    (plain : ArePlain m setting) (unmarked : AreUnmarked m running) where
  abbrev Ran : WorldState Config Node → Type 0
  Ran = HasRun m setting running

  recorded_keeps : Keeps m setting Ran OfRecorded OfNone
  recorded_keeps = record {
    entered = λ x entry other may c. c;
    decides_on = λ x v ready acts may c.
        decided_recorded x.change x.w.devices x.slot c (devices_in x.plan.edits) x.w.entries x.owners x.kept v acts;
    sent = λ x device what ready acts c.
        sent_recorded x.change x.w.devices x.slot c (devices_in x.plan.edits) x.w.entries x.owners x.kept x.plan device what acts;
    renewed = λ x device known ready c.
        renewed_recorded x.change x.w.devices x.slot c (devices_in x.plan.edits) x.w.entries x.owners x.kept x.plan device;
    heard = λ x device link number known c.
        received_recorded x.change x.w.devices x.slot c (devices_in x.plan.edits) x.w.entries x.owners x.kept device link number;
    broken = λ x device known c.
        broken_recorded x.change x.w.devices x.slot c (devices_in x.plan.edits) x.w.entries x.owners x.kept device;
    forgotten = λ x begun going c.
        forgotten_recorded x.change x.w.devices x.slot c (devices_in x.plan.edits) (verdict_in x.change x.w.entries);
    anew = λ x c. anew_recorded x.change x.w.devices x.slot c x.w.entries (devices_in x.plan.edits);
    closed = λ change plan entries devices slot device link c. lost_recorded change devices slot c device link;
    restarted = λ change plan entries devices slot device c. restarted_recorded change devices slot c device;
    aside = λ x d r here known event h happens others c. recorded_later x.change x.w.devices d r here event h x.slot c;
    told = λ x single session is done later c k. asked_recorded m laws setting running plain unmarked x c session is done later;
    told_opened = λ x user opening done later c k. opened_recorded m laws setting running plain unmarked x c user opening done later;
    entered_beside = λ w b entry may place r here k. k;
    asked_by_link = λ x single session is done later c k. k;
    opened_by_link = λ x user opening done later c k. k;
    asked_by_operator = λ w b place r here session opened stranger request h happens k. k;
    opened_by_operator = λ w b place r here user stranger h happens k. k;
    silent = λ w b place r here event silent h happens k. k;
  }

  -- a world that a run has come to, of whose devices what is known is so, and where what ended did rightly
  pub record KnowsEnds (w : WorldState Config Node) : Type 0 where
    pub known : Both setting Ran OfRecorded OfNone w
    pub so : AllSo setting.plans w.entries w.devices

  module _ (events : List Event) (proper : IsProper {Node = Node} m setting running events) where
    one_recorded : (w : WorldState Config Node) (event : Event) → IsGiven setting event → is_round event ≡ false → KnowsEnds w
        → KnowsEnds (world_step m setting w event)
    one_recorded w event given single k = record {
      known =
          one_kept m laws setting proper.edits proper.few proper.strangers Ran (supported m laws setting running)
          (next_ran m setting running) OfRecorded OfNone recorded_keeps w event given single k.known;
      so =
          comes m setting (core_of w) (SoThen setting)
          (so_cases m setting (core_of w) (supported m laws setting running w k.known.before) k.known.own
          (few_devices m laws setting running w k.known.before) k.so) event given;
    }

    begins : AreKept setting OfRecorded OfNone (core_of (start {Node = Node} setting running))
    begins = record {
      slots = λ place plan planned. slots_begin (suc place) (start {Node = Node} setting running).devices setting.plans 1 place;
      devices = λ place. to_some (λ r. Unit {0}) (slice_get (start {Node = Node} setting running).devices place) (λ r here. tt);
    }

    pub run_recorded : KnowsEnds (run m setting (start setting running) events)
    run_recorded =
        let known : Both setting Ran OfRecorded OfNone (start setting running) =
        record { before = start_ran m setting running events proper; own = begins } in
        run_keeps_each m setting KnowsEnds one_recorded (start setting running) events proper.given
        (record { known = known; so = λ place plan kept planned had. absurd (none-some kept had) })
