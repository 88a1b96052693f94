-- What is kept of one change set at each step of the manager for it.
use Rattle.std.proofs.Common.{◌≡◌, ℕ, ◌-◌, List, Option, slice_get}
use Rattle.nm_proto.specs.declared.ask.Ask.{Ask}
use Rattle.nm_proto.specs.declared.journal.Entry.{Entry}
use Rattle.nm_proto.specs.declared.journal.Verdict.{Verdict}
use Rattle.nm_proto.specs.declared.plan.ChangePlan.{ChangePlan}
use Rattle.nm_history.specs.declared.outcome.Outcome.{Outcome}
use Rattle.nm_history.specs.History.{RecordedState}
use Rattle.nm_recovery.specs.Recovery.{verdict_in}
use Rattle.nm_decider.specs.declared.course.NextAction.TheVariants.{Decide, Send}
use Rattle.nm_decider.specs.Course.{next_action}
use Rattle.nm_manager.specs.Slot.{SlotState, breaks, decided, lost_memory, lost_wire, receives, renews, restarted_slot, sends, to_commit, wires_on}
use Rattle.nm_manager.specs.Manager.{starts_anew}
use Rattle.nm_safety.specs.Support.{IsKept, Owners}
use Rattle.nm_safety.proofs.SlotLinks.{broken_links, closed_links, cut_links, decided_links, restarted_links}
use Rattle.nm_outcome_laws.specs.RecordsSupport.{IsRecorded, OwnLink, outcomes_at}
use Rattle.nm_outcome_laws.proofs.records.Marks.{received_own, renewed_own, sent_own}
use Rattle.nm_outcome_laws.proofs.records.Slots.{anew_knows, broken_knows, decided_knows, forgotten_knows, lost_knows, received_knows, renewed_knows, restarted_knows, sent_knows}

module _ {Config Node : Type 0} (change : ℕ) (devices : List (RecordedState Config Node)) (slot : SlotState)
    (c : IsRecorded change devices slot) where
  abbrev O : ℕ → Option Outcome
  O = outcomes_at change devices

  module _ (members : ℕ) (entries : List Entry) (owners : ℕ → Owners) (k : IsKept change members entries owners devices slot) where
    pub sent_recorded : (plan : ChangePlan) (device : ℕ) (what : Ask) → next_action slot.course ≡ Send device what
        → IsRecorded change devices (sends plan entries slot device what).slot
    sent_recorded plan device what acts = record {
      own = sent_own change slot c.own k.numbered plan entries device what;
      known = sent_knows O change members entries slot k.in_step c.known plan device what acts;
    }

    pub renewed_recorded : (plan : ChangePlan) (device : ℕ) → IsRecorded change devices (renews plan entries slot device).slot
    renewed_recorded plan device = record {
      own = renewed_own change slot c.own k.numbered plan entries device;
      known = renewed_knows O change members entries slot k.in_step c.known plan device;
    }

    pub received_recorded : (device link number : ℕ) → IsRecorded change devices (receives slot device link number).slot
    received_recorded device link number = record {
      own = received_own change slot c.own device link number;
      known = received_knows O change members entries slot k.in_step c.known device link number;
    }

    pub broken_recorded : (device : ℕ) → IsRecorded change devices (breaks slot device).slot
    broken_recorded device = record {
      own = broken_links (OwnLink change) slot c.own device;
      known = broken_knows O change members entries slot k.in_step c.known device;
    }

    pub decided_recorded : (now : Verdict) → next_action slot.course ≡ Decide now → IsRecorded change devices (decided slot now)
    decided_recorded now acts = record {
      own = decided_links (OwnLink change) slot c.own now;
      known = decided_knows O change members entries slot k.in_step c.known now acts;
    }

  -- ---- memory is lost, and sides of links end

  pub forgotten_recorded : (members : ℕ) (found : Option Verdict) → IsRecorded change devices (lost_memory slot members found)
  forgotten_recorded members found = record {
    own = cut_links (OwnLink change) slot c.own (to_commit found);
    known = forgotten_knows O slot members found;
  }

  pub anew_recorded : (entries : List Entry) (members : ℕ) → IsRecorded change devices (starts_anew entries change members slot)
  anew_recorded entries members = record {
    own = cut_links (OwnLink change) slot c.own (to_commit (verdict_in change entries));
    known = anew_knows O slot entries change members;
  }

  pub lost_recorded : (device link : ℕ)
      → IsRecorded change devices (wires_on (lost_wire link) slot device (slice_get slot.sides (device - 1)))
  lost_recorded device link = record {
    own = closed_links (OwnLink change) slot c.own device link (λ d place one p. p);
    known = lost_knows O slot c.known device link;
  }

  pub restarted_recorded : (device : ℕ) → IsRecorded change devices (restarted_slot device slot)
  restarted_recorded device = record {
    own = restarted_links (OwnLink change) slot c.own device (λ d place one p. p);
    known = restarted_knows O slot c.known device;
  }
