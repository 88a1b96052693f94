-- What is kept of one change set at each step of the manager for it.
use Rattle.std.proofs.Common.{ℕ, ◌≡◌, ◌-◌, List, Option, slice_get, subst}
use Rattle.nm_proto.specs.declared.ask.Ask.{Ask}
use Rattle.nm_proto.specs.declared.journal.Entry.{Entry}
use Rattle.nm_proto.specs.declared.journal.Verdict.{Verdict}
use Rattle.nm_proto.specs.declared.plan.ChangePlan.{ChangePlan}
use Rattle.nm_history.specs.History.{RecordedState}
use Rattle.nm_recovery.specs.Recovery.{verdict_in}
use Rattle.nm_decider.specs.declared.course.NextAction.TheVariants.{Send, Decide}
use Rattle.nm_decider.specs.Course.{next_action}
use Rattle.nm_wire.specs.Wire.{restarted}
use Rattle.nm_manager.specs.Slot.{SlotState, breaks, decided, lost_memory, lost_wire, receives, renews, sends, to_commit, wires_on}
use Rattle.nm_manager.specs.Manager.{starts_anew}
use Rattle.nm_safety.specs.Support.{IsKept, Owners}
use Rattle.nm_safety.proofs.Seats.{ready, undecided}
use Rattle.nm_safety.proofs.SlotLinks.{broken_links, closed_links, cut_links, decided_links, received_links, restarted_links}
use Rattle.nm_commit_laws.specs.LeavesSupport.{AllKnown, IsClean}
use Rattle.nm_commit_laws.proofs.leaves.Links.{P, closed_holds, handled_holds, renewed_all, sent_all}
use Rattle.nm_commit_laws.proofs.leaves.Slots.{anew_knows, broken_knows, decided_knows, forgotten_knows, lost_knows, received_knows, renewed_knows, restarted_knows, sent_knows}

module _ {Config Node : Type 0} (change members : ℕ) (owners : ℕ → Owners) (devices : List (RecordedState Config Node))
    (entries : List Entry) (slot : SlotState) (k : IsKept change members entries owners devices slot) (c : IsClean devices slot) where
  pub sent_clean : (plan : ChangePlan) (device : ℕ) (what : Ask) → next_action slot.course ≡ Send device what
      → IsClean devices (sends plan entries slot device what).slot
  sent_clean plan device what next = record {
    course = sent_knows change members entries slot k.in_step c.course plan device what next;
    links = sent_all devices slot change members entries k.in_step c.course c.links plan device what next;
  }

  pub renewed_clean : (plan : ChangePlan) (device : ℕ) → IsClean devices (renews plan entries slot device).slot
  renewed_clean plan device = record {
    course = renewed_knows change members entries slot k.in_step c.course plan device;
    links = renewed_all devices slot change members entries k.in_step c.course c.links plan device;
  }

  pub received_clean : (device link number : ℕ) → IsClean devices (receives slot device link number).slot
  received_clean device link number = record {
    course = received_knows change members entries slot k.in_step c.course device link number;
    links =
        received_links (P devices slot) slot c.links (λ d place one h. handled_holds (slice_get devices d) one h) device link number;
  }

  pub broken_clean : (device : ℕ) → IsClean devices (breaks slot device).slot
  broken_clean device = record {
    course = broken_knows change members entries slot k.in_step c.course device;
    links = broken_links (P devices slot) slot c.links device;
  }

  -- ---- the verdict falls

  pub decided_clean : (now : Verdict) → next_action slot.course ≡ Decide now → IsClean devices (decided slot now)
  decided_clean now next = record {
    course = decided_knows slot now
        (λ place seat there commit member. (ready change members entries slot k.in_step now next place seat there commit member).acknowledged)
        (subst (λ v. AllKnown v slot) (undecided change members entries slot k.in_step now next) c.course);
    links = decided_links (P devices slot) slot c.links now;
  }

-- ---- memory is lost, and sides of links end

module _ {Config Node : Type 0} (devices : List (RecordedState Config Node)) (slot : SlotState) (c : IsClean devices slot) where
  pub forgotten_clean : (members : ℕ) (found : Option Verdict) → IsClean devices (lost_memory slot members found)
  forgotten_clean members found = record {
    course = forgotten_knows slot members found;
    links = cut_links (P devices slot) slot c.links (to_commit found);
  }

  pub anew_clean : (entries : List Entry) (change members : ℕ) → IsClean devices (starts_anew entries change members slot)
  anew_clean entries change members = record {
    course = anew_knows slot entries change members;
    links = cut_links (P devices slot) slot c.links (to_commit (verdict_in change entries));
  }

  pub lost_clean : (device link : ℕ) → IsClean devices (wires_on (lost_wire link) slot device (slice_get slot.sides (device - 1)))
  lost_clean device link = record {
    course = lost_knows slot c.course device link;
    links = closed_links (P devices slot) slot c.links device link (λ d place one h. closed_holds (slice_get devices d) one h);
  }

  pub restarted_clean : (device : ℕ) → IsClean devices (wires_on restarted slot device (slice_get slot.sides (device - 1)))
  restarted_clean device = record {
    course = restarted_knows slot c.course device;
    links = restarted_links (P devices slot) slot c.links device (λ d place one h. closed_holds (slice_get devices d) one h);
  }
