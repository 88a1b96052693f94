-- What is kept of one change set at each step of the manager for it.
use Rattle.std.proofs.Common.{◌≡◌, ℕ, ◌-◌, false, List, Option, slice_get}
use Rattle.nm_proto.specs.declared.ask.Ask.{Ask}
use Rattle.nm_proto.specs.declared.journal.Entry.{Entry}
use Rattle.nm_proto.specs.declared.journal.Verdict.{Verdict}
use Rattle.nm_proto.specs.declared.plan.ChangePlan.{ChangePlan}
use Rattle.nm_history.specs.History.{RecordedState}
use Rattle.nm_recovery.specs.Recovery.{is_ended_in, verdict_in}
use Rattle.nm_decider.specs.declared.course.NextAction.TheVariants.{Send}
use Rattle.nm_decider.specs.Course.{next_action}
use Rattle.nm_wire.specs.Wire.{restarted}
use Rattle.nm_manager.specs.Slot.{SlotState, breaks, decided, lost_memory, lost_wire, receives, renews, sends, to_commit, wires_on}
use Rattle.nm_manager.specs.Manager.{starts_anew}
use Rattle.nm_safety.specs.Support.{IsKept, Owners}
use Rattle.nm_safety.proofs.SlotLinks.{broken_links, closed_links, cut_links, decided_links, received_links, restarted_links}
use Rattle.nm_commit_laws.specs.LeavesSupport.{IsClean}
use Rattle.nm_commit_laws.specs.RefusesSupport.{IsFitted}
use Rattle.nm_commit_laws.proofs.refuses.Links.{P, closed_fit, handled_fit, renewed_all, sent_all}
use Rattle.nm_commit_laws.proofs.refuses.Slots.{anew_knows, broken_knows, decided_knows, forgotten_knows, lost_knows, received_knows, renewed_knows, restarted_knows, sent_knows}

module _ {Config Node : Type 0} (change members : ℕ) (owners : ℕ → Owners) (devices : List (RecordedState Config Node))
    (entries : List Entry) (slot : SlotState) (k : IsKept change members entries owners devices slot) (c : IsClean devices slot)
    (plan : ChangePlan) (f : IsFitted plan devices slot) where
  pub sent_fits : is_ended_in change entries ≡ false → (device : ℕ) (what : Ask) → next_action slot.course ≡ Send device what
      → IsFitted plan devices (sends plan entries slot device what).slot
  sent_fits unended device what next = record {
    course = sent_knows change members owners devices entries slot k f.course unended plan device what next;
    links = sent_all plan devices slot change members entries k.in_step c.course f.course f.links device what next;
  }

  pub renewed_fits : (device : ℕ) → IsFitted plan devices (renews plan entries slot device).slot
  renewed_fits device = record {
    course = renewed_knows change members owners devices entries slot k f.course plan device;
    links = renewed_all plan devices slot change members entries k.in_step c.course f.course f.links device;
  }

  pub received_fits : (device link number : ℕ) → IsFitted plan devices (receives slot device link number).slot
  received_fits device link number = record {
    course = received_knows change members owners devices entries slot k f.course device link number;
    links =
        received_links (P plan devices slot) slot f.links (λ d place one h. handled_fit plan (slice_get devices d) place one h)
        device link number;
  }

  pub broken_fits : (device : ℕ) → IsFitted plan devices (breaks slot device).slot
  broken_fits device = record {
    course = broken_knows change members owners devices entries slot k f.course device;
    links = broken_links (P plan devices slot) slot f.links device;
  }

-- ---- the verdict falls, memory is lost, and sides of links end

module _ {Config Node : Type 0} (devices : List (RecordedState Config Node)) (slot : SlotState) (plan : ChangePlan)
    (f : IsFitted plan devices slot) where
  pub decided_fits : (now : Verdict) → IsFitted plan devices (decided slot now)
  decided_fits now = record {
    course = decided_knows devices slot f.course now;
    links = decided_links (P plan devices slot) slot f.links now;
  }

  pub forgotten_fits : (members : ℕ) (found : Option Verdict) → IsFitted plan devices (lost_memory slot members found)
  forgotten_fits members found = record {
    course = forgotten_knows devices slot members found;
    links = cut_links (P plan devices slot) slot f.links (to_commit found);
  }

  pub anew_fits : (entries : List Entry) (change members : ℕ) → IsFitted plan devices (starts_anew entries change members slot)
  anew_fits entries change members = record {
    course = anew_knows devices slot entries change members;
    links = cut_links (P plan devices slot) slot f.links (to_commit (verdict_in change entries));
  }

  pub lost_fits : (device link : ℕ) → IsFitted plan devices (wires_on (lost_wire link) slot device (slice_get slot.sides (device - 1)))
  lost_fits device link = record {
    course = lost_knows devices slot f.course device link;
    links =
        closed_links (P plan devices slot) slot f.links device link (λ d place one h. closed_fit plan (slice_get devices d) place one h);
  }

  pub restarted_fits : (device : ℕ) → IsFitted plan devices (wires_on restarted slot device (slice_get slot.sides (device - 1)))
  restarted_fits device = record {
    course = restarted_knows devices slot f.course device;
    links =
        restarted_links (P plan devices slot) slot f.links device (λ d place one h. closed_fit plan (slice_get devices d) place one h);
  }
