-- What is kept of one change set at each step of the manager for it, and as entries come.
use Rattle.std.proofs.Common.{◌≡◌, ◌∙◌, ℕ, suc, ◌-◌, ◌≤◌, true, false, List, [], ◌∷◌, ◌++◌, Option, Some, None, IfSome, slice_get, refl, sym, ap, subst}
use Rattle.nm_proto.specs.declared.ask.Ask.{Ask}
use Rattle.nm_proto.specs.declared.ask.Ask.TheVariants as ask
use Rattle.nm_proto.specs.declared.journal.Entry.{Entry}
use Rattle.nm_proto.specs.declared.journal.Entry.TheVariants.{Decided}
use Rattle.nm_proto.specs.declared.journal.Verdict.{Verdict}
use Rattle.nm_proto.specs.declared.plan.ChangePlan.{ChangePlan}
use Rattle.nm_proto.specs.Content.{Meaning}
use Rattle.nm_journal.specs.Entries.{decides, may_follow}
use Rattle.nm_history.specs.History.{RecordedState}
use Rattle.nm_recovery.specs.Recovery.{is_ended_in, verdict_in}
use Rattle.nm_decider_stage.specs.Stages.{next_ask}
use Rattle.nm_decider.specs.declared.course.NextAction.TheVariants.{Send}
use Rattle.nm_decider.specs.Course.{next_action}
use Rattle.nm_decider.specs.Rightly.{IsAsked}
use Rattle.nm_decider.proofs.Actions.{asked}
use Rattle.nm_wire.specs.Asks.{same_ask}
use Rattle.nm_wire.specs.Link.{LinkState}
use Rattle.nm_wire.specs.Wire.{restarted}
use Rattle.nm_manager.specs.Manager.{starts_anew}
use Rattle.nm_manager.specs.Requests.{request_for}
use Rattle.nm_manager.specs.Slot.{SideState, SlotState, asked_in_fact, breaks, decided, lost_memory, lost_wire, receives, renews, sends, to_commit, wires_on}
use Rattle.nm_safety.specs.Support.{AllLinks, IsKept, IsOrdered, Owners}
use Rattle.nm_safety.proofs.Entries.{decided_started}
use Rattle.nm_safety.proofs.Ours.{all_links_map}
use Rattle.nm_safety.proofs.Places.{verdict_new, verdict_same}
use Rattle.nm_safety.proofs.SlotLinks.{broken_links, closed_links, cut_links, decided_links, received_links, restarted_links}
use Rattle.nm_world.specs.World.{Setting}
use Rattle.nm_commit_laws.specs.BringsSupport.{AllOnCourse, EditsOwn, IsBrought, IsOwnLink}
use Rattle.nm_commit_laws.proofs.brings.Links.{closed_own, handled_own, link_later, renewed_all, request_own, sent_all}
use Rattle.nm_commit_laws.proofs.brings.Marked.{numbered_next}
use Rattle.nm_commit_laws.proofs.brings.Slots.{anew_on_course, broken_on_course, decided_on_course, forgotten_on_course, lost_on_course, received_on_course, renewed_on_course, restarted_on_course, sent_on_course}
use Rattle.nm_commit_laws.proofs.brings.Words.{never_edits}

module _ {Config TheEdit Node : Type 0} (m : Meaning Config TheEdit Node) (setting : Setting TheEdit) (change members : ℕ)
    (owners : ℕ → Owners) (devices : List (RecordedState Config Node)) (entries : List Entry) (slot : SlotState)
    (k : IsKept change members entries owners devices slot) (b : IsBrought m setting change entries devices slot) where
  abbrev Brought : SlotState → Type 0
  Brought now = IsBrought m setting change entries devices now

  abbrev P : ℕ → ℕ → LinkState → Type 0
  P d = IsOwnLink m setting entries change (suc d) (slice_get devices d)

  abbrev v : Option Verdict
  v = verdict_in change entries

  -- ---- requests go out

  module _ (numbered : 1 ≤ change) (plan : ChangePlan) (planned : slice_get setting.plans (change - 1) ≡ Some plan)
      (open_now : is_ended_in change entries ≡ false) (device : ℕ) where
    own_by : (what : Ask) → (same_ask what ask.Edit ≡ true → v ≡ None)
        → IfSome (request_for plan entries slot.course.change device what) (EditsOwn setting.plans entries change device)
    own_by what undecided =
        subst (λ c. IfSome (request_for plan entries c device what) (EditsOwn setting.plans entries change device)) (sym k.numbered)
        (request_own setting.plans entries change numbered plan planned b.numbered device what undecided)

    -- an edit goes out before the verdict
    edits_before : (what : Ask) → IsAsked slot.course device what → (side : SideState) → same_ask (asked_in_fact side.resync what) ask.Edit ≡ true
        → v ≡ None
    edits_before what a side e = by_verdict v refl
      where
        by_verdict : (now : Option Verdict) → v ≡ now → v ≡ None
        by_verdict None is = is
        by_verdict (Some now) is =
            let asks : next_ask (Some now) a.seat.stage ≡ Some what =
            ap (λ one. next_ask one a.seat.stage) (sym (k.in_step.decided open_now ∙ is)) ∙ a.next in
            absurd (let g : false ≡ true = sym (never_edits now a.seat.stage side.resync what asks) ∙ e in cc)

    pub sent_brought : (what : Ask) → next_action slot.course ≡ Send device what → Brought (sends plan entries slot device what).slot
    sent_brought what next =
        let a : IsAsked slot.course device what = asked slot.course device what next in
        record {
          numbered = b.numbered;
          course = sent_on_course change members entries owners devices slot k b.course plan device what open_now next;
          links = sent_all m setting entries change devices slot b.links plan device a.numbered own_by what (λ side there e. edits_before what a side e);
        }

    pub renewed_brought : 1 ≤ device → Brought (renews plan entries slot device).slot
    renewed_brought known = record {
      numbered = b.numbered;
      course = renewed_on_course change members entries owners devices slot k b.course plan device;
      links = renewed_all m setting entries change devices slot b.links plan device known own_by;
    }

  -- ---- a reply is handled, a link breaks

  pub received_brought : IsOrdered change entries → (device link number : ℕ) → Brought (receives slot device link number).slot
  received_brought ordered device link number = record {
    numbered = b.numbered;
    course = received_on_course change members entries owners devices slot k b.course ordered device link number;
    links =
        received_links P slot b.links (λ d place one p. handled_own m setting entries change (suc d) (slice_get devices d) place one p) device link
        number;
  }

  pub broken_brought : (device : ℕ) → Brought (breaks slot device).slot
  broken_brought device = record {
    numbered = b.numbered;
    course = broken_on_course change members entries owners devices slot k b.course device;
    links = broken_links P slot b.links device;
  }

  -- ---- memory is lost

  pub forgotten_brought : Brought (lost_memory slot members v)
  forgotten_brought = record {
    numbered = b.numbered;
    course = forgotten_on_course change members entries owners devices slot k b.course;
    links = cut_links P slot b.links (to_commit v);
  }

  pub anew_brought : IsOrdered change entries → Brought (starts_anew entries change members slot)
  anew_brought ordered = record {
    numbered = b.numbered;
    course = anew_on_course change members entries owners devices slot k b.course ordered;
    links = cut_links P slot b.links (to_commit v);
  }

module _ {Config TheEdit Node : Type 0} (m : Meaning Config TheEdit Node) (setting : Setting TheEdit) (change : ℕ)
    (devices : List (RecordedState Config Node)) (entries : List Entry) (slot : SlotState)
    (b : IsBrought m setting change entries devices slot) where
  abbrev R : ℕ → ℕ → LinkState → Type 0
  R d = IsOwnLink m setting entries change (suc d) (slice_get devices d)

  -- ---- an entry comes

  module _ (entry : Entry) (may : may_follow entries entry ≡ true) where
    abbrev Q : ℕ → ℕ → LinkState → Type 0
    Q d = IsOwnLink m setting (entries ++ entry ∷ []) change (suc d) (slice_get devices d)

    links_later : (now : SlotState) → AllLinks R now.sides → AllLinks Q now.sides
    links_later now all =
        all_links_map R Q (λ d place link p. link_later m setting entries entry change (suc d) (slice_get devices d) place link p) now.sides all

    pub entered_brought : decides change entry ≡ false → IsBrought m setting change (entries ++ entry ∷ []) devices slot
    entered_brought plain = record {
      numbered = numbered_next entries entry may b.numbered;
      course = subst (λ found. AllOnCourse found devices slot) (sym (verdict_same change entries entry plain)) b.course;
      links = links_later slot b.links;
    }

  -- the verdict falls
  pub decided_brought : (now : Verdict) → may_follow entries (Decided change now) ≡ true
      → IsBrought m setting change (entries ++ Decided change now ∷ []) devices (decided slot now)
  decided_brought now may = record {
    numbered = numbered_next entries (Decided change now) may b.numbered;
    course =
        subst (λ found. AllOnCourse found devices (decided slot now)) (sym (verdict_new change entries now (decided_started change now entries may).1))
        (decided_on_course (verdict_in change entries) devices slot b.course now);
    links = links_later (Decided change now) may (decided slot now) (decided_links R slot b.links now);
  }

  -- ---- sides of links end

  pub lost_brought : (device link : ℕ)
      → IsBrought m setting change entries devices (wires_on (lost_wire link) slot device (slice_get slot.sides (device - 1)))
  lost_brought device link = record {
    numbered = b.numbered;
    course = lost_on_course (verdict_in change entries) devices slot b.course device link;
    links =
        closed_links R slot b.links device link (λ d place one p. closed_own m setting entries change (suc d) (slice_get devices d) place one p);
  }

  pub restarted_brought : (device : ℕ)
      → IsBrought m setting change entries devices (wires_on restarted slot device (slice_get slot.sides (device - 1)))
  restarted_brought device = record {
    numbered = b.numbered;
    course = restarted_on_course (verdict_in change entries) devices slot b.course device;
    links = restarted_links R slot b.links device (λ d place one p. closed_own m setting entries change (suc d) (slice_get devices d) place one p);
  }
