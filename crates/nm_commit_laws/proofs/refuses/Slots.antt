-- What is current in the first course is the first link at all devices of a change set, at each step of the manager.
use Rattle.std.proofs.Common.{◌≡◌, cond, ◌∙◌, ℕ, ◌-◌, Bool, true, false, List, [], Option, Some, None, is_some, slice_get, slice_set, refl, sym, ap, subst}
use Rattle.std.proofs.lemmas.Option.{none-some}
use Rattle.nm_proto.specs.declared.ask.Ask.{Ask}
use Rattle.nm_proto.specs.declared.journal.Verdict.{Verdict}
use Rattle.nm_proto.specs.declared.journal.Verdict.TheVariants as verdict
use Rattle.nm_proto.specs.declared.journal.Entry.{Entry}
use Rattle.nm_proto.specs.declared.plan.ChangePlan.{ChangePlan}
use Rattle.nm_history.specs.History.{RecordedState}
use Rattle.nm_recovery.specs.Recovery.{is_ended_in, verdict_in}
use Rattle.nm_decider_stage.specs.Stages.{broken_stage}
use Rattle.nm_decider.specs.declared.course.NextAction.TheVariants.{Send}
use Rattle.nm_decider.specs.declared.seat.Seat.{Seat}
use Rattle.nm_decider.specs.Course.{next_action, decided_seat}
use Rattle.nm_resync.specs.Resync.{settled_in, resync_learnt}
use Rattle.nm_wire.specs.Link.{ends}
use Rattle.nm_wire.specs.Wire.{WireState, current_link, link_at, restarted}
use Rattle.nm_manager.specs.Manager.{starts_anew}
use Rattle.nm_manager.specs.Slot.{SideState, SlotState, asked_in_fact, breaks, cut_off, decided, lost_memory, lost_wire, opens, receives, renews, sends, to_commit, wires_on}
use Rattle.nm_safety.specs.Pair.{PairHolds, is_live}
use Rattle.nm_safety.specs.Pairs.{IsPair}
use Rattle.nm_safety.specs.Slots.{HoldsAt}
use Rattle.nm_safety.specs.Step.{has_link}
use Rattle.nm_safety.specs.Support.{IsKept, Owners}
use Rattle.nm_safety.proofs.EachPair.{anew_pairs, broken_pairs, decided_pairs, forgotten_pairs, pairs_map, received_pairs, renewed_pairs, sent_pairs, wires_pairs}
use Rattle.nm_safety.proofs.Managed.{others_stay}
use Rattle.nm_safety.proofs.Tables.{found_stage}
use Rattle.nm_safety.proofs.Wires.{changed_current}
use Rattle.nm_commit_laws.specs.RefusesSupport.{AllFirst, FirstPair, is_at_first}
use Rattle.nm_commit_laws.proofs.refuses.First.{Unmade, aborted_first, broken_first, found_first, gone_current, gone_first, learnt_first, turned_first}

was_some : (b : Bool) (current : Option ℕ) (number : ℕ) → cond b None current ≡ Some number → current ≡ Some number
was_some true current number h = absurd (none-some number h)
was_some false current number h = h

none_is : {A : Type 0} (found : Option A) → is_some found ≡ false → found ≡ None
none_is None e = refl
none_is (Some a) e = absurd (let g : true ≡ false = e in cc)

some_there : {A : Type 0} (found : Option A) → is_some found ≡ true → (T : Type 0) → ((a : A) → found ≡ Some a → T) → T
some_there None e T step = absurd (let g : false ≡ true = e in cc)
some_there (Some a) e T step = step a refl

-- what is kept of a seat and its side, where there is the device
pub holds_there : {Config Node : Type 0} (change members : ℕ) (owners : ℕ → Owners) (devices : List (RecordedState Config Node))
    (entries : List Entry) (slot : SlotState) → IsKept change members entries owners devices slot → (place : ℕ) (seat : Seat) (side : SideState)
    (r : RecordedState Config Node) → slice_get slot.course.seats place ≡ Some seat → slice_get slot.sides place ≡ Some side
    → slice_get devices place ≡ Some r → PairHolds change (verdict_in change entries) seat side.wire r
holds_there change members owners devices entries slot k place seat side r seated there here =
    subst (λ o. HoldsAt change (verdict_in change entries) (Some seat) (Some side) o) here
    (subst (λ o. HoldsAt change (verdict_in change entries) (Some seat) o (slice_get devices place)) there
    (subst (λ o. HoldsAt change (verdict_in change entries) o (slice_get slot.sides place) (slice_get devices place)) seated (k.holds place)))

module _ {Config Node : Type 0} (change members : ℕ) (owners : ℕ → Owners) (devices : List (RecordedState Config Node))
    (entries : List Entry) (slot : SlotState) (k : IsKept change members entries owners devices slot) (all : AllFirst devices slot) where
  abbrev v : Option Verdict
  v = slot.course.verdict

  -- where the course begins at a device there was no link before
  fresh : is_ended_in change entries ≡ false → (place : ℕ) (seat : Seat) (side : SideState) → IsPair members slot place seat side
      → seat.awaited ≡ None → is_some (slice_get devices place) ≡ true → Unmade v seat.stage side.wire
  fresh open_now place seat side pair quiet is none begins =
      some_there (slice_get devices place) is (side.wire.links ≡ [])
      (λ r here.
      let holds : PairHolds change (verdict_in change entries) seat side.wire r =
      holds_there change members owners devices entries slot k place seat side r pair.here pair.there here in
      (holds.undecided (sym (k.in_step.decided open_now) ∙ none)).unmade (ap is_live begins)
      (none_is (current_link side.wire) (pair.goes.linked quiet ∙ ap (λ stage. has_link stage side.resync.stage) begins)))

  pub sent_knows : is_ended_in change entries ≡ false → (plan : ChangePlan) (device : ℕ) (what : Ask)
      → next_action slot.course ≡ Send device what → AllFirst devices (sends plan entries slot device what).slot
  sent_knows open_now plan device what acts =
      sent_pairs (FirstPair devices) change members entries slot k.in_step all device what
      (λ a side pair request is goes known has.
      turned_first v a.seat.stage side.resync what side.wire request a.next (fresh open_now (device - 1) a.seat side pair a.quiet has) (known has)
      (opens (asked_in_fact side.resync what)) refl) plan acts

  pub renewed_knows : (plan : ChangePlan) (device : ℕ) → AllFirst devices (renews plan entries slot device).slot
  renewed_knows plan device =
      renewed_pairs (FirstPair devices) change members entries slot k.in_step all device
      (λ seat side pair request is goes known has first number current. known has first number (sym (gone_current side.wire request) ∙ current)) plan

  pub broken_knows : (device : ℕ) → AllFirst devices (breaks slot device).slot
  broken_knows device =
      broken_pairs (FirstPair devices) change members entries slot k.in_step all device
      (λ seat side pair known has first number current. gone_first (broken_stage seat.stage) (broken_first seat.stage) first)

  pub received_knows : (device link number : ℕ) → AllFirst devices (receives slot device link number).slot
  received_knows device link number =
      received_pairs (FirstPair devices) change members entries slot k.in_step all device link number
      (λ seat side pair exchange due what awaited plain known has first other current.
      known has (learnt_first v seat.stage what exchange.reply first) other (was_some (ends exchange.request exchange.reply) side.wire.current other current))
      (λ seat side pair exchange due awaited known has first other current.
      gone_first (found_stage (settled_in (resync_learnt side.resync.commit side.resync.stage exchange.reply)))
      (found_first (settled_in (resync_learnt side.resync.commit side.resync.stage exchange.reply))) first)

module _ {Config Node : Type 0} (devices : List (RecordedState Config Node)) (slot : SlotState) (all : AllFirst devices slot) where
  -- sides of links end, or are told
  pub sides_know : (happens : WireState → WireState) → ((wire : WireState) → (happens wire).current ≡ wire.current) → (device : ℕ)
      → AllFirst devices (wires_on happens slot device (slice_get slot.sides (device - 1)))
  sides_know happens same device =
      wires_pairs (FirstPair devices) slot all happens device
      (λ seat side known has first number current. known has first number (sym (same side.wire) ∙ current))

  pub lost_knows : (device link : ℕ) → AllFirst devices (wires_on (lost_wire link) slot device (slice_get slot.sides (device - 1)))
  lost_knows device link = sides_know (lost_wire link) (λ wire. changed_current _ wire link (link_at wire link)) device

  pub restarted_knows : (device : ℕ) → AllFirst devices (wires_on restarted slot device (slice_get slot.sides (device - 1)))
  restarted_knows device = sides_know restarted (λ wire. refl) device

  -- the verdict falls
  pub decided_knows : (v : Verdict) → AllFirst devices (decided slot v)
  decided_knows v =
      decided_pairs (FirstPair devices) slot v slot.course.verdict
      (λ place seat side here there known has first number current. known has (stage_before v seat first) number current) all
    where
      stage_before : (v : Verdict) (seat : Seat) → is_at_first (decided_seat v seat).stage ≡ true → is_at_first seat.stage ≡ true
      stage_before verdict.Commit seat f = f
      stage_before (verdict.Abort why) seat f = aborted_first (is_some seat.awaited) seat.stage f

  -- a device has gone on
  module _ (d : ℕ) (r now : RecordedState Config Node) (here : slice_get devices d ≡ Some r) where
    still_there : (place : ℕ) → is_some (slice_get (slice_set devices d now) place) ≡ is_some (slice_get devices place)
    still_there = others_stay (λ j o. is_some o ≡ is_some (slice_get devices j)) devices d r now here (sym (ap is_some here)) (λ j ne. refl)

    pub moved_knows : AllFirst (slice_set devices d now) slot
    moved_knows =
        pairs_map (FirstPair devices) (FirstPair (slice_set devices d now)) slot.course.verdict slot.course.verdict slot
        (λ place seat side seated there known has. known (sym (still_there place) ∙ has)) all

-- memory is lost: no link is current
module _ {Config Node : Type 0} (devices : List (RecordedState Config Node)) where
  cut_first : (place : ℕ) (v : Option Verdict) (commit : Bool) (seat : Seat) (side : SideState) → FirstPair devices place v seat (cut_off commit side)
  cut_first place v commit seat side = λ has first number current. absurd (none-some number current)

  pub forgotten_knows : (slot : SlotState) (members : ℕ) (found : Option Verdict) → AllFirst devices (lost_memory slot members found)
  forgotten_knows slot members found =
      forgotten_pairs (FirstPair devices) slot members found (λ place seat side stage there. cut_first place found (to_commit found) seat side)

  pub anew_knows : (slot : SlotState) (entries : List Entry) (change members : ℕ) → AllFirst devices (starts_anew entries change members slot)
  anew_knows slot entries change members =
      anew_pairs (FirstPair devices) slot entries change members
      (λ place seat side stage there. cut_first place (verdict_in change entries) (to_commit (verdict_in change entries)) seat side)
      (λ place seat side stage there. cut_first place None (to_commit (verdict_in change entries)) seat side)
