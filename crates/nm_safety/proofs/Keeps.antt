-- What is kept of one change set at each step of the manager for it, and as entries come.
use Rattle.std.proofs.Common.{ℕ, ◌≡◌, ◌∙◌, ◌⊎◌, inl, inr, ◌-◌, ◌+◌, ◌≤◌, true, false, List, [], ◌∷◌, ◌++◌, Option, Some, None, IfSome, slice_get, slice_set, refl, sym, ap, subst}
use Rattle.std.specs.List.{list_any}
use Rattle.nm_proto.specs.declared.ask.Ask.{Ask}
use Rattle.nm_proto.specs.declared.journal.Entry.{Entry}
use Rattle.nm_proto.specs.declared.journal.Entry.TheVariants.{Decided}
use Rattle.nm_proto.specs.declared.journal.Verdict.{Verdict}
use Rattle.nm_proto.specs.declared.plan.ChangePlan.{ChangePlan}
use Rattle.nm_journal.specs.Entries.{decides, ends, may_follow}
use Rattle.nm_history.specs.History.{RecordedState}
use Rattle.nm_recovery.specs.Recovery.{is_started, is_ended_in, verdict_in}
use Rattle.nm_decider.specs.declared.course.NextAction.TheVariants.{Send, Decide}
use Rattle.nm_decider.specs.Course.{CourseState, next_action}
use Rattle.nm_wire.specs.Link.{LinkState}
use Rattle.nm_wire.specs.Wire.{WireState, broken, due, handled}
use Rattle.nm_manager.specs.Requests.{request_for}
use Rattle.nm_manager.specs.Slot.{SideState, SlotState, PairStep, SlotStep, with_pair, sends, renews, receives, receives_due, awaits_resync, breaks, breaks_current, to_commit, decided, lost_memory, on_side, receives_pair, breaks_pair}
use Rattle.nm_manager.proofs.Reach.{side_reached}
use Rattle.nm_safety.specs.Slots.{AllHold}
use Rattle.nm_safety.proofs.Places.{set_same, verdict_same, verdict_new}
use Rattle.nm_safety.proofs.Slots.{sent_holds, renewed_holds, received_holds, broken_holds, forgotten_holds, decided_holds}
use Rattle.nm_safety.proofs.PairSteps.{received_stays, broken_stays, decided_stays, entered_stays, lost_stays}
use Rattle.nm_safety.specs.Support.{Owners, IsOurs, IsLinked, IsAtRest, IsKept}
use Rattle.nm_safety.proofs.Lists.{some_is}
use Rattle.nm_safety.proofs.Seats.{ready, undecided}
use Rattle.nm_safety.proofs.Entries.{any_later, decided_started}
use Rattle.nm_safety.proofs.Ours.{request_ours, fresh_linked, sent_linked, handled_linked, entered_linked, all_links_map}
use Rattle.nm_safety.proofs.SlotLinks.{sent_links, renewed_links, received_links, broken_links, decided_links, cut_links}
use Rattle.nm_safety.proofs.Courses.{sent_same, renewed_same, received_same, broken_same, sent_in_step, renewed_in_step}

none_current : (wire : WireState) (link number : ℕ) → wire.current ≡ None → due wire link number ≡ None
none_current wire link number e = by_current wire.current e
  where
    by_current : (current : Option ℕ) → current ≡ None → due (record { links = wire.links; current = current }) link number ≡ None
    by_current None e = refl
    by_current (Some other) e = absurd (let g : Some other ≡ None = e in cc)

pub already_broken : (wire : WireState) → wire.current ≡ None → wire ≡ broken wire
already_broken wire e = ap (λ c. record { links = wire.links; current = c }) e

module _ {Config Node : Type 0} (change members : ℕ) (owners : ℕ → Owners) (devices : List (RecordedState Config Node)) where
  abbrev Kept : List Entry → SlotState → Type 0
  Kept entries slot = IsKept change members entries owners devices slot

  module _ (entries : List Entry) (slot : SlotState) (k : Kept entries slot) where
    abbrev P : ℕ → ℕ → LinkState → Type 0
    P d = IsLinked change entries (owners d) (slice_get devices d)

    unmoved_kept : (d : ℕ) (side : SideState) → slice_get slot.sides d ≡ Some side → Kept entries (record { course = slot.course; sides = slice_set slot.sides d side })
    unmoved_kept d side there = subst (λ sides. Kept entries (record { course = slot.course; sides = sides })) (sym (set_same slot.sides d side there)) k

    -- the course has the verdict of the journal until the end
    pub of_journal : is_ended_in change entries ≡ false → slot.course.verdict ≡ verdict_in change entries
    of_journal open_now = k.in_step.decided open_now

    -- ---- requests go out

    ours_by : (plan : ChangePlan) (device : ℕ) (what : Ask) → IfSome (request_for plan entries slot.course.change device what) (IsOurs change)
    ours_by plan device what = subst (λ c. IfSome (request_for plan entries c device what) (IsOurs change)) (sym k.numbered) (request_ours plan entries change device what)

    pub sent_kept : (plan : ChangePlan) (device : ℕ) (what : Ask) → is_started change entries ≡ true → is_ended_in change entries ≡ false → next_action slot.course ≡ Send device what
        → Kept entries (sends plan entries slot device what).slot
    sent_kept plan device what begun open_now next = record {
      numbered = (sent_same plan entries slot device what).change ∙ k.numbered;
      in_step = sent_in_step change members entries slot k.in_step plan device what next;
      known = inl ((sent_same plan entries slot device what).verdict ∙ of_journal open_now);
      holds = sent_holds change (verdict_in change entries) devices slot k.holds members entries k.in_step (of_journal open_now) plan device what next;
      linked = sent_links P slot k.linked (λ d place. fresh_linked change entries (owners d) (slice_get devices d) begun place) (IsOurs change)
          (λ d place request link ours quiet p. sent_linked change entries (owners d) (slice_get devices d) place request link ours quiet p) plan entries (ours_by plan) device what;
      tells = k.tells;
    }

    pub renewed_kept : (plan : ChangePlan) (device : ℕ) → 1 ≤ device → is_started change entries ≡ true → is_ended_in change entries ≡ false → Kept entries (renews plan entries slot device).slot
    renewed_kept plan device numbered begun open_now = record {
      numbered = (renewed_same plan entries slot device).change ∙ k.numbered;
      in_step = renewed_in_step change members entries slot k.in_step plan device numbered;
      known = inl ((renewed_same plan entries slot device).verdict ∙ of_journal open_now);
      holds = renewed_holds change (verdict_in change entries) devices slot k.holds members entries k.in_step (of_journal open_now) plan device;
      linked = renewed_links P slot k.linked (λ d place. fresh_linked change entries (owners d) (slice_get devices d) begun place) (IsOurs change)
          (λ d place request link ours quiet p. sent_linked change entries (owners d) (slice_get devices d) place request link ours quiet p) plan entries (ours_by plan) device;
      tells = k.tells;
    }

    -- ---- a reply is handled, a link breaks

    rest_due : (device link number : ℕ) (side : SideState) → slice_get slot.sides (device - 1) ≡ Some side → side.wire.current ≡ None
        → Kept entries (with_pair slot device (receives_due (awaits_resync (slice_get slot.course.seats (device - 1))) slot.course side device (handled side.wire link number) (due side.wire link number))).slot
    rest_due device link number side there cut =
        subst (λ told. Kept entries (with_pair slot device (receives_due (awaits_resync (slice_get slot.course.seats (device - 1))) slot.course side device (handled side.wire link number) told)).slot)
        (sym (none_current side.wire link number cut)) (unmoved_kept (device - 1) side there)

    -- a step for a device, where all is at rest
    on_rest : (step : CourseState → SideState → PairStep) (device : ℕ) → IsAtRest change members entries slot
        → ((side : SideState) → slice_get slot.sides (device - 1) ≡ Some side → side.wire.current ≡ None → Kept entries (with_pair slot device (step slot.course side)).slot)
        → Kept entries (on_side step slot device (slice_get slot.sides (device - 1))).slot
    on_rest step device rest goes =
        side_reached step slot device (λ (done : SlotStep). Kept entries done.slot) k
        (λ side there. goes side there (some_is side (λ one. one.wire.current ≡ None) (slice_get slot.sides (device - 1)) there (rest.cut (device - 1))))

    received_by : (device link number : ℕ) → 1 ≤ device → (slot.course.verdict ≡ verdict_in change entries) ⊎ IsAtRest change members entries slot → Kept entries (receives slot device link number).slot
    received_by device link number numbered (inr rest) = on_rest (receives_pair device link number) device rest (rest_due device link number)
    received_by device link number numbered (inl of_entries) = record {
      numbered = (received_same slot device link number).change ∙ k.numbered;
      in_step = received_stays change members entries slot k.in_step device numbered link number;
      known = inl ((received_same slot device link number).verdict ∙ of_entries);
      holds = received_holds change (verdict_in change entries) devices slot k.holds members entries k.in_step of_entries device link number;
      linked = received_links P slot k.linked (λ d place one p. handled_linked change entries (owners d) (slice_get devices d) place one p) device link number;
      tells = k.tells;
    }

    pub received_kept : (device link number : ℕ) → 1 ≤ device → Kept entries (receives slot device link number).slot
    received_kept device link number numbered = received_by device link number numbered k.known

    rest_breaks : (device : ℕ) (side : SideState) → slice_get slot.sides (device - 1) ≡ Some side → side.wire.current ≡ None
        → Kept entries (with_pair slot device (breaks_current slot.course side device side.wire.current)).slot
    rest_breaks device side there cut =
        subst (λ current. Kept entries (with_pair slot device (breaks_current slot.course side device current)).slot) (sym cut) (unmoved_kept (device - 1) side there)

    broken_by : (device : ℕ) → 1 ≤ device → (slot.course.verdict ≡ verdict_in change entries) ⊎ IsAtRest change members entries slot → Kept entries (breaks slot device).slot
    broken_by device numbered (inr rest) = on_rest (breaks_pair device) device rest (rest_breaks device)
    broken_by device numbered (inl of_entries) = record {
      numbered = (broken_same slot device).change ∙ k.numbered;
      in_step = broken_stays change members entries slot k.in_step device numbered;
      known = inl ((broken_same slot device).verdict ∙ of_entries);
      holds = broken_holds change (verdict_in change entries) devices slot k.holds members entries k.in_step of_entries device;
      linked = broken_links P slot k.linked device;
      tells = k.tells;
    }

    pub broken_kept : (device : ℕ) → 1 ≤ device → Kept entries (breaks slot device).slot
    broken_kept device numbered = broken_by device numbered k.known

    -- ---- memory is lost

    pub forgotten_kept : is_ended_in change entries ≡ false → Kept entries (lost_memory slot members (verdict_in change entries))
    forgotten_kept open_now = record {
      numbered = k.numbered;
      in_step = lost_stays change members entries slot k.in_step;
      known = inl refl;
      holds = forgotten_holds change (verdict_in change entries) devices slot k.holds members entries k.in_step (of_journal open_now) (verdict_in change entries);
      linked = cut_links P slot k.linked (to_commit (verdict_in change entries));
      tells = k.tells;
    }

    -- ---- an entry comes

    abbrev Q : Entry → ℕ → ℕ → LinkState → Type 0
    Q entry d = IsLinked change (entries ++ entry ∷ []) (owners d) (slice_get devices d)

    entered_known : (entry : Entry) → decides change entry ≡ false → (slot.course.verdict ≡ verdict_in change entries) ⊎ IsAtRest change members entries slot
        → (slot.course.verdict ≡ verdict_in change (entries ++ entry ∷ [])) ⊎ IsAtRest change members (entries ++ entry ∷ []) slot
    entered_known entry other (inl of_entries) = inl (of_entries ∙ sym (verdict_same change entries entry other))
    entered_known entry other (inr rest) = inr (record { ended = any_later (ends change) entries entry rest.ended; seats = rest.seats; cut = rest.cut })

    pub entered_kept : (entry : Entry) → decides change entry ≡ false → Kept (entries ++ entry ∷ []) slot
    entered_kept entry other = record {
      numbered = k.numbered;
      in_step = entered_stays change members entries slot entry k.in_step other;
      known = entered_known entry other k.known;
      holds = subst (λ v. AllHold change v slot devices) (sym (verdict_same change entries entry other)) k.holds;
      linked = all_links_map P (Q entry) (λ d place link p. entered_linked change entries (owners d) (slice_get devices d) entry place link p) slot.sides k.linked;
      tells = k.tells;
    }

    -- ---- the verdict falls

    pub decided_kept : (v : Verdict) → next_action slot.course ≡ Decide v → may_follow entries (Decided change v) ≡ true → is_ended_in change entries ≡ false
        → Kept (entries ++ Decided change v ∷ []) (decided slot v)
    decided_kept v next may open_now =
        let first : list_any (decides change) entries ≡ false = (decided_started change v entries may).1 in
        let new : verdict_in change (entries ++ Decided change v ∷ []) ≡ Some v = verdict_new change entries v first in
        let none_yet : slot.course.verdict ≡ None = undecided change members entries slot k.in_step v next in
        record {
          numbered = k.numbered;
          in_step = decided_stays change members entries slot v k.in_step none_yet first;
          known = inl (sym new);
          holds = subst (λ found. AllHold change found (decided slot v) devices) (sym new)
              (decided_holds change devices slot v
              (λ place seat there commit member. (ready change members entries slot k.in_step v next place seat there commit member).acknowledged) (subst (λ found. AllHold change found slot devices) (sym (of_journal open_now) ∙ none_yet) k.holds));
          linked = all_links_map P (Q (Decided change v)) (λ d place link p. entered_linked change entries (owners d) (slice_get devices d) (Decided change v) place link p) (decided slot v).sides
              (decided_links P slot k.linked v);
          tells = k.tells;
        }
