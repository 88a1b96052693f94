-- Each abort has its cause, at every event.
use Rattle.std.proofs.Common.{◌≡◌, ◌∙◌, ◌⊎◌, inl, inr, ℕ, zero, suc, ◌-◌, ◌+◌, ◌≤◌, Bool, true, false, not, ◌&&◌, nat_eq, List, [], ◌∷◌, ◌++◌, Contains, length}
use Rattle.std.proofs.Common.{Option, Some, None, IfSome, slice_get, slice_set, refl, sym, ap, subst, arith, if◌then◌else◌}
use Rattle.std.specs.List.{All}
use Rattle.std.proofs.lemmas.List.Elements.{Contains-push}
use Rattle.std.proofs.lemmas.Option.{same_Some}
use Rattle.nm_proto.specs.declared.ask.Ask.{Ask}
use Rattle.nm_proto.specs.declared.message.Request.{Request}
use Rattle.nm_proto.specs.declared.message.Request.TheVariants.{OpenSession}
use Rattle.nm_proto.specs.declared.journal.AbortCause.{AbortCause}
use Rattle.nm_proto.specs.declared.journal.AbortCause.TheVariants as cause
use Rattle.nm_proto.specs.declared.journal.Entry.{Entry}
use Rattle.nm_proto.specs.declared.journal.Entry.TheVariants.{Decided, Ended}
use Rattle.nm_proto.specs.declared.journal.Verdict.{Verdict}
use Rattle.nm_proto.specs.declared.journal.Verdict.TheVariants as verdict
use Rattle.nm_proto.specs.declared.plan.ChangePlan.{ChangePlan}
use Rattle.nm_proto.specs.declared.plan.Event.{Event}
use Rattle.nm_proto.specs.declared.plan.Event.TheVariants.{Submit, Turn, Deliver, Answer, Break, Lose, Advance, Restart, Forget, Crash, Renew, Foreign, Leave}
use Rattle.nm_proto.specs.Content.{Meaning, Laws}
use Rattle.nm_proto.specs.Plan.{devices_in}
use Rattle.nm_device.specs.Table.{opening_user}
use Rattle.nm_journal.specs.Entries.{may_follow}
use Rattle.nm_recovery.specs.Recovery.{is_started, is_ended_in, verdict_in}
use Rattle.nm_history.specs.declared.event.DeviceEvent.{DeviceEvent}
use Rattle.nm_history.specs.declared.event.DeviceEvent.TheVariants as device_event
use Rattle.nm_history.specs.History.{Happened, RecordedState, advancing, event_by, event_of, noted, recorded_with, restarting}
use Rattle.nm_decider.specs.declared.course.NextAction.TheVariants as next
use Rattle.nm_decider.specs.declared.seat.Seat.{Seat}
use Rattle.nm_decider.specs.Course as course
use Rattle.nm_decider.specs.Course.{next_action}
use Rattle.nm_wire.specs.declared.link.Exchange.{Exchange}
use Rattle.nm_wire.specs.Link.{session_of}
use Rattle.nm_wire.specs.Wire.{due, handled, outstanding_at, restarted, told}
use Rattle.nm_manager.specs.Slot.{SideState, SlotState, SlotStep, awaits_resync, breaks, breaks_current, breaks_pair, decided, lost_memory, lost_wire, receives, receives_due}
use Rattle.nm_manager.specs.Slot.{on_side, receives_pair, renews, restarted_slot, resync_goes_on, sends, told_wire, wire_of_side, wires_on, with_pair, with_wire}
use Rattle.nm_manager.specs.Manager.{ManagerState, course_after, restarted_on, start_anew, start_of, wire_of, with_entry, with_slot, with_step}
use Rattle.nm_world.specs.declared.happened.Happened.{Happened as What}
use Rattle.nm_world.specs.declared.happened.Happened.TheVariants as happened
use Rattle.nm_world.specs.World.{Setting, WorldState, Came, by_manager, came, core_of, crashing, idle, manager_in, passed, with_device, with_manager, with_opened}
use Rattle.nm_safety.specs.Step.{GoesWith}
use Rattle.nm_safety.specs.Support.{IsAtRest, IsKept, IsSupported}
use Rattle.nm_safety.specs.Cases.{Answers, Cases, IsLink, IsSlot, wired_with}
use Rattle.nm_safety.specs.Keeping.{Delivery, IsDone, devices_then, slot_then, world_then}
use Rattle.nm_safety.proofs.Entries.{decided_started, nat_itself, nat_same}
use Rattle.nm_safety.proofs.Facts.{SupportedIn, asked_done, delivery, entered_done}
use Rattle.nm_safety.proofs.Lists.{some_is}
use Rattle.nm_safety.proofs.Managed.{kept_here, others_stay, planned_by}
use Rattle.nm_safety.proofs.PairSteps.{pair_at}
use Rattle.nm_safety.proofs.Places.{verdict_same, verdict_new}
use Rattle.nm_safety.proofs.Tables.{both}
use Rattle.nm_safety.proofs.Wires.{IsDue, at_map, at_set, due_is, set_there}
use Rattle.nm_outcome_laws.specs.Causes.{exchanges_at, history_at, history_in, HasCause, links_to, verdict_told}
use Rattle.nm_outcome_laws.proofs.causes.Decisions.{abort_noted, sends_none, told_none}
use Rattle.nm_outcome_laws.proofs.causes.Trail.{IsPlain, decided_alike, ended_alike, idle_plain, plain_alike, started_alike, turn_plain}
use Rattle.nm_outcome_laws.proofs.causes.Wires.{due_told, exchange_now, lost_told, restarted_told}
use Rattle.nm_outcome_laws.proofs.causes.Slots.{SameSlot, same_slot, anew_told, broken_noted, current_told, decided_told, learnt_noted, lost_told_all, receives_told}
use Rattle.nm_outcome_laws.proofs.causes.Slots.{renews_same, renews_told, sends_same, sends_told, wires_same, wires_told}
use Rattle.nm_outcome_laws.proofs.causes.Refusals.{IsAnswered, asked_now, reply_causes}
use Rattle.nm_outcome_laws.proofs.causes.Stays.{trouble_of, Grows, IsCaused, Leaves, cause_stays, device_grows, entered_caused, goes_on, leaves_itself, plain_caused}
use Rattle.nm_outcome_laws.proofs.causes.Stays.{recorded_grows, same_troubles, slot_same, troubles_stay}
use Rattle.nm_outcome_laws.proofs.causes.Told.{slot_told, slots_told, told_caused, wire_told}

-- ---- all memory is lost

module _ (Q : ℕ → AbortCause → Type 0) (entries : List Entry)
    (has : (change : ℕ) → is_started change entries ≡ true → verdict_in change entries ≡ None → Q change cause.Forgotten) where
  noted_if : (change devices : ℕ) (b : Bool) → (b ≡ true → is_started change entries ≡ true)
      → IfSome (if b then course.recovered_course change devices (verdict_in change entries) else course.new_course change devices).trouble (Q change)
  noted_if change devices false begun = tt
  noted_if change devices true begun = by_verdict (verdict_in change entries) refl
    where
      by_verdict : (found : Option Verdict) → verdict_in change entries ≡ found → IfSome (course.lost_memory found) (Q change)
      by_verdict None e = has change (begun refl) e
      by_verdict (Some v) e = tt

  all_noted : (base : ℕ) (plans : List ChangePlan) (slots : List SlotState) → ((place : ℕ) → IfSome (trouble_of (slice_get slots place)) (Q (base + place)))
      → (place : ℕ) → IfSome (trouble_of (slice_get (start_anew entries base plans slots) place)) (Q (base + place))
  all_noted base [] slots old place = old place
  all_noted base (plan ∷ plans) [] old place = old place
  all_noted base (plan ∷ plans) (slot ∷ slots) old zero =
      subst (λ n. IfSome (course_after entries base (devices_in plan.edits)).trouble (Q n)) (here base)
      (noted_if base (devices_in plan.edits) (is_started base entries && not (is_ended_in base entries))
      (λ goes. (both (is_started base entries) (not (is_ended_in base entries)) goes).0))
    where
      here : (base : ℕ) → base ≡ base + 0
      here base = omega arith
  all_noted base (plan ∷ plans) (slot ∷ slots) old (suc place) =
      subst (λ n. IfSome (trouble_of (slice_get (start_anew entries (suc base) plans slots) place)) (Q n)) (later base place)
      (all_noted (suc base) plans slots (λ j. subst (λ n. IfSome (trouble_of (slice_get slots j)) (Q n)) (sym (later base j)) (old (suc j))) place)
    where
      later : (base place : ℕ) → suc base + place ≡ base + suc place
      later base place = omega arith

-- ---- one change set

trouble_set : (slots : List SlotState) (p : ℕ) (slot new : SlotState) → slice_get slots p ≡ Some slot → new.course.trouble ≡ slot.course.trouble
    → (place : ℕ) → trouble_of (slice_get (slice_set slots p new) place) ≡ trouble_of (slice_get slots place)
trouble_set slots p slot new there same place = at_set (λ before after. trouble_of after ≡ trouble_of before) (λ found. refl) slots p place slot new there same

module _ {Config TheEdit Node : Type 0} (m : Meaning Config TheEdit Node) (setting : Setting TheEdit) (w : WorldState Config Node)
    (s : IsSupported m setting (core_of w)) (k : IsCaused w) where
  abbrev state : ManagerState
  state = manager_in (core_of w)

  module _ (change : ℕ) (a : IsSlot (core_of w) change) where
    abbrev p : ℕ
    p = change - 1

    same_number : suc (change - 1) ≡ change
    same_number = let numbered : 1 ≤ change = a.numbered in omega (arith, numbered)

    abbrev Now : Event → What → SlotState → WorldState Config Node
    Now event what new = passed w event (came (with_manager (core_of w) (with_slot state change new)) what)

    -- what is noted of it has its cause then
    slot_caused : (event : Event) (what : What) (new : SlotState) (same : SameSlot (Some a.slot) (Some new)) → IsPlain (record { event = event; happened = what })
        → (((why : AbortCause) → HasCause w change why → HasCause (Now event what new) change why)
        → IfSome a.slot.course.trouble (HasCause (Now event what new) change) → IfSome new.course.trouble (HasCause (Now event what new) change))
        → IsCaused (Now event what new)
    slot_caused event what new same plain step =
        plain_caused w event c leaves k plain refl
        (others_stay (λ place found. IfSome (trouble_of found) (HasCause (Now event what new) (suc place))) w.slots p a.slot new a.there
        (subst (λ n. IfSome new.course.trouble (HasCause (Now event what new) n)) (sym same_number)
        (step (cause_stays w (Now event what new) (goes_on w event c leaves) change)
        (subst (λ n. IfSome a.slot.course.trouble (HasCause (Now event what new) n)) same_number
        (subst (λ found. IfSome (trouble_of found) (HasCause (Now event what new) (suc p))) a.there (troubles_stay w event c leaves k p)))))
        (λ place ne. troubles_stay w event c leaves k place))
      where
        c : Came Config Node
        c = came (with_manager (core_of w) (with_slot state change new)) what

        leaves : Leaves (core_of w) (with_manager (core_of w) (with_slot state change new))
        leaves = record { grows = λ place entry c. c; slots = slot_same w.slots p a.slot new a.there same }

    -- nothing more is noted
    quiet_caused : (event : Event) (what : What) (new : SlotState) → SameSlot (Some a.slot) (Some new) → new.course.trouble ≡ a.slot.course.trouble
        → IsPlain (record { event = event; happened = what }) → IsCaused (Now event what new)
    quiet_caused event what new same trouble plain =
        slot_caused event what new same plain (λ now old. subst (λ found. IfSome found (HasCause (Now event what new) change)) (sym trouble) old)

    -- ---- a request goes out

    sent_caused : (plan : ChangePlan) (device : ℕ) (what : Ask) (came_of : What) → verdict_told came_of ≡ None
        → IsCaused (Now (Turn change) came_of (sends plan w.entries a.slot device what).slot)
    sent_caused plan device what came_of none =
        quiet_caused (Turn change) came_of (sends plan w.entries a.slot device what).slot (sends_told a.slot device plan w.entries what)
        (sends_same a.slot device plan w.entries what) (turn_plain change came_of none)

    renewed_caused : (plan : ChangePlan) (device : ℕ) (came_of : What) → IsCaused (Now (Renew change device) came_of (renews plan w.entries a.slot device).slot)
    renewed_caused plan device came_of =
        quiet_caused (Renew change device) came_of (renews plan w.entries a.slot device).slot (renews_told a.slot device plan w.entries)
        (renews_same a.slot device plan w.entries) (record { starts_none = λ other. refl; decides_none = λ other. refl })

    -- ---- a reply is handled, and a link breaks

    module _ (plan : ChangePlan) (planned : slice_get setting.plans p ≡ Some plan) (device : ℕ) where
      kept : IsKept change (devices_in plan.edits) w.entries s.owners w.devices a.slot
      kept = kept_here m setting (core_of w) s change a.numbered plan a.slot planned a.there

      goes_with : (side : SideState) → slice_get a.slot.sides (device - 1) ≡ Some side → (seat : Seat)
          → slice_get a.slot.course.seats (device - 1) ≡ Some seat → GoesWith a.slot.course.verdict seat side
      goes_with side at_side seat here =
          (pair_at change (devices_in plan.edits) w.entries a.slot kept.in_step (device - 1) (Some seat) (Some side) here at_side).1

      module _ (link number : ℕ) (Q : AbortCause → Type 0) (now : (why : AbortCause) → HasCause w change why → Q why)
          (old : IfSome a.slot.course.trouble Q) where
        abbrev resyncs : Bool
        resyncs = awaits_resync (slice_get a.slot.course.seats (device - 1))

        due_noted : (side : SideState) → slice_get a.slot.sides (device - 1) ≡ Some side → (told : Option Exchange) → due side.wire link number ≡ told
            → IfSome (with_pair a.slot device (receives_due resyncs a.slot.course side device (handled side.wire link number) told)).slot.course.trouble Q
        due_noted side at_side None e = old
        due_noted side at_side (Some x) e =
            let d : IsDue side.wire link x = due_is side.wire link number x e in
            let wires : links_to w change device ≡ side.wire = ap (wire_of device) a.there ∙ ap wire_of_side at_side in
            let there : Contains (exchanges_at (links_to w change device) link) x =
            subst (λ wire. Contains (exchanges_at wire link) x) (sym wires) (due_told side.wire link x d) in
            learnt_noted Q a.slot device old x.reply
            (λ seat what here awaited.
            reply_causes device link x (links_to w change device) (history_at w.devices device) there (k.answered change device link x there) Q
            (λ tag refused. now (cause.Refused device tag) refused) (λ lapsed. now (cause.Lapsed device) lapsed) side.resync what
            (asked_now side.wire link x side.resync what seat.awaited d (goes_with side at_side seat here).asked awaited)) resyncs
            (resync_goes_on resyncs side.resync x.reply)

        heard_on : (found : Option SideState) → slice_get a.slot.sides (device - 1) ≡ found
            → IfSome (on_side (receives_pair device link number) a.slot device found).slot.course.trouble Q
        heard_on None at_side = old
        heard_on (Some side) at_side = due_noted side at_side (due side.wire link number) refl

      -- who has a current link has the verdict of the journal
      undecided_by : (side : SideState) (number : ℕ) → slice_get a.slot.sides (device - 1) ≡ Some side → side.wire.current ≡ Some number
          → a.slot.course.verdict ≡ None
          → (a.slot.course.verdict ≡ verdict_in change w.entries) ⊎ IsAtRest change (devices_in plan.edits) w.entries a.slot
          → verdict_in change w.entries ≡ None
      undecided_by side number at_side current none (inl same) = sym same ∙ none
      undecided_by side number at_side current none (inr rest) =
          let none_there = some_is side (λ one. one.wire.current ≡ None) (slice_get a.slot.sides (device - 1)) at_side (rest.cut (device - 1)) in
          absurd (let g : Some number ≡ None = sym current ∙ none_there in cc)

      abbrev AtBreak : SlotStep → Type 0
      AtBreak step = IsCaused (passed w (Break change device) (by_manager (core_of w) (with_step state change step)))

      break_plain : (what : What) → IsPlain (record { event = Break change device; happened = what })
      break_plain what = record { starts_none = λ other. refl; decides_none = λ other. refl }

      current_caused : (side : SideState) → slice_get a.slot.sides (device - 1) ≡ Some side → (current : Option ℕ) → side.wire.current ≡ current
          → AtBreak (with_pair a.slot device (breaks_current a.slot.course side device current))
      current_caused side at_side None e =
          slot_caused (Break change device) happened.Idle (with_pair a.slot device (breaks_current a.slot.course side device None)).slot
          (current_told a.slot device side at_side None) (break_plain happened.Idle) (λ now old. old)
      current_caused side at_side (Some number) e =
          let new : SlotState = (with_pair a.slot device (breaks_current a.slot.course side device (Some number))).slot in
          slot_caused (Break change device) happened.Broken new (current_told a.slot device side at_side (Some number)) (break_plain happened.Broken)
          (λ now old.
          broken_noted (HasCause (Now (Break change device) happened.Broken new) change) a.slot device old side number
          (λ none. record {
            earlier = w.trail;
            later = [];
            there = refl;
            undecided = (k.alike change).decided ∙ undecided_by side number at_side e none kept.known;
          }))

      broken_on : (found : Option SideState) → slice_get a.slot.sides (device - 1) ≡ found → AtBreak (on_side (breaks_pair device) a.slot device found)
      broken_on None at_side =
          slot_caused (Break change device) happened.Idle a.slot (same_slot (Some a.slot)) (break_plain happened.Idle) (λ now old. old)
      broken_on (Some side) at_side = current_caused side at_side side.wire.current refl

    with_plan : (T : Type 0) → ((plan : ChangePlan) → slice_get setting.plans p ≡ Some plan → T) → T
    with_plan T step = planned_by m setting (core_of w) s change a.numbered a.slot T a.there step (slice_get setting.plans p) refl

    heard_caused : (device link number : ℕ) (what : What) → IsCaused (Now (Answer change device link number) what (receives a.slot device link number).slot)
    heard_caused device link number what =
        let new : SlotState = (receives a.slot device link number).slot in
        with_plan (IsCaused (Now (Answer change device link number) what new))
        (λ plan planned.
        slot_caused (Answer change device link number) what new (receives_told a.slot device link number)
        (record { starts_none = λ other. refl; decides_none = λ other. refl })
        (λ now old.
        heard_on plan planned device link number (HasCause (Now (Answer change device link number) what new) change) now old
        (slice_get a.slot.sides (device - 1)) refl))

    broken_caused : (device : ℕ) → IsCaused (passed w (Break change device) (by_manager (core_of w) (with_step state change (breaks a.slot device))))
    broken_caused device =
        with_plan (IsCaused (passed w (Break change device) (by_manager (core_of w) (with_step state change (breaks a.slot device)))))
        (λ plan planned. broken_on plan planned device (slice_get a.slot.sides (device - 1)) refl)

    -- ---- memory is lost

    forgotten_noted : (Q : AbortCause → Type 0) (found : Option Verdict) → (found ≡ None → Q cause.Forgotten) → IfSome (course.lost_memory found) Q
    forgotten_noted Q None has = has refl
    forgotten_noted Q (Some v) has = tt

    forgotten_caused : (devices : ℕ) → is_started change w.entries ≡ true
        → IsCaused (Now (Forget change) happened.Forgot (lost_memory a.slot devices (verdict_in change w.entries)))
    forgotten_caused devices begun =
        let new : SlotState = lost_memory a.slot devices (verdict_in change w.entries) in
        slot_caused (Forget change) happened.Forgot new (lost_told_all a.slot devices (verdict_in change w.entries))
        (record { starts_none = λ other. refl; decides_none = λ other. refl })
        (λ now old.
        forgotten_noted (HasCause (Now (Forget change) happened.Forgot new) change) (verdict_in change w.entries)
        (λ none. record {
          earlier = w.trail;
          loss = record { event = Forget change; happened = happened.Forgot };
          later = [];
          there = refl;
          forgets = nat_itself change;
          begun = (k.alike change).started ∙ begun;
          still_open = (k.alike change).decided ∙ none;
        }))

    -- ---- the verdict falls

    -- the cause that is journalled was noted
    abort_caused : (v : Verdict) → next_action a.slot.course ≡ next.Decide v → may_follow w.entries (Decided change v) ≡ true
        → (other : ℕ) (why : AbortCause) (b : Bool) → nat_eq other change ≡ b
        → verdict_in other (w.entries ++ Decided change v ∷ []) ≡ Some (verdict.Abort why)
        → (verdict_in other w.entries ≡ Some (verdict.Abort why)) ⊎ HasCause w other why
    abort_caused v acts may other why false ne e = inl (sym (verdict_same other w.entries (Decided change v) ne) ∙ e)
    abort_caused v acts may other why true same e =
        let is : other ≡ change = nat_same other change same in
        let new : verdict_in change (w.entries ++ Decided change v ∷ []) ≡ Some v =
        verdict_new change w.entries v (decided_started change v w.entries may).1 in
        let now : verdict_in change (w.entries ++ Decided change v ∷ []) ≡ Some (verdict.Abort why) =
        subst (λ n. verdict_in n (w.entries ++ Decided change v ∷ []) ≡ Some (verdict.Abort why)) is e in
        let v_is : v ≡ verdict.Abort why = same_Some v (verdict.Abort why) (sym new ∙ now) in
        let noted_is : a.slot.course.trouble ≡ Some why = abort_noted a.slot.course why (acts ∙ ap next.Decide v_is) in
        inr (subst (λ n. HasCause w n why) (same_number ∙ sym is)
        (subst (λ found. IfSome found (HasCause w (suc p))) (ap trouble_of a.there ∙ noted_is) (k.troubles p)))

    decided_caused : (v : Verdict) → next_action a.slot.course ≡ next.Decide v → may_follow w.entries (Decided change v) ≡ true
        → IsCaused (passed w (Turn change)
        (came (with_manager (core_of w) (with_slot (with_entry state (Decided change v)) change (decided a.slot v))) (happened.Decided v)))
    decided_caused v acts may =
        entered_caused w (Turn change) c leaves k
        (λ other. decided_alike other w.trail w.entries change v (decided_started change v w.entries may).1 (k.alike other))
        (same_troubles w (Turn change) c leaves k (trouble_set w.slots p a.slot (decided a.slot v) a.there refl))
        (λ other why e. abort_caused v acts may other why (nat_eq other change) refl e)
      where
        c : Came Config Node
        c = came (with_manager (core_of w) (with_slot (with_entry state (Decided change v)) change (decided a.slot v))) (happened.Decided v)

        leaves : Leaves (core_of w) c.after
        leaves = record { grows = λ place entry h. h; slots = slot_same w.slots p a.slot (decided a.slot v) a.there (decided_told a.slot v) }

  -- ---- an entry comes that decides nothing

  module _ (change : ℕ) where
    same_slots : (entries : List Entry) → Leaves (core_of w) (record (core_of w) { entries = entries })
    same_slots entries = record { grows = λ place entry h. h; slots = λ place. same_slot (slice_get w.slots place) }

    started_caused : (plan : ChangePlan)
        → IsCaused (passed w (Submit change) (came (with_manager (core_of w) (with_entry state (start_of change plan))) happened.Started))
    started_caused plan =
        entered_caused w (Submit change) c (same_slots c.after.entries) k
        (λ other. started_alike other w.trail w.entries change (record { 0 = devices_in plan.edits }) (Some plan.timeout) (k.alike other))
        (same_troubles w (Submit change) c (same_slots c.after.entries) k (λ place. refl))
        (λ other why e. inl (sym (verdict_same other w.entries (start_of change plan) refl) ∙ e))
      where
        c : Came Config Node
        c = came (with_manager (core_of w) (with_entry state (start_of change plan))) happened.Started

    ended_caused : (kept : _) → IsCaused (passed w (Turn change) (came (with_manager (core_of w) (with_entry state (Ended change kept))) happened.Ended))
    ended_caused kept =
        entered_caused w (Turn change) c (same_slots c.after.entries) k
        (λ other.
        plain_alike other w.trail (w.entries ++ Ended change kept ∷ []) (record { event = Turn change; happened = happened.Ended })
        (turn_plain change happened.Ended refl) (ended_alike other w.trail w.entries change kept (k.alike other)))
        (same_troubles w (Turn change) c (same_slots c.after.entries) k (λ place. refl))
        (λ other why e. inl (sym (verdict_same other w.entries (Ended change kept) refl) ∙ e))
      where
        c : Came Config Node
        c = came (with_manager (core_of w) (with_entry state (Ended change kept))) happened.Ended

  -- ---- the manager starts anew

  crashed_caused : IsCaused (passed w Crash (crashing setting.plans (core_of w)))
  crashed_caused =
      plain_caused w Crash (crashing setting.plans (core_of w)) leaves k (record { starts_none = λ other. refl; decides_none = λ other. refl }) refl
      (λ place.
      subst (λ n. IfSome (trouble_of (slice_get (start_anew w.entries 1 setting.plans w.slots) place)) (HasCause crashed n)) (next_of place)
      (all_noted (HasCause crashed) w.entries
      (λ change begun none. record {
        earlier = w.trail;
        loss = record { event = Crash; happened = happened.Crashed };
        later = [];
        there = refl;
        forgets = refl;
        begun = (k.alike change).started ∙ begun;
        still_open = (k.alike change).decided ∙ none;
      }) 1 setting.plans w.slots
      (λ j. subst (λ n. IfSome (trouble_of (slice_get w.slots j)) (HasCause crashed n)) (sym (next_of j))
      (troubles_stay w Crash (crashing setting.plans (core_of w)) leaves k j)) place))
    where
      crashed : WorldState Config Node
      crashed = passed w Crash (crashing setting.plans (core_of w))

      leaves : Leaves (core_of w) (crashing setting.plans (core_of w)).after
      leaves = record { grows = λ place entry c. c; slots = anew_told w.entries 1 setting.plans w.slots }

      next_of : (place : ℕ) → 1 + place ≡ suc place
      next_of place = omega arith

  -- ---- a device, and the sides of links to it

  nothing_caused : (event : Event) → IsCaused (passed w event (idle (core_of w)))
  nothing_caused event =
      plain_caused w event (idle (core_of w)) (leaves_itself (core_of w)) k (idle_plain event) refl
      (same_troubles w event (idle (core_of w)) (leaves_itself (core_of w)) k (λ place. refl))

  -- a device's history grows, and no more is told on links
  moved_caused : (event : Event) (c : Came Config Node) → IsPlain (record { event = event; happened = c.happened }) → c.after.entries ≡ w.entries
      → ((place : ℕ) → Grows (slice_get w.devices place) (slice_get c.after.devices place))
      → ((place : ℕ) → SameSlot (slice_get w.slots place) (slice_get c.after.slots place))
      → ((place : ℕ) → trouble_of (slice_get c.after.slots place) ≡ trouble_of (slice_get w.slots place)) → IsCaused (passed w event c)
  moved_caused event c plain entries grows slots troubles =
      let leaves : Leaves (core_of w) c.after = record { grows = grows; slots = slots } in
      plain_caused w event c leaves k plain entries (same_troubles w event c leaves k troubles)

  grown : (device : ℕ) (r : RecordedState Config Node) → slice_get w.devices (device - 1) ≡ Some r → (event : DeviceEvent) (h : Happened Config Node)
      → (place : ℕ) → Grows (slice_get w.devices place) (slice_get (slice_set w.devices (device - 1) (recorded_with r event h)) place)
  grown device r here event h = device_grows w.devices (device - 1) r (recorded_with r event h) here (recorded_grows r event h)

  alone_caused : (event : Event) (what : What) → IsPlain (record { event = event; happened = what }) → (operators : List (List (Option ℕ))) (device : ℕ)
      (r : RecordedState Config Node) → slice_get w.devices (device - 1) ≡ Some r → (one : DeviceEvent) (h : Happened Config Node)
      → IsCaused (passed w event (came (record (with_device (core_of w) device (recorded_with r one h)) { operators = operators }) what))
  alone_caused event what plain operators device r here one h =
      moved_caused event (came (record (with_device (core_of w) device (recorded_with r one h)) { operators = operators }) what) plain refl
      (grown device r here one h) (λ place. same_slot (slice_get w.slots place)) (λ place. refl)

  -- a side ends
  closed_caused : (change device link : ℕ) (l : IsLink (core_of w) change device link) (devices : List (RecordedState Config Node)) (what : What)
      → ((place : ℕ) → Grows (slice_get w.devices place) (slice_get devices place))
      → IsCaused (passed w (Lose change device link)
      (came (record (core_of w) { devices = devices; slots = slice_set w.slots (change - 1) (wires_on (lost_wire link) l.slot device (Some l.side)) }) what))
  closed_caused change device link l devices what grows =
      let new : SlotState = wires_on (lost_wire link) l.slot device (Some l.side) in
      moved_caused (Lose change device link) (came (record (core_of w) { devices = devices; slots = slice_set w.slots (change - 1) new }) what)
      (record { starts_none = λ other. refl; decides_none = λ other. refl }) refl grows
      (slot_same w.slots (change - 1) l.slot new l.there (wires_told l.slot device (lost_wire link) (λ wire. lost_told wire link) (Some l.side) l.at_side))
      (trouble_set w.slots (change - 1) l.slot new l.there (wires_same l.slot device (lost_wire link) (Some l.side)))

  restarted_caused : (device : ℕ) (r : RecordedState Config Node) → slice_get w.devices (device - 1) ≡ Some r → (h : Happened Config Node)
      → IsCaused (passed w (Restart device)
      (came (with_manager (with_device (core_of w) device (recorded_with r device_event.Restarted h)) (restarted_on state device)) (happened.Restarted h.undone)))
  restarted_caused device r here h =
      moved_caused (Restart device)
      (came (with_manager (with_device (core_of w) device (recorded_with r device_event.Restarted h)) (restarted_on state device)) (happened.Restarted h.undone))
      (record { starts_none = λ other. refl; decides_none = λ other. refl }) refl (grown device r here device_event.Restarted h)
      (λ place. at_map SameSlot same_slot (restarted_slot device)
      (λ slot. wires_told slot device restarted restarted_told (slice_get slot.sides (device - 1)) refl) w.slots place)
      (λ place.
      at_map (λ before after. trouble_of after ≡ trouble_of before) (λ found. refl) (restarted_slot device)
      (λ slot. wires_same slot device restarted (slice_get slot.sides (device - 1))) w.slots place)

-- ---- a device does what a link asks

module _ {Config TheEdit Node : Type 0} (m : Meaning Config TheEdit Node) (setting : Setting TheEdit) (x : Delivery m setting (SupportedIn m setting))
    (k : IsCaused x.w) {event : DeviceEvent} (done : IsDone m setting (SupportedIn m setting) x event)
    (asked : event_of (session_of x.one) x.request ≡ Some event) where
  abbrev d : ℕ
  d = x.device - 1

  abbrev now : RecordedState Config Node
  now = recorded_with x.r event done.h

  abbrev exchange : Exchange
  exchange = exchange_now x.request done.reply (session_of x.one)

  answered : IsAnswered (session_of x.one) exchange now.history
  answered = record {
    noted = record {
      entry = noted event done.h;
      there = Contains-push x.r.history (noted event done.h);
      asked = asked;
      opened = x.ours.opens;
      replied = done.replies;
    };
    answer = done.answer;
  }

  answered_there : IsAnswered (session_of x.one) exchange (history_in (slice_get (devices_then m setting (SupportedIn m setting) x done) d))
  answered_there =
      subst (λ found. IsAnswered (session_of x.one) exchange (history_in found)) (sym (set_there x.w.devices d x.r now x.here)) answered

  delivered_caused : IsCaused (world_then m setting (SupportedIn m setting) x done)
  delivered_caused =
      told_caused x.w k (Deliver x.change x.device x.link) c (record { starts_none = λ other. refl; decides_none = λ other. refl }) refl
      (device_grows x.w.devices d x.r now x.here (recorded_grows x.r event done.h))
      (slots_told c.after.devices x.w.slots (x.change - 1) x.slot new x.there
      (slot_told c.after.devices x.slot d x.side (with_wire x.side (told x.side.wire x.link done.reply)) x.at_side
      (wire_told (history_in (slice_get c.after.devices d)) x.side.wire x.link x.one x.at_link x.request done.reply x.way answered_there)))
      (trouble_set x.w.slots (x.change - 1) x.slot new x.there refl)
    where
      new : SlotState
      new = slot_then m setting (SupportedIn m setting) x done

      c : Came Config Node
      c = came (with_manager (with_device (core_of x.w) x.device now) (with_slot (manager_in (core_of x.w)) x.change new))
          (happened.Replied done.reply done.h.undone)

-- ---- all of them

module _ {Config TheEdit Node : Type 0} (m : Meaning Config TheEdit Node) (laws : Laws m) (setting : Setting TheEdit)
    (edits : All m.edit_belongs setting.tables.edits) (few : length setting.plans ≤ 64) (w : WorldState Config Node) (s : SupportedIn m setting w)
    (k : IsCaused w) where
  abbrev pub IsCausedAfter : Event → Came Config Node → Type 0
  IsCausedAfter event c = IsCaused (passed w event c)

  module _ (change device link : ℕ) (l : IsLink (core_of w) change device link) where
    abbrev on : IsSlot (core_of w) change
    on = record { numbered = l.numbered; slot = l.slot; there = l.there }

    tells_caused : (request : Request) (out : outstanding_at l.side.wire link ≡ Some request) → opening_user request ≡ None → (session : ℕ)
        → session_of l.one ≡ Some session → (d : Answers m setting l.r (device_event.Asked session request))
        → IsCausedAfter (Deliver change device link) (came (wired_with (core_of w) l (told_wire link d.reply) (recorded_with l.r (device_event.Asked session request) d.h))
        (happened.Replied d.reply d.h.undone))
    tells_caused request out plain session is d =
        with_plan m setting w s k change on _
        (λ plan planned.
        let x : Delivery m setting (SupportedIn m setting) = delivery m setting (SupportedIn m setting) w s s few change device link l plan planned request out in
        delivered_caused m setting x k (asked_done m laws setting edits few (SupportedIn m setting) x session is d)
        (ap (event_by (session_of l.one) request) plain ∙ ap (λ o. event_by o request None) is))

    opens_caused : (user : List ℕ) (out : outstanding_at l.side.wire link ≡ Some (OpenSession user)) → (d : Answers m setting l.r (device_event.Entered user))
        → IsCausedAfter (Deliver change device link) (came (wired_with (core_of w) l (told_wire link d.reply) (recorded_with l.r (device_event.Entered user) d.h))
        (happened.Replied d.reply d.h.undone))
    opens_caused user out d =
        with_plan m setting w s k change on _
        (λ plan planned.
        let x : Delivery m setting (SupportedIn m setting) =
        delivery m setting (SupportedIn m setting) w s s few change device link l plan planned (OpenSession user) out in
        delivered_caused m setting x k (entered_done m laws setting edits few (SupportedIn m setting) x user refl d) refl)

  pub cases : Cases m setting (core_of w) IsCausedAfter
  cases = record {
    nothing = λ event. nothing_caused m setting w s k event;
    starts = λ change numbered plan planned may. started_caused m setting w s k change plan;
    decides = λ change a ready v acts may. decided_caused m setting w s k change a v acts may;
    finishes = λ change a ready kept acts may. ended_caused m setting w s k change kept;
    sends_out = λ change a ready device what acts.
        sent_caused m setting w s k change (record { numbered = a.numbered; slot = a.slot; there = a.there }) a.plan device what _
        (told_none (sends a.plan w.entries a.slot device what).action
        (sends_none a.plan w.entries a.slot device what (slice_get a.slot.sides (device - 1))));
    renews_timer = λ change device a known ready.
        renewed_caused m setting w s k change (record { numbered = a.numbered; slot = a.slot; there = a.there }) a.plan device _;
    hears = λ change device link number a known. heard_caused m setting w s k change a device link number _;
    breaks_off = λ change device a known. broken_caused m setting w s k change a device;
    forgets = λ change a begun going.
        forgotten_caused m setting w s k change (record { numbered = a.numbered; slot = a.slot; there = a.there }) (devices_in a.plan.edits) begun;
    crashes = crashed_caused m setting w s k;
    tells = tells_caused;
    opens = opens_caused;
    loses_session = λ change device link l opened session is h happens.
        closed_caused m setting w s k change device link l (slice_set w.devices (device - 1) (recorded_with l.r (device_event.Lost session) h))
        (happened.Lost h.undone)
        (grown m setting w s k device l.r l.here (device_event.Lost session) h);
    closes = λ change device link l opened is. closed_caused m setting w s k change device link l w.devices (happened.Lost false) (λ place entry c. c);
    restarts = λ device r here. restarted_caused m setting w s k device r here (restarting m r.device);
    passes = λ device seconds r here.
        alone_caused m setting w s k (Advance device seconds) (happened.Now (r.device.clock + seconds) (advancing m r.device seconds).undone)
        (record { starts_none = λ other. refl; decides_none = λ other. refl }) w.operators device r here (device_event.Advanced seconds) (advancing m r.device seconds);
    asks = λ number device a request plain session given opened d.
        alone_caused m setting w s k (Foreign number device request) (happened.Replied d.reply d.h.undone)
        (record { starts_none = λ other. refl; decides_none = λ other. refl })
        (slice_set w.operators (number - 1) (with_opened a.operator (device - 1) d.reply)) device a.r a.here (device_event.Asked session request) d.h;
    enters = λ number device a user own free d.
        alone_caused m setting w s k (Foreign number device (OpenSession user)) (happened.Replied d.reply d.h.undone)
        (record { starts_none = λ other. refl; decides_none = λ other. refl })
        (slice_set w.operators (number - 1) (with_opened a.operator (device - 1) d.reply)) device a.r a.here (device_event.Entered user) d.h;
    leaves = λ number device a session given opened h happens.
        alone_caused m setting w s k (Leave number device) (happened.Left h.undone)
        (record { starts_none = λ other. refl; decides_none = λ other. refl }) w.operators device a.r a.here (device_event.Lost session) h;
  }
