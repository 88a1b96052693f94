-- At its turn a change set sends a request, or is decided, or ends.
use Rattle.std.proofs.Common.{◌≡◌, ◌≢◌, ◌∙◌, ◌⊎◌, inl, inr, ℕ, zero, suc, ◌+◌, ◌-◌, ◌≤◌, ◌<◌, ◌==◌, Bool, true, false, cond, not, ◌&&◌, ◌||◌, List, [], ◌∷◌, length, Option, Some, None, is_some, slice_get, slice_set, refl, sym, ap, subst, arith}
use Rattle.std.specs.List.{All, list_any}
use Rattle.std.proofs.lemmas.Bool.Decides.{nat_tests}
use Rattle.nm_base.specs.declared.mask.DeviceMask.{DeviceMask}
use Rattle.nm_base.specs.Mask.{mask_contains}
use Rattle.nm_proto.specs.declared.ask.Ask.{Ask}
use Rattle.nm_proto.specs.declared.message.Request.{Request}
use Rattle.nm_proto.specs.declared.journal.Verdict.{Verdict}
use Rattle.nm_proto.specs.declared.journal.Verdict.TheVariants as verdict
use Rattle.nm_proto.specs.declared.journal.Entry.{Entry}
use Rattle.nm_proto.specs.declared.journal.Entry.TheVariants.{Decided, Ended}
use Rattle.nm_proto.specs.declared.plan.ChangePlan.{ChangePlan}
use Rattle.nm_proto.specs.declared.plan.Event.TheVariants.{Turn}
use Rattle.nm_proto.specs.Content.{Meaning}
use Rattle.nm_proto.specs.Plan.{devices_in}
use Rattle.nm_journal.specs.Entries.{decides, aborts, is_within, may_follow}
use Rattle.nm_journal.specs.Record.{is_change}
use Rattle.nm_recovery.specs.Recovery as recovery
use Rattle.nm_recovery.specs.Recovery.{is_ended_in, verdict_in}
use Rattle.nm_history.specs.History.{RecordedState}
use Rattle.nm_decider_stage.specs.declared.stage.Stage.{Stage}
use Rattle.nm_decider_stage.specs.Stages.{has_kept}
use Rattle.nm_decider.specs.declared.seat.Seat.{Seat}
use Rattle.nm_decider.specs.declared.course.NextAction.{NextAction}
use Rattle.nm_decider.specs.declared.course.NextAction.TheVariants as next
use Rattle.nm_decider.specs.Course as course
use Rattle.nm_decider.specs.Course.{next_action, seat_count}
use Rattle.nm_decider.specs.Rightly.{IsAsked}
use Rattle.nm_decider.proofs.Actions.{asked}
use Rattle.nm_wire.specs.Wire.{current_link}
use Rattle.nm_manager.specs.declared.action.Action.TheVariants as action
use Rattle.nm_manager.specs.Requests.{request_for}
use Rattle.nm_manager.specs.Queues.{is_ready_in}
use Rattle.nm_manager.specs.Slot.{SideState, SlotState, with_pair, with_wire, asked_in_fact, opens, may_go, gone, number_of, sends_if, sends_request, sends, decided, on_side, sends_pair}
use Rattle.nm_manager.specs.Manager.{ManagerState, Step, idle, slot_at, with_slot, with_entry, enters, sent_by, decided_by, acts, turned_by, turned}
use Rattle.nm_world.specs.declared.happened.Happened.TheVariants as happened
use Rattle.nm_world.specs.World.{Setting, CoreState, manager_in, with_manager, happened_of, elementary}
use Rattle.nm_world.specs.Drain.{goes_on}
use Rattle.nm_safety.specs.Step.{GoWith, GoesWith, IsInStep, may_stand, is_sent}
use Rattle.nm_safety.proofs.Journal.{commit_follows, abort_follows}
use Rattle.nm_safety.proofs.PairSteps.{pair_at, sent_stays}
use Rattle.nm_safety.specs.Safe.{is_abort}
use Rattle.nm_safety.proofs.Lists.{some_is}
use Rattle.nm_safety.proofs.Entries.{ready_is_open, ready_is_started}
use Rattle.nm_safety.proofs.Managed.{kept_here}
use Rattle.nm_rest_laws.specs.Rest.{IsWithin}
use Rattle.nm_rest_laws.specs.Steady.{is_right, IsSteady, IsRightSeat, IsAble}
use Rattle.nm_safety.proofs.Tables.{both}
use Rattle.nm_safety.proofs.Seats as seats
use Rattle.nm_safety.proofs.Seats.{long}
use Rattle.nm_rest_laws.proofs.rest.Lasting.{IsLasting}
use Rattle.nm_rest_laws.proofs.rest.PairSteps.{IsPairStep}
use Rattle.nm_rest_laws.proofs.rest.Planned.{devices_within, each_planned}
use Rattle.nm_rest_laws.proofs.rest.Entering.{AreDecidedOnce, mask_of, devices_there, undecided_none, none_kept, kept_within, end_follows}
use Rattle.nm_rest_laws.proofs.rest.Quieting.{IsCalmLink, quiet_link, quiet_seat}
use Rattle.nm_rest_laws.proofs.rest.Waiting.{IsReadySeat, never_waits, kept_mask, end_keeps}
use Rattle.nm_rest_laws.proofs.rest.Going.{went_out, out_step}

-- who is settled after an abort hasn't kept it
not_kept : (v : Verdict) (member : Bool) (stage : Stage) → is_abort (Some v) ≡ true → may_stand (Some v) stage ≡ true → (member && has_kept stage) ≡ false
not_kept verdict.Commit member stage a s = absurd (let f : false ≡ true = a in cc)
not_kept (verdict.Abort why) member stage a s = grind arith

module _ {A : Type 0} where
  -- what stands at a place below the length
  pub at_within : (xs : List A) (i : ℕ) → i < length xs → (P : Type 0) → ((x : A) → slice_get xs i ≡ Some x → P) → P
  at_within [] i h P step = absurd (omega (arith, h))
  at_within (x ∷ xs) zero h P step = step x refl
  at_within (x ∷ xs) (suc i) h P step = at_within xs i (omega (arith, h)) P step

module _ {Config TheEdit Node : Type 0} (m : Meaning Config TheEdit Node) (setting : Setting TheEdit) (w : CoreState Config Node) (change : ℕ) where
  abbrev pub turned_core : CoreState Config Node
  turned_core = (elementary m setting w (Turn change)).after

  abbrev pub IsNoIdleTurn : Type 0
  IsNoIdleTurn = (elementary m setting w (Turn change)).happened ≢ happened.Idle

  -- a request is sent
  pub record IsSent : Type 0 where
    pub place : ℕ
    pub moved : IsPairStep w turned_core (change - 1) place
    pub happens : IsNoIdleTurn

  -- it is decided
  pub record IsDecidedNow (slot : SlotState) : Type 0 where
    pub decision : Verdict
    pub undecided : slot.course.verdict ≡ None
    pub after_is : turned_core ≡ with_manager w (with_slot (with_entry (manager_in w) (Decided change decision)) change (decided slot decision))
    pub happens : IsNoIdleTurn

  -- it ends
  pub record IsEndedNow : Type 0 where
    pub kept : DeviceMask
    pub after_is : turned_core ≡ with_manager w (with_entry (manager_in w) (Ended change kept))
    pub happens : IsNoIdleTurn

  abbrev pub TurnsTo : SlotState → Type 0
  TurnsTo slot = IsSent ⊎ (IsDecidedNow slot ⊎ IsEndedNow)

module _ {Config TheEdit Node : Type 0} (m : Meaning Config TheEdit Node) (setting : Setting TheEdit) (n : ℕ) (w : CoreState Config Node) (k : IsLasting m setting n w) (once : AreDecidedOnce w.entries)
    (change : ℕ) (numbered : 1 ≤ change) (few : change ≤ 64) (ready : is_ready_in w.entries change ≡ true) (turn_next : goes_on w.devices (manager_in w) change ≡ Some (Turn change))
    (slot : SlotState) (there : slice_get w.slots (change - 1) ≡ Some slot) (plan : ChangePlan) (planned : slice_get setting.plans (change - 1) ≡ Some plan)
    (count : length w.devices ≤ 32) (within : All (IsWithin (length w.devices)) plan.edits) where
  abbrev state : ManagerState
  state = manager_in w

  in_step : IsInStep change (devices_in plan.edits) w.entries slot
  in_step = (kept_here m setting w k.supported change numbered plan slot planned there).in_step

  able : IsAble change w.entries slot
  able =
      let same : suc (change - 1) ≡ change = omega (arith, numbered) in
      subst (λ c. IsAble c w.entries slot) same (some_is slot (IsAble (suc (change - 1)) w.entries) (slice_get w.slots (change - 1)) there (k.going.slots (change - 1)))

  is_open_now : is_ended_in change w.entries ≡ false
  is_open_now = ready_is_open w.entries change ready

  known : slot.course.verdict ≡ verdict_in change w.entries
  known = in_step.decided is_open_now

  is_number : is_change change ≡ true
  is_number = number change numbered few
    where
      number : (c : ℕ) → 1 ≤ c → c ≤ 64 → is_change c ≡ true
      number c a b = grind (arith, nat_tests)

  journalled : recovery.devices_in change w.entries ≡ Some (mask_of plan)
  journalled = devices_there setting.plans change plan planned w.entries k.going.tickets (ready_is_started w.entries change ready)

  -- ---- the devices of the change set

  -- it is there, and of it nothing is awaited
  pub record IsHere (j : ℕ) (seat : Seat) : Type 0 where
    pub side : SideState
    pub at : slice_get slot.sides j ≡ Some side
    pub r : RecordedState Config Node
    pub has : slice_get w.devices j ≡ Some r
    pub goes : GoesWith slot.course.verdict seat side
    pub steady : IsSteady side.wire
    pub calm : IsCalmLink r (current_link side.wire)
    pub fit : IsReadySeat slot.course.verdict slot.course.trouble seat

  here_by : (j : ℕ) (seat : Seat) → slice_get slot.course.seats j ≡ Some seat → seat.is_member ≡ true → (found : Option SideState) → slice_get slot.sides j ≡ found → GoWith (devices_in plan.edits) slot.course.verdict (j + 1) (Some seat) found → IsHere j seat
  here_by j seat here member None at pair = absurd pair
  here_by j seat here member (Some side) at pair =
      let low : j + 1 ≤ length w.devices = devices_within (length w.devices) count plan.edits within (j + 1) (omega arith) (sym pair.0.member ∙ member) in
      at_within w.devices j (omega (arith, low)) (IsHere j seat)
      (λ r has.
      let quiet : seat.awaited ≡ None = quiet_seat m setting n w k change turn_next j r has slot there side at slot.course.verdict seat pair.1 in record {
        side = side;
        at = at;
        r = r;
        has = has;
        goes = pair.1;
        steady = some_is side (λ one. IsSteady one.wire) (slice_get slot.sides j) at (able.wires j);
        calm = quiet_link m setting n w k change turn_next j r has slot there side at;
        fit = record {
          right = subst (λ o. is_right slot.course.verdict slot.course.trouble seat.stage o ≡ true) quiet
              (some_is seat (IsRightSeat slot.course.verdict slot.course.trouble) (slice_get slot.course.seats j) here (able.course j) member);
          quiet = quiet;
        };
      })

  is_here : (j : ℕ) (seat : Seat) → slice_get slot.course.seats j ≡ Some seat → seat.is_member ≡ true → IsHere j seat
  is_here j seat here member = here_by j seat here member (slice_get slot.sides j) refl (pair_at change (devices_in plan.edits) w.entries slot in_step j (Some seat) (slice_get slot.sides j) here refl)

  -- ---- what a turn does

  abbrev step : Step
  step = turned setting.plans state change

  step_is : (what : NextAction) → next_action slot.course ≡ what → step ≡ acts setting.plans state change what
  step_is what e =
      ap (λ b. cond b (turned_by setting.plans state change (slot_at state change)) (idle state)) ready ∙ ap (turned_by setting.plans state change) there ∙ ap (acts setting.plans state change) e

  -- ---- a request

  module _ (device : ℕ) (what : Ask) (e : next_action slot.course ≡ next.Send device what) where
    abbrev a : IsAsked slot.course device what
    a = asked slot.course device what e

    abbrev h : IsHere (device - 1) a.seat
    h = is_here (device - 1) a.seat a.here a.member

    abbrev found : Option Request
    found = request_for plan w.entries slot.course.change device (asked_in_fact h.side.resync what)

    sends_is : sends plan w.entries slot device what ≡ with_pair slot device (sends_request (opens (asked_in_fact h.side.resync what)) device slot.course (course.with_sent slot.course device) h.side found)
    sends_is = ap (on_side (sends_pair plan w.entries device what) slot device) h.at

    sent_now : is_sent (with_pair slot device (sends_request (opens (asked_in_fact h.side.resync what)) device slot.course (course.with_sent slot.course device) h.side found)).action ≡ true
    sent_now = ap (λ one. is_sent one.action) (sym sends_is) ∙ (sent_stays change (devices_in plan.edits) w.entries slot in_step plan (each_planned (length w.devices) count plan within) device what e).sent

    abbrev new : Bool
    new = opens (asked_in_fact h.side.resync what)

    abbrev link_number : Request → ℕ
    link_number request = number_of (gone new h.side.wire request).current

    went : (request : Request) → found ≡ Some request → may_go new h.side.wire ≡ true → IsSent m setting w change
    went request is may = record {
      place = device - 1;
      moved = out_step w (turned_core m setting w change) change device slot there what a h.side h.at h.r h.has h.goes h.steady h.calm request may (ap (λ (s : Step). s.state.slots) all) (ap (λ (s : Step). s.state.entries) all) refl refl;
      happens = λ idle_now. absurd (let f : happened.Sent device (link_number request) request ≡ happened.Idle = sym happens_is ∙ idle_now in cc);
    }
      where
        goes_is : sends plan w.entries slot device what ≡ with_pair slot device (sends_if true new device slot.course (course.with_sent slot.course device) h.side request)
        goes_is =
            sends_is ∙ ap (λ o. with_pair slot device (sends_request new device slot.course (course.with_sent slot.course device) h.side o)) is
            ∙ ap (λ b. with_pair slot device (sends_if b new device slot.course (course.with_sent slot.course device) h.side request)) may

        all : step ≡ record {
          action = action.Sent device (link_number request) request;
          state = with_slot state change (record { course = course.with_sent slot.course device; sides = slice_set slot.sides (device - 1) (with_wire h.side (gone new h.side.wire request)) });
        }
        all =
            step_is (next.Send device what) e ∙ ap (λ o. sent_by state change o (slot_at state change) device what) planned ∙ ap (λ o. sent_by state change (Some plan) o device what) there
            ∙ ap (λ one. let s : Step = record { action = one.action; state = with_slot state change one.slot } in s) goes_is

        happens_is : (elementary m setting w (Turn change)).happened ≡ happened.Sent device (link_number request) request
        happens_is = ap (λ (s : Step). happened_of s.action) all

    is_sent_now : IsSent m setting w change
    is_sent_now = went_out slot device new slot.course (course.with_sent slot.course device) h.side found sent_now (IsSent m setting w change) went

  -- ---- an entry

  entered : (entry : Entry) (what : _) (now : ManagerState) → may_follow w.entries entry ≡ true → enters state entry what now ≡ record { action = what; state = now }
  entered entry what now may = ap (λ b. cond b (record { action = what; state = now }) (idle state)) may

  decided_now : (v : Verdict) → next_action slot.course ≡ next.Decide v → slot.course.verdict ≡ None → may_follow w.entries (Decided change v) ≡ true → IsDecidedNow m setting w change slot
  decided_now v e none may = record {
    decision = v;
    undecided = none;
    after_is = ap (λ (s : Step). with_manager w s.state) all;
    happens = λ idle_now. absurd (let f : happened.Decided v ≡ happened.Idle = sym (ap (λ (s : Step). happened_of s.action) all) ∙ idle_now in cc);
  }
    where
      all : step ≡ record { action = action.Decided v; state = with_slot (with_entry state (Decided change v)) change (decided slot v) }
      all =
          step_is (next.Decide v) e ∙ ap (decided_by state change v) there
          ∙ entered (Decided change v) (action.Decided v) (with_slot (with_entry state (Decided change v)) change (decided slot v)) may

  first_now : slot.course.verdict ≡ None → list_any (decides change) w.entries ≡ false
  first_now none = undecided_none change w.entries (sym known ∙ none)

  by_decision : (v : Verdict) → next_action slot.course ≡ next.Decide v → IsDecidedNow m setting w change slot
  by_decision verdict.Commit e =
      let c = (seats.acts change (devices_in plan.edits) w.entries slot in_step).commits e in
      decided_now verdict.Commit e c.undecided (commit_follows change (mask_of plan) w.entries is_number journalled (first_now c.undecided))
  by_decision (verdict.Abort why) e =
      let c = (seats.acts change (devices_in plan.edits) w.entries slot in_step).aborts why e in
      decided_now (verdict.Abort why) e c.undecided (abort_follows change (mask_of plan) w.entries slot why in_step c.noted is_number journalled (first_now c.undecided))

  -- ---- the end

  seats_long : length slot.course.seats ≡ seat_count
  seats_long = long change (devices_in plan.edits) w.entries slot in_step

  stands_at : (j : ℕ) (seat : Seat) → slice_get slot.course.seats j ≡ Some seat → may_stand slot.course.verdict seat.stage ≡ true
  stands_at j seat here = by_side (slice_get slot.sides j) refl
    where
      by_side : (found : Option SideState) → slice_get slot.sides j ≡ found → may_stand slot.course.verdict seat.stage ≡ true
      by_side None at = absurd (pair_at change (devices_in plan.edits) w.entries slot in_step j (Some seat) None here at)
      by_side (Some side) at = (pair_at change (devices_in plan.edits) w.entries slot in_step j (Some seat) (Some side) here at).1.stands

  seated_at : (j : ℕ) (seat : Seat) → slice_get slot.course.seats j ≡ Some seat → seat.is_member ≡ mask_contains (devices_in plan.edits) (j + 1)
  seated_at j seat here = by_side (slice_get slot.sides j) refl
    where
      by_side : (found : Option SideState) → slice_get slot.sides j ≡ found → seat.is_member ≡ mask_contains (devices_in plan.edits) (j + 1)
      by_side None at = absurd (pair_at change (devices_in plan.edits) w.entries slot in_step j (Some seat) None here at)
      by_side (Some side) at = (pair_at change (devices_in plan.edits) w.entries slot in_step j (Some seat) (Some side) here at).0.member

  -- none has kept it after an abort
  none_after : (kept : DeviceMask) → kept ≡ kept_mask slot.course.seats → (kept.0 == 0 || not (list_any (aborts change) w.entries)) ≡ true
  none_after kept is = by_abort (list_any (aborts change) w.entries) refl
    where
      or_left : (a b : Bool) → a ≡ true → (a || b) ≡ true
      or_left true b e = refl
      or_left false b e = absurd (let f : false ≡ true = e in cc)

      or_right : (a b : Bool) → b ≡ false → (a || not b) ≡ true
      or_right true b e = refl
      or_right false b e = ap not e

      zero_is : (n : ℕ) → n ≡ 0 → (n == 0) ≡ true
      zero_is n e = grind (arith, nat_tests)

      verdict_of : (v : Option Verdict) → slot.course.verdict ≡ v → is_abort v ≡ true → (j : ℕ) (seat : Seat) → slice_get slot.course.seats j ≡ Some seat → (seat.is_member && has_kept seat.stage) ≡ false
      verdict_of None e f j seat here = absurd (let g : false ≡ true = f in cc)
      verdict_of (Some v) e f j seat here = not_kept v seat.is_member seat.stage f (subst (λ o. may_stand o seat.stage ≡ true) e (stands_at j seat here))

      by_abort : (b : Bool) → list_any (aborts change) w.entries ≡ b → (kept.0 == 0 || not (list_any (aborts change) w.entries)) ≡ true
      by_abort false e = or_right (kept.0 == 0) (list_any (aborts change) w.entries) e
      by_abort true e =
          or_left (kept.0 == 0) (not (list_any (aborts change) w.entries))
          (zero_is kept.0 (ap (λ (mask : DeviceMask). mask.0) is ∙ none_kept 0 slot.course.seats (verdict_of slot.course.verdict refl (ap is_abort known ∙ once change e))))

  ended_now : (kept : DeviceMask) → next_action slot.course ≡ next.Finish kept → kept ≡ kept_mask slot.course.seats → IsEndedNow m setting w change
  ended_now kept e is = record {
    kept = kept;
    after_is = ap (λ (s : Step). with_manager w s.state) all;
    happens = λ idle_now. absurd (let f : happened.Ended ≡ happened.Idle = sym (ap (λ (s : Step). happened_of s.action) all) ∙ idle_now in cc);
  }
    where
      decided_there : is_some (verdict_in change w.entries) ≡ true
      decided_there = ap is_some (sym known) ∙ ((seats.acts change (devices_in plan.edits) w.entries slot in_step).finishes kept e).decided

      long_enough : length slot.course.seats ≤ 32
      long_enough = let l = seats_long in omega (arith, l)

      all : step ≡ record { action = action.Ended; state = with_entry state (Ended change kept) }
      all =
          step_is (next.Finish kept) e
          ∙ entered (Ended change kept) action.Ended (with_entry state (Ended change kept))
          (end_follows change kept (mask_of plan) w.entries is_number journalled
          (subst (λ (mask : DeviceMask). is_within mask.0 (devices_in plan.edits) ≡ true) (sym is)
          (kept_within (devices_in plan.edits) slot.course.seats long_enough (λ j seat here kept_it. sym (seated_at j seat here) ∙ (both seat.is_member (has_kept seat.stage) kept_it).0)))
          decided_there is_open_now (none_after kept is))

  by_action : (what : NextAction) → next_action slot.course ≡ what → TurnsTo m setting w change slot
  by_action next.Wait e = absurd (never_waits slot.course (λ j seat here member. (is_here j seat here member).fit) e)
  by_action (next.Send device what) e = inl (is_sent_now device what e)
  by_action (next.Decide v) e = inr (inl (by_decision v e))
  by_action (next.Finish kept) e =
      inr (inr (ended_now kept e (end_keeps slot.course slot.course.verdict kept refl ((seats.acts change (devices_in plan.edits) w.entries slot in_step).finishes kept e).decided e)))

  pub turn_is : TurnsTo m setting w change slot
  turn_is = by_action (next_action slot.course) refl
