-- The verdict and the end of a change set may come into the journal when they are due.
use Rattle.std.proofs.Common.{◌≡◌, ◌∙◌, ℕ, ◌+◌, ◌-◌, ◌≤◌, ◌==◌, Bool, true, false, cond, not, ◌&&◌, ◌||◌, List, length, Option, Some, None, IfSome, is_some, slice_get, refl, sym, ap, subst, arith}
use Rattle.std.specs.List.{list_any}
use Rattle.std.proofs.lemmas.Bool.Decides.{nat_tests}
use Rattle.std.proofs.lemmas.Option.{slice_get_within}
use Rattle.nm_base.specs.declared.mask.DeviceMask.{DeviceMask}
use Rattle.nm_base.specs.Mask.{mask_contains}
use Rattle.nm_proto.specs.declared.journal.Verdict.{Verdict}
use Rattle.nm_proto.specs.declared.journal.Verdict.TheVariants as verdict
use Rattle.nm_proto.specs.declared.journal.Entry.{Entry}
use Rattle.nm_proto.specs.declared.journal.Entry.TheVariants.{Ended}
use Rattle.nm_proto.specs.declared.plan.ChangePlan.{ChangePlan}
use Rattle.nm_proto.specs.declared.plan.Event.{Event}
use Rattle.nm_proto.specs.Content.{Meaning, Laws}
use Rattle.nm_proto.specs.Plan.{devices_in}
use Rattle.nm_journal.specs.Entries.{decides, aborts, is_within, may_follow}
use Rattle.nm_journal.specs.Record.{is_change}
use Rattle.nm_recovery.specs.Recovery as recovery
use Rattle.nm_recovery.specs.Recovery.{is_ended_in, verdict_in}
use Rattle.nm_decider_stage.specs.declared.stage.Stage.{Stage}
use Rattle.nm_decider_stage.specs.Stages.{has_kept}
use Rattle.nm_decider.specs.declared.seat.Seat.{Seat}
use Rattle.nm_decider.specs.declared.course.NextAction.{NextAction}
use Rattle.nm_decider.specs.declared.course.NextAction.TheVariants as next
use Rattle.nm_decider.specs.Course.{next_action, seat_count}
use Rattle.nm_decider.specs.Rightly.{ActsRightly}
use Rattle.nm_manager.specs.Queues.{is_ready_in}
use Rattle.nm_manager.specs.Slot.{SideState, SlotState}
use Rattle.nm_manager.specs.Manager.{slot_at, entry_of, entry_by, entry_next, entry_turned}
use Rattle.nm_world.specs.World as world
use Rattle.nm_world.specs.World.{Setting, CoreState, WorldState, core_of, elementary, manager_in, run, start, world_step}
use Rattle.nm_world.proofs.Growing.{event_enters}
use Rattle.nm_safety.specs.Safe.{IsGiven, IsProper, is_abort}
use Rattle.nm_safety.specs.Step.{IsInStep, may_stand}
use Rattle.nm_safety.specs.Support.{IsSupported}
use Rattle.nm_safety.proofs.Entries.{ready_is_open, ready_is_started}
use Rattle.nm_safety.proofs.Journal.{commit_follows, abort_follows}
use Rattle.nm_safety.proofs.Managed.{kept_here, planned_by}
use Rattle.nm_safety.proofs.PairSteps.{pair_at}
use Rattle.nm_safety.proofs.Runs.{one_supported}
use Rattle.nm_safety.proofs.Seats as seats
use Rattle.nm_safety.proofs.Start.{begin_supported}
use Rattle.nm_safety.proofs.Steps.{run_keeps}
use Rattle.nm_safety.proofs.Tables.{both}
use Rattle.nm_safety.proofs.Tickets.{AreTickets, one_tickets}
use Rattle.nm_run_laws.specs.Due.{ComesWhenDue}
use Rattle.nm_rest_laws.proofs.rest.Entering.{AreDecidedOnce, enters_once, mask_of, devices_there, undecided_none, none_kept, kept_within, end_follows}
use Rattle.nm_rest_laws.proofs.rest.Waiting.{kept_mask, end_keeps}

-- a change set of a plan is numbered as one with a record
is_number : (change : ℕ) → 1 ≤ change → change ≤ 64 → is_change change ≡ true
is_number change numbered few = grind (arith, nat_tests)

-- who stands after an abort hasn't kept it
not_kept : (v : Verdict) (member : Bool) (stage : Stage) → is_abort (Some v) ≡ true → may_stand (Some v) stage ≡ true → (member && has_kept stage) ≡ false
not_kept verdict.Commit member stage a s = absurd (let f : false ≡ true = a in cc)
not_kept (verdict.Abort why) member stage a s = grind arith

or_left : (a b : Bool) → a ≡ true → (a || b) ≡ true
or_left true b e = refl
or_left false b e = absurd (let f : false ≡ true = e in cc)

or_right : (a b : Bool) → b ≡ false → (a || not b) ≡ true
or_right true b e = refl
or_right false b e = ap not e

zero_is : (n : ℕ) → n ≡ 0 → (n == 0) ≡ true
zero_is n e = grind (arith, nat_tests)

-- ---- one change set, by what is kept of it

module _ (change : ℕ) (numbered : 1 ≤ change) (few : change ≤ 64) (plan : ChangePlan) (entries : List Entry) (slot : SlotState) (in_step : IsInStep change (devices_in plan.edits) entries slot)
    (journalled : recovery.devices_in change entries ≡ Some (mask_of plan)) (is_open : is_ended_in change entries ≡ false) (once : AreDecidedOnce entries) where
  known : slot.course.verdict ≡ verdict_in change entries
  known = in_step.decided is_open

  acts : ActsRightly slot.course
  acts = seats.acts change (devices_in plan.edits) entries slot in_step

  numbers : is_change change ≡ true
  numbers = is_number change numbered few

  first_now : slot.course.verdict ≡ None → list_any (decides change) entries ≡ false
  first_now none = undecided_none change entries (sym known ∙ none)

  stands_at : (j : ℕ) (seat : Seat) → slice_get slot.course.seats j ≡ Some seat → may_stand slot.course.verdict seat.stage ≡ true
  stands_at j seat here = by_side (slice_get slot.sides j) refl
    where
      by_side : (found : Option SideState) → slice_get slot.sides j ≡ found → may_stand slot.course.verdict seat.stage ≡ true
      by_side None at = absurd (pair_at change (devices_in plan.edits) entries slot in_step j (Some seat) None here at)
      by_side (Some side) at = (pair_at change (devices_in plan.edits) entries slot in_step j (Some seat) (Some side) here at).1.stands

  member_at : (j : ℕ) (seat : Seat) → slice_get slot.course.seats j ≡ Some seat → seat.is_member ≡ mask_contains (devices_in plan.edits) (j + 1)
  member_at j seat here = by_side (slice_get slot.sides j) refl
    where
      by_side : (found : Option SideState) → slice_get slot.sides j ≡ found → seat.is_member ≡ mask_contains (devices_in plan.edits) (j + 1)
      by_side None at = absurd (pair_at change (devices_in plan.edits) entries slot in_step j (Some seat) None here at)
      by_side (Some side) at = (pair_at change (devices_in plan.edits) entries slot in_step j (Some seat) (Some side) here at).0.member

  -- none has kept it after an abort
  none_after : (kept : DeviceMask) → kept ≡ kept_mask slot.course.seats → (kept.0 == 0 || not (list_any (aborts change) entries)) ≡ true
  none_after kept is = by_abort (list_any (aborts change) entries) refl
    where
      not_it : (v : Option Verdict) → slot.course.verdict ≡ v → is_abort v ≡ true → (j : ℕ) (seat : Seat) → slice_get slot.course.seats j ≡ Some seat → (seat.is_member && has_kept seat.stage) ≡ false
      not_it None e f j seat here = absurd (let g : false ≡ true = f in cc)
      not_it (Some v) e f j seat here = not_kept v seat.is_member seat.stage f (subst (λ o. may_stand o seat.stage ≡ true) e (stands_at j seat here))

      by_abort : (b : Bool) → list_any (aborts change) entries ≡ b → (kept.0 == 0 || not (list_any (aborts change) entries)) ≡ true
      by_abort false e = or_right (kept.0 == 0) (list_any (aborts change) entries) e
      by_abort true e =
          or_left (kept.0 == 0) (not (list_any (aborts change) entries))
          (zero_is kept.0 (ap (λ (mask : DeviceMask). mask.0) is ∙ none_kept 0 slot.course.seats (not_it slot.course.verdict refl (ap is_abort known ∙ once change e))))

  ends : (kept : DeviceMask) → next_action slot.course ≡ next.Finish kept → may_follow entries (Ended change kept) ≡ true
  ends kept e = end_now (end_keeps slot.course slot.course.verdict kept refl (acts.finishes kept e).decided e)
    where
      long_enough : (n : ℕ) → n ≡ seat_count → n ≤ 32
      long_enough n e = omega (arith, e)

      end_now : kept ≡ kept_mask slot.course.seats → may_follow entries (Ended change kept) ≡ true
      end_now is =
          end_follows change kept (mask_of plan) entries numbers journalled
          (subst (λ (mask : DeviceMask). is_within mask.0 (devices_in plan.edits) ≡ true) (sym is)
          (kept_within (devices_in plan.edits) slot.course.seats (long_enough (length slot.course.seats) (seats.long change (devices_in plan.edits) entries slot in_step))
          (λ j seat here kept_it. sym (member_at j seat here) ∙ (both seat.is_member (has_kept seat.stage) kept_it).0)))
          (ap is_some (sym known) ∙ (acts.finishes kept e).decided) is_open (none_after kept is)

  -- what is due, where anything is
  pub due : (what : NextAction) → next_action slot.course ≡ what → IfSome (entry_of change what) (λ entry. may_follow entries entry ≡ true)
  due next.Wait e = tt
  due (next.Send device what) e = tt
  due (next.Decide verdict.Commit) e = commit_follows change (mask_of plan) entries numbers journalled (first_now (acts.commits e).undecided)
  due (next.Decide (verdict.Abort why)) e =
      let may = acts.aborts why e in
      abort_follows change (mask_of plan) entries slot why in_step may.noted numbers journalled (first_now may.undecided)
  due (next.Finish kept) e = ends kept e

-- ---- a world

abbrev MayCome : List Entry → Option Entry → Type 0
MayCome entries entry = IfSome entry (λ one. may_follow entries one ≡ true)

module _ {Config TheEdit Node : Type 0} (m : Meaning Config TheEdit Node) (setting : Setting TheEdit) (few : length setting.plans ≤ 64) (w : CoreState Config Node) (s : IsSupported m setting w)
    (tickets : AreTickets setting.plans w.entries) (once : AreDecidedOnce w.entries) (change : ℕ) (numbered : 1 ≤ change) where
  by_slot : is_ready_in w.entries change ≡ true → (slot : Option SlotState) → slice_get w.slots (change - 1) ≡ slot → MayCome w.entries (entry_by change slot)
  by_slot ready None there = tt
  by_slot ready (Some slot) there =
      planned_by m setting w s change numbered slot (MayCome w.entries (entry_of change (next_action slot.course))) there
      (λ plan planned.
      let within = slice_get_within setting.plans (change - 1) plan planned in
      due change numbered (omega (arith, within, few)) plan w.entries slot (kept_here m setting w s change numbered plan slot planned there).in_step
      (devices_there setting.plans change plan planned w.entries tickets (ready_is_started w.entries change ready)) (ready_is_open w.entries change ready) once (next_action slot.course) refl)
      (slice_get setting.plans (change - 1)) refl

  pub may_come : MayCome w.entries (entry_turned (manager_in w) change)
  may_come = by_ready (is_ready_in w.entries change) refl
    where
      by_ready : (b : Bool) → is_ready_in w.entries change ≡ b → MayCome w.entries (cond b (entry_next (manager_in w) change) None)
      by_ready true ready = by_slot ready (slot_at (manager_in w) change) refl
      by_ready false ready = tt

-- ---- a run

module _ {Config TheEdit Node : Type 0} (m : Meaning Config TheEdit Node) (laws : Laws m) (setting : Setting TheEdit) (running : List Config) (events : List Event)
    (proper : IsProper {Node = Node} m setting running events) where
  record IsDue (w : WorldState Config Node) : Type 0 where
    supported : IsSupported m setting (core_of w)
    tickets : AreTickets setting.plans w.entries
    once : AreDecidedOnce w.entries

  one_due : (w : WorldState Config Node) (event : Event) → IsGiven setting event → IsDue w → IsDue (world_step m setting w event)
  one_due w event given k = record {
    supported = one_supported m laws setting proper.edits proper.few proper.strangers w event given k.supported;
    tickets = one_tickets m setting w event given k.tickets;
    once = enters_once w.entries (world.entry_of setting (core_of w) event) (elementary m setting (core_of w) event).after.entries (event_enters m setting (core_of w) event) k.once;
  }

  start_due : IsDue (start setting running)
  start_due = record {
    supported = begin_supported m setting running proper.first;
    tickets = λ i. tt;
    once = λ change h. absurd (let f : false ≡ true = h in cc);
  }

  pub run_comes : ComesWhenDue (run m setting (start {Node = Node} setting running) events)
  run_comes =
      let k : IsDue (run m setting (start setting running) events) = run_keeps m setting IsDue one_due (start setting running) events proper.given start_due in
      record { turned = λ change numbered. may_come m setting proper.few (core_of (run m setting (start setting running) events)) k.supported k.tickets k.once change numbered }
