-- What an event at a device of the change set brings it to.
use Rattle.std.proofs.Common.{◌≡◌, ◌∙◌, inl, ℕ, suc, ◌-◌, ◌≤◌, List, [], ◌∷◌, Bool, true, false, cond, Option, Some, None, option_map, slice_get, slice_set, refl, ap, subst, arith}
use Rattle.std.proofs.lemmas.Slice.Eq.{bytes_eq-Decides}
use Rattle.nm_base.specs.Count.{raised}
use Rattle.nm_base.specs.Token.{token_of}
use Rattle.nm_proto.specs.declared.ask.Ask.{Ask}
use Rattle.nm_proto.specs.declared.journal.AbortCause.{AbortCause}
use Rattle.nm_proto.specs.declared.message.Request.{Request}
use Rattle.nm_proto.specs.declared.plan.Event.TheVariants.{Deliver, Answer, Turn}
use Rattle.nm_proto.specs.Content.{Meaning}
use Rattle.nm_decider_stage.specs.declared.stage.Stage.{Stage}
use Rattle.nm_decider_stage.specs.Stages.{next_ask, trouble_in}
use Rattle.nm_decider.specs.declared.seat.Seat.{Seat}
use Rattle.nm_decider.specs.declared.course.NextAction.TheVariants as next
use Rattle.nm_decider.specs.Course.{CourseState, noted, next_action, with_seat, with_sent, with_sent_at, with_reply_at}
use Rattle.nm_resync.specs.Resync.{ResyncState}
use Rattle.nm_wire.specs.declared.link.Exchange.{Exchange}
use Rattle.nm_wire.specs.Wire.{WireState, due, handled}
use Rattle.nm_history.specs.History.{RecordedState, served}
use Rattle.nm_manager.specs.Requests.{edit_for, edit_request, request_for}
use Rattle.nm_manager.specs.Slot.{SideState, SlotState, SlotStep, with_pair, wire_of_side, wires_on, told_wire, on_side, sends_pair, receives_pair, opens, receives_due, awaits_resync, sends_in_fact, sends_request, sends_if}
use Rattle.nm_manager.specs.Manager.{ManagerState, with_slot, idle, acts, turned_by}
use Rattle.nm_manager.specs.Queues.{is_ready_in}
use Rattle.nm_world.specs.World.{CoreState, elementary, manager_in, with_manager, with_device, met, delivering_at, delivered_to, does, told_by, undelivered}
use Rattle.nm_rest_laws.proofs.calm.Legs.{Leg, before, reply_to, asker, does as does_all, done_at}
use Rattle.nm_rest_laws.proofs.calm.Legs.Leg.{Opens, TakesRunning, TakesCandidate, Edits, Validates, Commits, Confirms, Closes}
use Rattle.nm_rest_laws.proofs.calm.Legs.Stop.{After}
use Rattle.nm_rest_laws.proofs.calm.Forms.{Form, Phase, verdict_of, stage_at, fits, ask_by, exchange, never, told_may, is_leg, IsLeg, is_learnt, asked_there}
use Rattle.nm_rest_laws.proofs.calm.Forms.Form.{Rests, Asks, Tells}
use Rattle.nm_rest_laws.proofs.calm.Forms.Phase.{Undecided, Committed, Over}
use Rattle.nm_safety.proofs.Places.{set_same, set_length}
use Rattle.nm_rest_laws.proofs.calm.Lists.{set_each}
use Rattle.nm_rest_laws.proofs.calm.Core.{Given, Sight, seat_in, course_in, slot_in, the, entries_in, core, request_in, links_in, number_in, side_in, Own, recorded_in, IsAt, AreAt, IsGood, Next, Here}

no_trouble : (phase : Phase) → noted (verdict_of phase) None None ≡ None
no_trouble Undecided = refl
no_trouble Committed = refl
no_trouble (Over kept) = refl

module _ {Config TheEdit Node : Type 0} (m : Meaning Config TheEdit Node) (g : Given Config TheEdit)
    (waits : 1 ≤ g.plan.timeout) (s : Sight Config Node) (good : IsGood m g s) where
  abbrev w : CoreState Config Node
  w = core g s

  abbrev state : ManagerState
  state = manager_in w

  abbrev slot : SlotState
  slot = slot_in s.phase s.seats s.sides

  abbrev course : CourseState
  course = course_in s.phase s.seats

  -- the world where the manager keeps something else
  abbrev slotted : SlotStep → CoreState Config Node
  slotted step = with_manager w (with_slot state 1 step.slot)

  abbrev kept : CourseState → List SideState → CoreState Config Node
  kept now sides = with_manager w (with_slot state 1 (record { course = now; sides = sides }))

  module _ (d : ℕ) (own : Own m g (d - 1)) (sent : ℕ) (resync : ResyncState) where
    abbrev r_in : Form → RecordedState Config Node
    r_in form = recorded_in m g own form

    abbrev side_of : Form → SideState
    side_of form = side_in g own.planned form resync

    abbrev links : Form → WireState
    links form = links_in g own.planned form

    abbrev request : Leg → Request
    request leg = request_in g own.planned leg

    abbrev number : Leg → ℕ
    number leg = number_in g own.planned leg

    abbrev leg_is : (leg : Leg) → IsLeg (token_of 1) g.plan.timeout own.planned leg
    leg_is leg = is_leg (token_of 1) g.plan.timeout own.planned leg

    abbrev At : Form → Type 0
    At form = Here m g s d own sent resync form

    abbrev devices_with : Form → List (RecordedState Config Node)
    devices_with form = slice_set s.devices (d - 1) (r_in form)

    abbrev seats_with : Form → ℕ → List Seat
    seats_with form more = slice_set s.seats (d - 1) (seat_in form more)

    abbrev sides_with : Form → List SideState
    sides_with form = slice_set s.sides (d - 1) (side_of form)

    -- it goes on from one form to another
    moved : (form then_at : Form) → At form → fits s.phase then_at ≡ true → (more : ℕ)
        → AreAt m g s.phase (devices_with then_at) (seats_with then_at more) (sides_with then_at)
    moved form then_at h may more =
        set_each (IsAt m g s.phase) s.seats s.sides s.devices (d - 1)
        (seat_in form sent) (seat_in then_at more) (side_of form) (side_of then_at) (r_in form) (r_in then_at)
        h.seat h.side h.r good.each
        (inl (record { own = own; form = then_at; may = may; sent = more; resync = resync; seat_is = refl; side_is = refl; r_is = refl }))

    -- what stands where the manager alone went on
    abbrev with_manager_at : Form → ℕ → Sight Config Node
    with_manager_at form more = record { phase = s.phase; devices = s.devices; seats = seats_with form more; sides = sides_with form; has_diverged = s.has_diverged }

    -- the device is as it was
    same_device : (form then_at : Form) (more : ℕ) → slice_get s.devices (d - 1) ≡ Some (r_in form) → r_in form ≡ r_in then_at
        → AreAt m g s.phase (devices_with then_at) (seats_with then_at more) (sides_with then_at)
        → AreAt m g s.phase s.devices (seats_with then_at more) (sides_with then_at)
    same_device form then_at more here same all =
        subst (λ devices. AreAt m g s.phase devices (seats_with then_at more) (sides_with then_at))
        (set_same s.devices (d - 1) (r_in then_at) (here ∙ ap Some same)) all

    -- ---- the device answers

    does_it : (leg : Leg) → served m g.tables (r_in (Asks leg)) (asker leg) (request leg)
        ≡ Some (done_at m g.tables (token_of 1) g.plan.timeout own.planned own.free.makes.first own.free.made leg)
    does_it leg =
        does_all m g.tables (token_of 1) g.plan.timeout own.planned own.free.makes.first own.free.made
        own.free.makes.edit own.free.makes.found own.free.makes.applied own.free.valid waits refl ((bytes_eq-Decides (token_of 1) (token_of 1)).1 refl) leg

    there : (leg : Leg) → undelivered (r_in (Asks leg)) (links (Asks leg)) 1 ≡ Some (request leg)
    there leg = asked_there m g.tables (token_of 1) g.plan.timeout own.planned own.free.makes.first own.free.made d leg

    pub delivered : (leg : Leg) → At (Asks leg) → Next m g s (Deliver 1 d 1)
    delivered leg h = record {
      sight = record { phase = s.phase; devices = devices_with (Tells leg); seats = s.seats; sides = sides_with (Tells leg); has_diverged = s.has_diverged };
      is = all;
      good = record {
        long = good.long;
        each = subst (λ seats. AreAt m g s.phase (devices_with (Tells leg)) seats (sides_with (Tells leg)))
            (set_same s.seats (d - 1) (seat_in (Asks leg) sent) h.seat)
            (moved (Asks leg) (Tells leg) h (told_may s.phase leg h.may) sent);
      };
    }
      where
        all : (elementary m (the g) w (Deliver 1 d 1)).after
            ≡ core g (record { phase = s.phase; devices = devices_with (Tells leg); seats = s.seats; sides = sides_with (Tells leg); has_diverged = s.has_diverged })
        all =
            ap (λ o. (met w d (delivering_at m g.tables state 1 d 1 o)).after) h.r
            ∙ ap (λ o. (met w d (delivered_to m g.tables (r_in (Asks leg)) state 1 d 1 (wire_of_side o))).after) h.side
            ∙ ap (λ o. (met w d (does m g.tables (r_in (Asks leg)) state 1 d 1 o (undelivered (r_in (Asks leg)) (links (Asks leg)) 1))).after)
            (leg_is leg).session
            ∙ ap (λ o. (met w d (does m g.tables (r_in (Asks leg)) state 1 d 1 (asker leg) o)).after) (there leg)
            ∙ ap (λ o. (met w d (told_by state 1 d 1 o)).after) (does_it leg)
            ∙ ap (λ o. with_manager (with_device w d (r_in (Tells leg))) (with_slot state 1 (wires_on (told_wire 1 (reply_to leg)) slot d o))) h.side
            ∙ ap (λ wire. core g (record {
              phase = s.phase;
              devices = devices_with (Tells leg);
              seats = s.seats;
              sides = slice_set s.sides (d - 1) (record { wire = wire; resync = resync });
              has_diverged = s.has_diverged;
            })) (leg_is leg).told_it

    -- ---- the manager handles the answer

    -- with the links as they are then, and what was due on them
    abbrev receives : Leg → Bool → WireState → Option Exchange → SlotStep
    receives leg resyncs wire exchange = with_pair slot d (receives_due resyncs course (side_of (Tells leg)) d wire exchange)

    abbrev handled_of : Leg → WireState
    handled_of leg = handled (links (Tells leg)) 1 (number leg)

    -- the course where a stage was learnt, and why there is trouble
    abbrev learns : Stage → Option AbortCause → CourseState
    learns stage why = record (with_seat course d (record { is_member = true; stage = stage; awaited = None; sent = sent })) { trouble = why }

    pub answered : (leg : Leg) → At (Tells leg) → Next m g s (Answer 1 d 1 (number leg))
    answered leg h = record {
      sight = with_manager_at (Rests (After leg)) sent;
      is = all;
      good = record {
        long = set_length s.seats (d - 1) (seat_in (Rests (After leg)) sent) ∙ good.long;
        each = same_device (Tells leg) (Rests (After leg)) sent h.r refl (moved (Tells leg) (Rests (After leg)) h (is_learnt s.phase leg h.may).still sent);
      };
    }
      where
        all : (elementary m (the g) w (Answer 1 d 1 (number leg))).after
            ≡ core g (with_manager_at (Rests (After leg)) sent)
        all =
            ap (λ o. slotted (on_side (receives_pair d 1 (number leg)) slot d o)) h.side
            ∙ ap (λ o. slotted (receives leg (awaits_resync o) (handled_of leg) (due (links (Tells leg)) 1 (number leg)))) h.seat
            ∙ ap (λ b. slotted (receives leg b (handled_of leg) (due (links (Tells leg)) 1 (number leg)))) (leg_is leg).plain
            ∙ ap (λ o. slotted (receives leg false (handled_of leg) o)) (leg_is leg).due_then
            ∙ ap (λ wire. slotted (receives leg false wire (Some (exchange (token_of 1) g.plan.timeout own.planned leg)))) (leg_is leg).handled_then
            ∙ ap (λ o. kept (with_reply_at course d (reply_to leg) o) (sides_with (Rests (After leg)))) h.seat
            ∙ ap (λ stage. kept (learns stage (noted (verdict_of s.phase) None (trouble_in d (ask_by leg) (reply_to leg)))) (sides_with (Rests (After leg))))
            (is_learnt s.phase leg h.may).stage
            ∙ ap (λ why. kept (learns (stage_at (After leg)) (noted (verdict_of s.phase) None why)) (sides_with (Rests (After leg))))
            ((leg_is leg).untroubled d)
            ∙ ap (λ why. kept (learns (stage_at (After leg)) why) (sides_with (Rests (After leg)))) (no_trouble s.phase)

    -- ---- the manager asks

    request_is : (leg : Leg) (now : Phase) → edit_for g.plan d ≡ Some own.planned → fits now (Asks leg) ≡ true
        → request_for g.plan (entries_in g now) 1 d (ask_by leg) ≡ Some (request leg)
    request_is Opens now here f = refl
    request_is TakesRunning now here f = refl
    request_is TakesCandidate now here f = refl
    request_is Edits Undecided here f = ap (option_map (edit_request (entries_in g Undecided) 1)) here
    request_is Edits Committed here f = never f
    request_is Edits (Over kept) here f = never f
    request_is Validates now here f = refl
    request_is Commits now here f = refl
    request_is Confirms now here f = refl
    request_is Closes now here f = refl

    numbered : 1 ≤ d → edit_for g.plan d ≡ Some own.planned
    numbered low = subst (λ n. edit_for g.plan n ≡ Some own.planned) (let e : suc (d - 1) ≡ d = omega (arith, low) in e) own.found

    -- a request goes out where there is one, on these links
    abbrev goes_out : Leg → Option Request → SlotStep
    goes_out leg found = with_pair slot d (sends_request (opens (ask_by leg)) d course (with_sent course d) (side_of (Rests (before leg))) found)

    abbrev awaits_then : Leg → Option Ask → CourseState
    awaits_then leg what = with_seat course d (record { is_member = true; stage = stage_at (before leg); awaited = what; sent = raised sent })

    pub asked : 1 ≤ d → is_ready_in (entries_in g s.phase) 1 ≡ true → (leg : Leg) → next_action course ≡ next.Send d (ask_by leg)
        → next_ask (verdict_of s.phase) (stage_at (before leg)) ≡ Some (ask_by leg) → fits s.phase (Asks leg) ≡ true
        → At (Rests (before leg)) → Next m g s (Turn 1)
    asked low ready leg action asks may h = record {
      sight = with_manager_at (Asks leg) (raised sent);
      is = all;
      good = record {
        long = set_length s.seats (d - 1) (seat_in (Asks leg) (raised sent)) ∙ good.long;
        each = same_device (Rests (before leg)) (Asks leg) (raised sent) h.r refl (moved (Rests (before leg)) (Asks leg) h may (raised sent));
      };
    }
      where
        all : (elementary m (the g) w (Turn 1)).after
            ≡ core g (with_manager_at (Asks leg) (raised sent))
        all =
            ap (λ b. with_manager w (cond b (turned_by (g.plan ∷ []) state 1 (Some slot)) (idle state)).state) ready
            ∙ ap (λ a. with_manager w (acts (g.plan ∷ []) state 1 a).state) action
            ∙ ap (λ o. slotted (on_side (sends_pair g.plan (entries_in g s.phase) d (ask_by leg)) slot d o)) h.side
            ∙ ap (λ what. slotted (with_pair slot d (sends_in_fact g.plan (entries_in g s.phase) course (side_of (Rests (before leg))) d what)))
            ((leg_is leg).in_fact resync)
            ∙ ap (λ found. slotted (goes_out leg found)) (request_is leg s.phase (numbered low) may)
            ∙ ap (λ b. slotted (with_pair slot d (sends_if b (opens (ask_by leg)) d course (with_sent course d) (side_of (Rests (before leg))) (request leg)))) (leg_is leg).goes
            ∙ ap (λ wire. kept (with_sent course d) (slice_set s.sides (d - 1) (record { wire = wire; resync = resync }))) (leg_is leg).sent
            ∙ ap (λ o. kept (with_sent_at course d o) (sides_with (Asks leg))) h.seat
            ∙ ap (λ what. kept (awaits_then leg what) (sides_with (Asks leg))) asks
