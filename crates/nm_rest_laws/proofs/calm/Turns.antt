-- What a turn of the manager brings a calm world to.
use Rattle.std.proofs.Common.{◌≡◌, ◌∙◌, inl, inr, ℕ, ◌-◌, ◌≤◌, List, [], ◌∷◌, map, Bool, true, false, cond, Option, Some, None, option_map, slice_get, refl, sym, ap, subst}
use Rattle.std.proofs.lemmas.Option.{none-some, same_Some, slice_get-map, slice_get_within, get_or_from_slice_get}
use Rattle.nm_base.specs.declared.mask.DeviceMask.{DeviceMask}
use Rattle.nm_proto.specs.declared.ask.Ask.{Ask}
use Rattle.nm_proto.specs.declared.journal.Entry.{Entry}
use Rattle.nm_proto.specs.declared.journal.Entry.TheVariants as entry
use Rattle.nm_proto.specs.declared.journal.Verdict.TheVariants as verdict
use Rattle.nm_proto.specs.declared.plan.Event.TheVariants.{Turn}
use Rattle.nm_proto.specs.Content.{Meaning}
use Rattle.nm_journal.specs.Entries.{may_follow}
use Rattle.nm_decider_stage.specs.Stages.{next_ask, is_settled}
use Rattle.nm_decider.specs.declared.seat.Seat.{Seat}
use Rattle.nm_decider.specs.declared.course.NextAction.{NextAction}
use Rattle.nm_decider.specs.declared.course.NextAction.TheVariants as next
use Rattle.nm_decider.specs.Course.{CourseState, next_action, decided_seat}
use Rattle.nm_decider.specs.Rightly.{IsAsked, IsReady, MayCommit, MayEnd}
use Rattle.nm_decider.proofs.Actions.{rightly}
use Rattle.nm_resync.specs.Resync.{ResyncState, fresh_resync}
use Rattle.nm_history.specs.History.{RecordedState}
use Rattle.nm_manager.specs.declared.action.Action.{Action}
use Rattle.nm_manager.specs.declared.action.Action.TheVariants as action
use Rattle.nm_manager.specs.Queues.{is_ready_in}
use Rattle.nm_manager.specs.Slot.{SideState, wire_of_side, anew, decided}
use Rattle.nm_manager.specs.Manager.{ManagerState, with_slot, with_entry, idle, acts, turned_by}
use Rattle.nm_world.specs.World.{CoreState, elementary, manager_in, with_manager}
use Rattle.nm_rest_laws.proofs.calm.Legs.Leg.{Commits, Closes}
use Rattle.nm_rest_laws.proofs.calm.Legs.Stop.{After}
use Rattle.nm_rest_laws.proofs.calm.Forms.{Form, Phase, verdict_of, known, awaited_in, stage_at, ask_by, never, IsNext, is_next, acknowledged_at, settled_at}
use Rattle.nm_rest_laws.proofs.calm.Forms.Form.{Rests, Asks, Tells}
use Rattle.nm_rest_laws.proofs.calm.Forms.Phase.{Undecided, Committed, Over}
use Rattle.nm_safety.proofs.Places.{map_length}
use Rattle.nm_rest_laws.proofs.calm.Core.{Given, Sight, entries_in, side_in, seat_in, course_in, slot_in, is_taken, the, core, Own, recorded_in, IsAt, IsGood, Next, Here}
use Rattle.nm_rest_laws.proofs.calm.Steps.{asked}

untaken_still : (seat : Option Seat) → is_taken (option_map (decided_seat verdict.Commit) seat) ≡ is_taken seat
untaken_still None = refl
untaken_still (Some seat) = refl

unlinked_still : (side : Option SideState) → wire_of_side (option_map (anew true) side) ≡ wire_of_side side
unlinked_still None = refl
unlinked_still (Some side) = refl

module _ {Config TheEdit Node : Type 0} (m : Meaning Config TheEdit Node) (g : Given Config TheEdit) (waits : 1 ≤ g.plan.timeout) where
  -- ---- while it goes on

  module _ (s : Sight Config Node) (good : IsGood m g s) (ready : is_ready_in (entries_in g s.phase) 1 ≡ true) where
    abbrev w : CoreState Config Node
    w = core g s

    abbrev state : ManagerState
    state = manager_in w

    abbrev course : CourseState
    course = course_in s.phase s.seats

    -- the world as it was
    as_before : (elementary m (the g) w (Turn 1)).after ≡ w → Next m g s (Turn 1)
    as_before e = record { sight = s; is = e; good = good }

    -- what the next action does
    acts_so : (what : NextAction) → next_action course ≡ what → (elementary m (the g) w (Turn 1)).after ≡ with_manager w (acts (g.plan ∷ []) state 1 what).state
    acts_so what e =
        ap (λ b. with_manager w (cond b (turned_by (g.plan ∷ []) state 1 (Some (slot_in s.phase s.seats s.sides))) (idle state)).state) ready
        ∙ ap (λ a. with_manager w (acts (g.plan ∷ []) state 1 a).state) e

    waits_then : next_action course ≡ next.Wait → Next m g s (Turn 1)
    waits_then e = as_before (acts_so next.Wait e)

    stands : (d : ℕ) (what : Ask) → next_action course ≡ next.Send d what → 1 ≤ d → (own : Own m g (d - 1)) (sent : ℕ) (resync : ResyncState)
        → (form : Form) → Here m g s d own sent resync form
        → awaited_in form ≡ None → next_ask (verdict_of s.phase) (stage_at (known form)) ≡ Some what → Next m g s (Turn 1)
    stands d what e low own sent resync (Asks leg) h q n = absurd (let f : Some (ask_by leg) ≡ None = q in cc)
    stands d what e low own sent resync (Tells leg) h q n = absurd (let f : Some (ask_by leg) ≡ None = q in cc)
    stands d what e low own sent resync (Rests stop) h q n =
        let go : IsNext s.phase stop what = is_next s.phase stop what h.may n in
        asked m g waits s good d own sent resync low ready go.leg (e ∙ ap (next.Send d) (sym go.is))
        (ap (λ at. next_ask (verdict_of s.phase) (stage_at at)) go.at_it ∙ n ∙ ap Some (sym go.is)) go.may
        (subst (λ at. Here m g s d own sent resync (Rests at)) (sym go.at_it) h)

    sends_then : (d : ℕ) (what : Ask) → next_action course ≡ next.Send d what → IsAsked course d what
        → IsAt m g s.phase (d - 1) (slice_get s.seats (d - 1)) (slice_get s.sides (d - 1)) (slice_get s.devices (d - 1)) → Next m g s (Turn 1)
    sends_then d what e a (inr b) = absurd (let f : true ≡ false = sym a.member ∙ sym (ap is_taken a.here) ∙ b.untaken in cc)
    sends_then d what e a (inl t) =
        let same : a.seat ≡ seat_in t.form t.sent = same_Some a.seat (seat_in t.form t.sent) (sym a.here ∙ t.seat_is) in
        stands d what e a.numbered t.own t.sent t.resync t.form (record { may = t.may; seat = t.seat_is; side = t.side_is; r = t.r_is })
        (ap (λ (x : Seat). x.awaited) (sym same) ∙ a.quiet) (ap (λ (x : Seat). next_ask (verdict_of s.phase) x.stage) (sym same) ∙ a.next)

    -- an entry is written, where it may follow
    enters_then : (what : NextAction) → next_action course ≡ what → (entry : Entry) (done : Action) (now : ManagerState)
        → acts (g.plan ∷ []) state 1 what ≡ cond (may_follow (entries_in g s.phase) entry) (record { action = done; state = now }) (idle state)
        → ((elementary m (the g) w (Turn 1)).after ≡ with_manager w now → Next m g s (Turn 1)) → Next m g s (Turn 1)
    enters_then what e entry done now does then_goes = by_entry (may_follow (entries_in g s.phase) entry) refl
      where
        all : (elementary m (the g) w (Turn 1)).after
            ≡ with_manager w (cond (may_follow (entries_in g s.phase) entry) (record { action = done; state = now }) (idle state)).state
        all = acts_so what e ∙ ap (λ a. with_manager w a.state) does

        by_entry : (b : Bool) → may_follow (entries_in g s.phase) entry ≡ b → Next m g s (Turn 1)
        by_entry true f = then_goes (all ∙ ap (λ b. with_manager w (cond b (record { action = done; state = now }) (idle state)).state) f)
        by_entry false f = as_before (all ∙ ap (λ b. with_manager w (cond b (record { action = done; state = now }) (idle state)).state) f)

  -- ---- once all have acknowledged

  module _ (devices : List (RecordedState Config Node)) (seats : List Seat) (sides : List SideState) (has_diverged : Bool) where
    abbrev undecided : Sight Config Node
    undecided = record { phase = Undecided; devices = devices; seats = seats; sides = sides; has_diverged = has_diverged }

    committed_at : MayCommit (course_in Undecided seats) → (j : ℕ) → IsAt m g Undecided j (slice_get seats j) (slice_get sides j) (slice_get devices j)
        → IsAt m g Committed j (slice_get (map (decided_seat verdict.Commit) seats) j) (slice_get (map (anew true) sides) j) (slice_get devices j)
    committed_at c j (inr b) = inr (record {
      other = b.other;
      untaken = ap is_taken (slice_get-map (decided_seat verdict.Commit) seats j) ∙ untaken_still (slice_get seats j) ∙ b.untaken;
      unlinked = ap wire_of_side (slice_get-map (anew true) sides j) ∙ unlinked_still (slice_get sides j) ∙ b.unlinked;
    })
    committed_at c j (inl t) =
        let seat : Seat = seat_in t.form t.sent in
        let is_ready : IsReady seat =
        subst (λ (x : Seat). x.is_member ≡ true → IsReady x) (get_or_from_slice_get seats j seat seat t.seat_is)
        (c.ready j seat (slice_get_within seats j seat t.seat_is)) refl in
        let form_is : t.form ≡ Rests (After Commits) = acknowledged_at t.form is_ready.quiet is_ready.acknowledged in
        inl (record {
          own = t.own;
          form = Rests (After Commits);
          may = refl;
          sent = 0;
          resync = fresh_resync true;
          seat_is = slice_get-map (decided_seat verdict.Commit) seats j ∙ ap (option_map (decided_seat verdict.Commit)) t.seat_is
              ∙ ap (λ f. Some (seat_in f 0)) form_is;
          side_is = slice_get-map (anew true) sides j ∙ ap (option_map (anew true)) t.side_is
              ∙ ap (λ f. Some (side_in g t.own.planned f (fresh_resync true))) form_is;
          r_is = t.r_is ∙ ap (λ f. Some (recorded_in m g t.own f)) form_is;
        })

    turned_undecided : IsGood m g undecided → (what : NextAction) → next_action (course_in Undecided seats) ≡ what → Next m g undecided (Turn 1)
    turned_undecided good next.Wait e = waits_then undecided good refl e
    turned_undecided good (next.Send d what) e =
        sends_then undecided good refl d what e ((rightly (course_in Undecided seats) good.long).sends d what e) (good.each (d - 1))
    turned_undecided good (next.Decide (verdict.Abort why)) e = absurd (none-some why ((rightly (course_in Undecided seats) good.long).aborts why e).noted)
    turned_undecided good (next.Finish kept) e = absurd (let f : false ≡ true = ((rightly (course_in Undecided seats) good.long).finishes kept e).decided in cc)
    turned_undecided good (next.Decide verdict.Commit) e =
        let state : ManagerState = manager_in (core g undecided) in
        let entry : Entry = entry.Decided 1 verdict.Commit in
        enters_then undecided good refl (next.Decide verdict.Commit) e entry (action.Decided verdict.Commit)
        (with_slot (with_entry state entry) 1 (decided (slot_in Undecided seats sides) verdict.Commit)) refl
        (λ is. record {
          sight = record {
            phase = Committed;
            devices = devices;
            seats = map (decided_seat verdict.Commit) seats;
            sides = map (anew true) sides;
            has_diverged = has_diverged;
          };
          is = is;
          good = record {
            long = map_length (decided_seat verdict.Commit) seats ∙ good.long;
            each = λ j. committed_at ((rightly (course_in Undecided seats) good.long).commits e) j (good.each j);
          };
        })

  -- ---- once all are settled

  module _ (devices : List (RecordedState Config Node)) (seats : List Seat) (sides : List SideState) (has_diverged : Bool) where
    abbrev committed : Sight Config Node
    committed = record { phase = Committed; devices = devices; seats = seats; sides = sides; has_diverged = has_diverged }

    over_at : (kept : DeviceMask) → MayEnd (course_in Committed seats) kept → (j : ℕ)
        → IsAt m g Committed j (slice_get seats j) (slice_get sides j) (slice_get devices j)
        → IsAt m g (Over kept) j (slice_get seats j) (slice_get sides j) (slice_get devices j)
    over_at kept c j (inr b) = inr b
    over_at kept c j (inl t) =
        let seat : Seat = seat_in t.form t.sent in
        let settled : is_settled seat.stage ≡ true =
        subst (λ (x : Seat). x.is_member ≡ true → is_settled x.stage ≡ true) (get_or_from_slice_get seats j seat seat t.seat_is)
        (c.settled j seat (slice_get_within seats j seat t.seat_is)) refl in
        let form_is : t.form ≡ Rests (After Closes) = settled_at t.form settled in
        inl (record {
          own = t.own;
          form = Rests (After Closes);
          may = refl;
          sent = t.sent;
          resync = t.resync;
          seat_is = t.seat_is ∙ ap (λ f. Some (seat_in f t.sent)) form_is;
          side_is = t.side_is ∙ ap (λ f. Some (side_in g t.own.planned f t.resync)) form_is;
          r_is = t.r_is ∙ ap (λ f. Some (recorded_in m g t.own f)) form_is;
        })

    turned_committed : IsGood m g committed → (what : NextAction) → next_action (course_in Committed seats) ≡ what → Next m g committed (Turn 1)
    turned_committed good next.Wait e = waits_then committed good refl e
    turned_committed good (next.Send d what) e =
        sends_then committed good refl d what e ((rightly (course_in Committed seats) good.long).sends d what e) (good.each (d - 1))
    turned_committed good (next.Decide verdict.Commit) e =
        absurd (let f : Some verdict.Commit ≡ None = ((rightly (course_in Committed seats) good.long).commits e).undecided in cc)
    turned_committed good (next.Decide (verdict.Abort why)) e = absurd (none-some why ((rightly (course_in Committed seats) good.long).aborts why e).noted)
    turned_committed good (next.Finish kept) e =
        let state : ManagerState = manager_in (core g committed) in
        enters_then committed good refl (next.Finish kept) e (entry.Ended 1 kept) action.Ended (with_entry state (entry.Ended 1 kept)) refl
        (λ is. record {
          sight = record { phase = Over kept; devices = devices; seats = seats; sides = sides; has_diverged = has_diverged };
          is = is;
          good = record { long = good.long; each = λ j. over_at kept ((rightly (course_in Committed seats) good.long).finishes kept e) j (good.each j) };
        })

  turned_by_phase : (phase : Phase) (devices : List (RecordedState Config Node)) (seats : List Seat) (sides : List SideState) (has_diverged : Bool)
      → (let s : Sight Config Node = record { phase = phase; devices = devices; seats = seats; sides = sides; has_diverged = has_diverged } in
      IsGood m g s → is_ready_in (entries_in g phase) 1 ≡ true → Next m g s (Turn 1))
  turned_by_phase Undecided devices seats sides has_diverged good ready =
      turned_undecided devices seats sides has_diverged good (next_action (course_in Undecided seats)) refl
  turned_by_phase Committed devices seats sides has_diverged good ready =
      turned_committed devices seats sides has_diverged good (next_action (course_in Committed seats)) refl
  turned_by_phase (Over kept) devices seats sides has_diverged good ready = never ready

  pub turned_goes : (s : Sight Config Node) → IsGood m g s → is_ready_in (entries_in g s.phase) 1 ≡ true → Next m g s (Turn 1)
  turned_goes s good ready = turned_by_phase s.phase s.devices s.seats s.sides s.has_diverged good ready
