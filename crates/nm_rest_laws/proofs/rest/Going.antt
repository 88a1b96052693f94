-- A request goes out, and that leaves less to be done.
use Rattle.std.proofs.Common.{◌≡◌, ◌∙◌, inl, ℕ, zero, suc, ◌+◌, ◌-◌, ◌*◌, ◌≤◌, ◌==◌, Bool, true, false, cond, not, ◌&&◌, List, [], ◌∷◌, ◌++◌, length, Option, Some, None, is_some, slice_get, slice_set, refl, sym, ap, subst, arith}
use Rattle.std.proofs.lemmas.Bool.Decides.{nat_tests}
use Rattle.std.proofs.lemmas.Option.{none-some, same_Some}
use Rattle.nm_proto.specs.declared.ask.Ask.{Ask}
use Rattle.nm_proto.specs.declared.ask.Ask.TheVariants as ask
use Rattle.nm_proto.specs.declared.message.Request.{Request}
use Rattle.nm_proto.specs.declared.journal.Verdict.{Verdict}
use Rattle.nm_proto.specs.declared.journal.Verdict.TheVariants as verdict
use Rattle.nm_stores.specs.Stores.{is_modified}
use Rattle.nm_history.specs.History.{RecordedState}
use Rattle.nm_decider_stage.specs.declared.stage.Stage.{Stage}
use Rattle.nm_decider_stage.specs.declared.stage.Stage.TheVariants.{Live, Refused, Failed, NeedMark, Resync, Leaving, Settled}
use Rattle.nm_decider_stage.specs.Stages.{next_ask, first_ask, verdict_ask}
use Rattle.nm_decider.specs.declared.seat.Seat.{Seat}
use Rattle.nm_decider.specs.Course as course
use Rattle.nm_decider.specs.Course.{CourseState, asked_next}
use Rattle.nm_decider.specs.Rightly.{IsAsked}
use Rattle.nm_resync.specs.declared.resync.ResyncStage.{ResyncStage}
use Rattle.nm_resync.specs.Resync.{ResyncState, resync_ask}
use Rattle.nm_wire.specs.declared.link.Way.TheVariants.{Asked}
use Rattle.nm_wire.specs.Link.{LinkState, fresh_link, session_of, is_quiet_way, sent_on}
use Rattle.nm_wire.specs.Wire.{WireState, current_link, is_quiet_link, begun, sent}
use Rattle.nm_manager.specs.Slot.{SideState, SlotState, with_pair, with_wire, asked_in_fact, opens, may_go, gone, sends_if, sends_request}
use Rattle.nm_world.specs.World.{CoreState, is_session_open}
use Rattle.nm_safety.specs.Step.{GoesWith, fits_stage, has_link, is_sent, is_opening}
use Rattle.nm_safety.proofs.Places.{set_same}
use Rattle.nm_safety.proofs.Links.{did_sent_on}
use Rattle.nm_safety.proofs.Wires.{current_begun, current_sent}
use Rattle.nm_safety.proofs.Gone.{GoesOnOne, sent_one}
use Rattle.nm_safety.proofs.Managed.{others_stay}
use Rattle.nm_rest_laws.specs.Steady.{HasServed, IsSteady}
use Rattle.nm_rest_laws.proofs.rest.Measure.{left, asked_left, will_end, if_stranded, is_stranded_at, is_held, quiet_rank, way_rank, link_rank}
use Rattle.nm_rest_laws.proofs.rest.Ranks.{left_some}
use Rattle.nm_rest_laws.proofs.rest.Calm.{IsOpenAt, AllCurrent}
use Rattle.nm_rest_laws.proofs.rest.PairSteps.{IsPairStep}
use Rattle.nm_rest_laws.proofs.rest.Quieting.{IsCalmLink}

-- ---- what is asked leaves less

live_less : (h b : Bool) (now : ResyncState) (done : ℕ) (what : Ask) → first_ask done ≡ Some what → suc (3 * asked_left h b None now (Live done) what + 2) ≤ 3 * (2 * left h b None now (Live done))
live_less h b now done what n = grind (arith, nat_tests)

decided_less : (h b : Bool) (v : Verdict) (now : ResyncState) (done : ℕ) (none : Bool) (what : Ask) → cond none None (Some (verdict_ask v)) ≡ Some what
    → suc (3 * asked_left h b (Some v) now (Live done) what + 2) ≤ 3 * (2 * left h b (Some v) now (Live done))
decided_less h b v now done true what n = absurd (none-some what n)
decided_less h b verdict.Commit now done false what n = omega arith
decided_less h b (verdict.Abort why) now done false what n =
    let is : ask.Cancel ≡ what = same_Some ask.Cancel what n in
    subst (λ one. suc (3 * asked_left h b (Some (verdict.Abort why)) now (Live done) one + 2) ≤ 3 * (2 * left h b (Some (verdict.Abort why)) now (Live done))) is (omega arith)

some_less : (n : ℕ) → 1 ≤ n → suc (3 * (2 * n - 1) + 2) ≤ 3 * (2 * n)
some_less n h = omega (arith, h)

pub sent_less : (h b : Bool) (v : Option Verdict) (stage : Stage) (now : ResyncState) (what : Ask) → next_ask v stage ≡ Some what → fits_stage v stage now ≡ true
    → suc (3 * asked_left h b v now stage what + 2) ≤ 3 * (2 * left h b v now stage)
sent_less h b None (Live done) now what n f = live_less h b now done what n
sent_less h b (Some v) (Live done) now what n f = decided_less h b v now done (done == 0) what n
sent_less h b v Refused now what n f = absurd (none-some what n)
sent_less h b None Failed now what n f = absurd (none-some what n)
sent_less h b (Some v) Failed now what n f = omega arith
sent_less h b v NeedMark now what n f = omega arith
sent_less h b None Resync now what n f = absurd (none-some what n)
sent_less h b (Some v) Resync now what n f = some_less (left h b (Some v) now Resync) (left_some h b (Some v) now f refl)
sent_less h b v (Leaving kept) now what n f = omega arith
sent_less h b v (Settled kept) now what n f = absurd (none-some what n)

-- ---- a session is asked for where there is no link

first_opens : (done : ℕ) (now : ResyncState) (what : Ask) → first_ask done ≡ Some what → opens (asked_in_fact now what) ≡ true → not (done == 0) ≡ false
first_opens done now what n o = grind (arith, nat_tests)

verdict_plain : (v : Verdict) (now : ResyncState) (what : Ask) → verdict_ask v ≡ what → opens (asked_in_fact now what) ≡ false
verdict_plain v now what n = grind arith

live_opens : (b : Bool) (v : Verdict) (now : ResyncState) (what : Ask) → cond b None (Some (verdict_ask v)) ≡ Some what → opens (asked_in_fact now what) ≡ true → ⊥
live_opens true v now what n o = none-some what n
live_opens false v now what n o = absurd (let f : true ≡ false = sym o ∙ verdict_plain v now what (same_Some (verdict_ask v) what n) in cc)

resync_opens : (commit : Bool) (stage : ResyncStage) → opens (resync_ask commit stage) ≡ true → not (is_opening stage) ≡ false
resync_opens commit stage o = grind (arith, nat_tests)

opens_unlinked : (v : Option Verdict) (stage : Stage) (now : ResyncState) (what : Ask) → next_ask v stage ≡ Some what → opens (asked_in_fact now what) ≡ true → has_link stage now.stage ≡ false
opens_unlinked None (Live done) now what n o = first_opens done now what n o
opens_unlinked (Some v) (Live done) now what n o = absurd (live_opens (done == 0) v now what n o)
opens_unlinked v Refused now what n o = refl
opens_unlinked None Failed now what n o = absurd (none-some what n)
opens_unlinked (Some verdict.Commit) Failed now what n o = absurd (none-some what n)
opens_unlinked (Some (verdict.Abort why)) Failed now what n o =
    absurd (let f : false ≡ true = ap (λ one. opens (asked_in_fact now one)) (same_Some ask.Cancel what n) ∙ o in cc)
opens_unlinked None NeedMark now what n o = absurd (none-some what n)
opens_unlinked (Some verdict.Commit) NeedMark now what n o =
    absurd (let f : false ≡ true = ap (λ one. opens (asked_in_fact now one)) (same_Some ask.HasMark what n) ∙ o in cc)
opens_unlinked (Some (verdict.Abort why)) NeedMark now what n o = absurd (none-some what n)
opens_unlinked None Resync now what n o = absurd (none-some what n)
opens_unlinked (Some v) Resync now what n o = resync_opens now.commit now.stage (ap (λ one. opens (asked_in_fact now one)) (same_Some ask.Resync what n) ∙ o)
opens_unlinked None (Leaving kept) now what n o = absurd (none-some what n)
opens_unlinked (Some v) (Leaving kept) now what n o =
    absurd (let f : false ≡ true = ap (λ one. opens (asked_in_fact now one)) (same_Some ask.CloseSession what n) ∙ o in cc)
opens_unlinked v (Settled kept) now what n o = refl

-- ---- links

added_at : {A : Type 0} (xs : List A) (x one : A) (l : ℕ) → slice_get (xs ++ x ∷ []) l ≡ Some one → (P : Type 0) → (slice_get xs l ≡ Some one → P) → (l ≡ length xs → P) → P
added_at [] x one zero e P old new = new refl
added_at [] x one (suc l) e P old new = absurd (none-some one e)
added_at (y ∷ xs) x one zero e P old new = old e
added_at (y ∷ xs) x one (suc l) e P old new = added_at xs x one l e P old (λ is. new (ap suc is))

module _ {Config Node : Type 0} (r : RecordedState Config Node) (wire : WireState) (request : Request) where
  begun_current : wire.current ≡ None → AllCurrent r wire → AllCurrent r (begun wire request)
  begun_current none all l one found opened =
      added_at wire.links (sent_on request fresh_link) one l found (Some (length wire.links + 1) ≡ Some (suc l))
      (λ old. absurd (none-some (suc l) (sym none ∙ all l one old opened))) (λ is. ap Some (last l (length wire.links) is))
    where
      last : (l n : ℕ) → l ≡ n → n + 1 ≡ suc l
      last l n e = omega (arith, e)

  same_open : (link : LinkState) → is_quiet_way link.way ≡ true → IsOpenAt r (sent_on request link) → IsOpenAt r link
  same_open link quiet opened = ap (λ s. link.is_open && is_session_open r s) (sym (did_sent_on request link quiet).session) ∙ opened

  sent_current : may_go false wire ≡ true → AllCurrent r wire → AllCurrent r (sent wire request)
  sent_current goes all =
      let one : GoesOnOne wire request (sent wire request) = sent_one wire request goes in
      subst (AllCurrent r) (sym one.after_is) (each one)
    where
      each : (one : GoesOnOne wire request (sent wire request)) → AllCurrent r (record wire { links = slice_set wire.links one.place (sent_on request one.link) })
      each one l link found opened =
          others_stay (λ i o. o ≡ Some link → wire.current ≡ Some (suc i)) wire.links one.place one.link (sent_on request one.link) one.here
          (λ is. let next : one.place + 1 ≡ suc one.place = omega arith in one.current ∙ ap Some next) (λ i ne is. all i link is opened) l found

  -- it has as little as before that is open and not current
  pub gone_current : (new : Bool) → may_go new wire ≡ true → (new ≡ true → wire.current ≡ None) → AllCurrent r wire → AllCurrent r (gone new wire request)
  gone_current true goes none all = begun_current (none refl) all
  gone_current false goes none all = sent_current goes all

  -- the request is on its way on a link that isn't stranded
  pub record IsOut (after : WireState) : Type 0 where
    pub link : LinkState
    pub current : current_link after ≡ Some link
    pub way : link.way ≡ Asked request
    pub stranded : is_stranded_at r link ≡ false

  sent_out : (found : Option LinkState) → current_link wire ≡ found → may_go false wire ≡ true → IsCalmLink r found → IsOut (sent wire request)
  sent_out None e goes calm = absurd (let f : false ≡ true = sym (ap is_quiet_link e) ∙ goes in cc)
  sent_out (Some link) e goes calm = record {
    link = sent_on request link;
    current = current_sent wire request link e;
    way = refl;
    stranded = ap (λ s. not (link.is_open && is_session_open r s) && true) (did_sent_on request link (ap is_quiet_way calm.0)).session
        ∙ ap (λ b. not (link.is_open && is_session_open r (session_of link)) && not b) (sym (ap will_end calm.0)) ∙ calm.1;
  }

  pub gone_out : (new : Bool) → may_go new wire ≡ true → IsCalmLink r (current_link wire) → IsOut (gone new wire request)
  gone_out true goes calm = record { link = sent_on request fresh_link; current = current_begun wire request; way = refl; stranded = refl }
  gone_out false goes calm = sent_out (current_link wire) refl goes calm

  -- what is left before
  calm_rank : (v : Option Verdict) (stage : Stage) (now : ResyncState) (found : Option LinkState) → IsCalmLink r found → quiet_rank v stage now r ≤ link_rank v stage None now r found
  calm_rank v stage now None calm = omega arith
  calm_rank v stage now (Some link) calm = let way : way_rank v stage None now r link.way ≡ quiet_rank v stage now r = ap (way_rank v stage None now r) calm.0 in omega (arith, way)

  pub gone_falls : (v : Option Verdict) (stage : Stage) (now : ResyncState) (what : Ask) (new : Bool) → may_go new wire ≡ true → IsCalmLink r (current_link wire) → next_ask v stage ≡ Some what → fits_stage v stage now ≡ true
      → suc (link_rank v stage (Some what) now r (current_link (gone new wire request))) ≤ link_rank v stage None now r (current_link wire)
  gone_falls v stage now what new goes calm n f =
      let out = gone_out new goes calm in
      let less = sent_less (is_held r) (is_modified r.device.stores) v stage now what n f in
      let low = calm_rank v stage now (current_link wire) calm in
      let way : way_rank v stage (Some what) now r out.link.way ≡ 3 * asked_left (is_held r) (is_modified r.device.stores) v now stage what + 2 = ap (way_rank v stage (Some what) now r) out.way in
      let none : if_stranded (is_stranded_at r out.link) ≡ 0 = ap if_stranded out.stranded in
      subst (λ o. suc (link_rank v stage (Some what) now r o) ≤ link_rank v stage None now r (current_link wire)) (sym out.current) (omega (arith, less, low, way, none))

-- ---- a device of a change set

-- a request that went out was made, and might go
module _ (slot : SlotState) (device : ℕ) (new : Bool) (before now : CourseState) (side : SideState) where
  pub went_out : (found : Option Request) → is_sent (with_pair slot device (sends_request new device before now side found)).action ≡ true → (P : Type 0)
      → ((request : Request) → found ≡ Some request → may_go new side.wire ≡ true → P) → P
  went_out None is P step = absurd (let f : false ≡ true = is in cc)
  went_out (Some request) is P step = by_may (may_go new side.wire) refl is
    where
      by_may : (b : Bool) → may_go new side.wire ≡ b → is_sent (with_pair slot device (sends_if b new device before now side request)).action ≡ true → P
      by_may true e is = step request refl e
      by_may false e is = absurd (let f : false ≡ true = is in cc)

-- where a session is asked for no link is current
module _ (v : Option Verdict) (seat : Seat) (side : SideState) (goes : GoesWith v seat side) (steady : IsSteady side.wire) (quiet : seat.awaited ≡ None) (what : Ask) (next : next_ask v seat.stage ≡ Some what) where
  pub none_current : opens (asked_in_fact side.resync what) ≡ true → side.wire.current ≡ None
  none_current o = by_current side.wire.current refl
    where
      none_there : is_some (current_link side.wire) ≡ false
      none_there = goes.linked quiet ∙ opens_unlinked v seat.stage side.resync what next o

      no_served : (found : Option LinkState) → is_some found ≡ false → HasServed found → ⊥
      no_served None e h = h
      no_served (Some link) e h = absurd (let f : true ≡ false = e in cc)

      by_current : (current : Option ℕ) → side.wire.current ≡ current → current ≡ None
      by_current None e = refl
      by_current (Some number) e = absurd (no_served (current_link side.wire) none_there (steady.current (ap is_some e)))

module _ {Config Node : Type 0} (w now : CoreState Config Node) (change device : ℕ) (slot : SlotState) (there : slice_get w.slots (change - 1) ≡ Some slot) (what : Ask) (a : IsAsked slot.course device what)
    (side : SideState) (at : slice_get slot.sides (device - 1) ≡ Some side) (r : RecordedState Config Node) (has : slice_get w.devices (device - 1) ≡ Some r)
    (goes : GoesWith slot.course.verdict a.seat side) (steady : IsSteady side.wire) (calm : IsCalmLink r (current_link side.wire)) (request : Request)
    (may : may_go (opens (asked_in_fact side.resync what)) side.wire ≡ true) where
  abbrev new : Bool
  new = opens (asked_in_fact side.resync what)

  abbrev asked_course : CourseState
  asked_course = course.with_sent slot.course device

  pub out_step : now.slots ≡ slice_set w.slots (change - 1) (record { course = asked_course; sides = slice_set slot.sides (device - 1) (with_wire side (gone new side.wire request)) })
      → now.entries ≡ w.entries → now.operators ≡ w.operators → now.devices ≡ w.devices → IsPairStep w now (change - 1) (device - 1)
  out_step slots entries operators devices = record {
    slot = slot;
    there = there;
    seat = a.seat;
    here = a.here;
    side = side;
    at = at;
    r = r;
    device = has;
    new_course = asked_course;
    new_seat = asked_next slot.course.verdict a.seat;
    new_side = with_wire side (gone new side.wire request);
    new_r = r;
    verdict = ap (λ c. c.verdict) same;
    seats = ap (λ c. c.seats) same;
    slots = slots;
    entries = entries;
    operators = operators;
    devices = devices ∙ sym (set_same w.devices (device - 1) r has);
    falls = subst (λ o. suc (link_rank slot.course.verdict a.seat.stage o side.resync r (current_link (gone new side.wire request))) ≤ link_rank slot.course.verdict a.seat.stage a.seat.awaited side.resync r (current_link side.wire)) (sym a.next)
        (subst (λ o. suc (link_rank slot.course.verdict a.seat.stage (Some what) side.resync r (current_link (gone new side.wire request))) ≤ link_rank slot.course.verdict a.seat.stage o side.resync r (current_link side.wire)) (sym a.quiet)
        (gone_falls r side.wire request slot.course.verdict a.seat.stage side.resync what new may calm a.next goes.resyncs));
    current = gone_current r side.wire request new may (none_current slot.course.verdict a.seat side goes steady a.quiet what a.next);
    sessions = λ t is. inl is;
  }
    where
      same : course.with_sent slot.course device ≡ course.with_seat slot.course device (asked_next slot.course.verdict a.seat)
      same = ap (course.with_sent_at slot.course device) a.here
