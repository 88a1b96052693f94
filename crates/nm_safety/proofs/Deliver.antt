-- What every world keeps where a device does what a link has outstanding.
use Rattle.std.proofs.Common.{ℕ, ◌≡◌, ◌∙◌, ◌⊎◌, inl, inr, ◌-◌, ◌+◌, ◌≤◌, ◌<◌, ◌==◌, Bool, true, false, cond, ◌&&◌, List, length, Option, Some, None, IfSome, is_some, slice_get, slice_set, option_and_then, refl, sym, ap, subst, arith}
use Rattle.std.specs.List.{All}
use Rattle.std.proofs.lemmas.Bool.Decides.{nat_tests}
use Rattle.std.proofs.lemmas.Option.{none-some, same_Some}
use Rattle.nm_base.specs.Token.{token_of}
use Rattle.nm_base.specs.Words.{manager}
use Rattle.nm_proto.specs.declared.ask.Ask.TheVariants as ask
use Rattle.nm_proto.specs.declared.message.Request.{Request}
use Rattle.nm_proto.specs.declared.message.Request.TheVariants.{OpenSession}
use Rattle.nm_proto.specs.declared.message.Reply.{Reply}
use Rattle.nm_proto.specs.declared.message.Reply.TheVariants.{Done, Opened, LockId, Mark, Rows, Error}
use Rattle.nm_proto.specs.declared.journal.Verdict.{Verdict}
use Rattle.nm_proto.specs.declared.plan.ChangePlan.{ChangePlan}
use Rattle.nm_proto.specs.Content.{Meaning, Laws}
use Rattle.nm_proto.specs.Plan.{devices_in}
use Rattle.nm_sessions.specs.Sessions.{is_open, next_id}
use Rattle.nm_device.specs.Device.{DeviceState, is_manager}
use Rattle.nm_device.specs.Table.{opening_user, open_with}
use Rattle.nm_history.specs.declared.event.DeviceEvent.{DeviceEvent}
use Rattle.nm_history.specs.declared.event.DeviceEvent.TheVariants.{Entered, Asked}
use Rattle.nm_history.specs.History.{Happened, RecordedState, recorded_with, entering}
use Rattle.nm_recovery.specs.Recovery.{verdict_in}
use Rattle.nm_device_laws.specs.Moment.{Happens}
use Rattle.nm_device_laws.specs.Keeps.{is_asker}
use Rattle.nm_device_laws.specs.Own.{Opens}
use Rattle.nm_device_laws.specs.Telling.{TellsToken}
use Rattle.nm_device_laws.proofs.Numbers.{numbers_rise}
use Rattle.nm_device_laws.proofs.Owns.{opens}
use Rattle.nm_device_laws.proofs.Tells.{token_told}
use Rattle.nm_decider.specs.declared.seat.Seat.{Seat}
use Rattle.nm_wire.specs.Asks.{ask_of}
use Rattle.nm_wire.specs.Link.{LinkState, session_of, session_in, first_session, told_on}
use Rattle.nm_wire.specs.Wire.{told, outstanding_at, session_at}
use Rattle.nm_wire.specs.declared.link.Way.TheVariants as way
use Rattle.nm_manager.specs.Slot.{SideState, SlotState, with_wire}
use Rattle.nm_manager.specs.Manager.{with_slot}
use Rattle.nm_safety.specs.Pair.{PairHolds, first_link}
use Rattle.nm_safety.specs.Slots.{HoldsAt}
use Rattle.nm_safety.specs.Delivered.{IsDelivered, is_answer}
use Rattle.nm_safety.specs.Step.{is_fair}
use Rattle.nm_safety.proofs.Answered.{told_link}
use Rattle.nm_safety.proofs.PairDelivered.{asked_pair, entered_pair}
use Rattle.nm_safety.proofs.Fair.{asked_fair, entered_fair, fair_answers, fair_is}
use Rattle.nm_safety.proofs.Gone.{not_zero}
use Rattle.nm_safety.proofs.PairSteps.{pair_at}
use Rattle.nm_world.specs.World.{Setting, WorldState, manager_in, core_of, with_device, with_manager}
use Rattle.nm_safety.specs.Support.{Owners, LinkName, IsOurs, IsOwned, IsSupported}
use Rattle.nm_safety.proofs.Lists.{some_is, to_some}
use Rattle.nm_safety.proofs.Alone.{OpensFor}
use Rattle.nm_safety.specs.Cases.{IsLink}
use Rattle.nm_safety.specs.Keeping.{Delivery, IsDone}
use Rattle.nm_safety.proofs.Facts.{SupportedIn, apart, delivery, differ}
use Rattle.nm_safety.proofs.Others.{first_is_owned}
use Rattle.nm_safety.proofs.Own.{own_tells}
use Rattle.nm_safety.proofs.Delivered.{told_supported}

-- ---- whose sessions are whose

itself : (a : ℕ) → (a == a) ≡ true
itself a = grind (arith, nat_tests)

-- one session more has an owner
abbrev with_owner : (ℕ → Owners) → ℕ → ℕ → LinkName → ℕ → Owners
with_owner owners d id name j session = cond ((j == d) && (session == id)) (Some name) (owners j session)

owner_new : (owners : ℕ → Owners) (d id : ℕ) (name : LinkName) → with_owner owners d id name d id ≡ Some name
owner_new owners d id name = ap (λ b. cond (b && (id == id)) (Some name) (owners d id)) (itself d) ∙ ap (λ b. cond b (Some name) (owners d id)) (itself id)

owner_old : (owners : ℕ → Owners) (d id : ℕ) (name : LinkName) (j session : ℕ) → ((j == d) && (session == id)) ≡ false → with_owner owners d id name j session ≡ owners j session
owner_old owners d id name j session e = ap (λ b. cond b (Some name) (owners j session)) e

and_other : (a b : Bool) → b ≡ false → (a && b) ≡ false
and_other true b e = e
and_other false b e = refl

-- ---- who opens

module _ {Config Node : Type 0} (s : DeviceState Config Node) (user : List ℕ) where
  unopened_by : (next : Option ℕ) → session_in (open_with s next user).reply ≡ None → (open_with s next user).after ≡ s
  unopened_by None e = refl
  unopened_by (Some id) e = absurd (none-some id (sym e))

  -- a session that is refused changes nothing
  pub unopened : {TheEdit : Type 0} (m : Meaning Config TheEdit Node) (tables : _) (h : Happened Config Node) (reply : Reply) → Happens m tables s (Entered user) h → h.reply ≡ Some reply → session_in reply ≡ None → h.after ≡ s
  unopened m tables h reply e told none =
      let does : entering s user ≡ h = same_Some (entering s user) h e in
      let is : (open_with s (next_id s.sessions) user).reply ≡ reply = same_Some _ reply (ap (λ one. one.reply) does ∙ told) in
      sym (ap (λ one. one.after) does) ∙ unopened_by (next_id s.sessions) (ap session_in is ∙ none)

module _ {Config TheEdit Node : Type 0} (m : Meaning Config TheEdit Node) (laws : Laws m) (setting : Setting TheEdit) (edits : All m.edit_belongs setting.tables.edits) (few : length setting.plans ≤ 64) where
  module _ (w : WorldState Config Node) (s : SupportedIn m setting w) (change device link : ℕ) (a : IsLink (core_of w) change device link)
      (plan : ChangePlan) (planned : slice_get setting.plans (change - 1) ≡ Some plan) (request : Request) (out : outstanding_at a.side.wire link ≡ Some request) where
    abbrev x : Delivery m setting (SupportedIn m setting)
    x = delivery m setting (SupportedIn m setting) w s s few change device link a plan planned request out

    abbrev d : ℕ
    d = device - 1

    abbrev slot : SlotState
    slot = a.slot

    abbrev side : SideState
    side = a.side

    abbrev l : LinkState
    l = a.one

    abbrev r : RecordedState Config Node
    r = a.r

    abbrev verdict_now : Option Verdict
    verdict_now = verdict_in change w.entries

    own_l : IsOwned change (s.owners d) r.device.sessions.last (link - 1) l
    own_l = x.owned (link - 1) l x.at_place

    first_owned : IsOwned change (s.owners d) r.device.sessions.last 0 (first_link side.wire)
    first_owned =
        first_is_owned (IsOwned change (s.owners d) r.device.sessions.last 0) side.wire.links
        (record { session = λ t e. absurd (none-some t e); opened = λ t e. absurd (none-some t e); asked = tt })
        (to_some (IsOwned change (s.owners d) r.device.sessions.last 0) (slice_get side.wire.links 0) (λ one found. x.owned 0 one found))

    pair_by : (seat : Option Seat) → slice_get slot.course.seats d ≡ seat → (T : Type 0) → ((one : Seat) → PairHolds change verdict_now one side.wire r → T) → T
    pair_by None seated T step = absurd (pair_at change (devices_in plan.edits) w.entries slot x.kept.in_step d None (Some side) seated a.at_side)
    pair_by (Some seat) seated T step =
        step seat (subst (λ o. HoldsAt change verdict_now (Some seat) (Some side) o) a.here
        (subst (λ o. HoldsAt change verdict_now (Some seat) o (slice_get w.devices d)) a.at_side (subst (λ o. HoldsAt change verdict_now o (slice_get slot.sides d) (slice_get w.devices d)) seated (x.kept.holds d))))

    tells_now : TellsToken (token_of change) r
    tells_now = some_is r (TellsToken (token_of change)) (slice_get w.devices d) a.here (x.kept.tells d)

    fresh_after : (event : DeviceEvent) (h : Happened Config Node) → Happens m setting.tables r.device event h → (session : ℕ) → h.after.sessions.last < session → s.owners d session ≡ None
    fresh_after event h happens session above = later (numbers_rise m setting.tables r.device event h happens)
      where
        later : r.device.sessions.last ≤ h.after.sessions.last → s.owners d session ≡ None
        later more = x.known.fresh session (omega (arith, more, above))

    abbrev Now : RecordedState Config Node → Reply → Type 0
    Now after reply =
        IsSupported m setting (with_manager (with_device (core_of w) device after) (with_slot (manager_in (core_of w)) change (record { course = slot.course; sides = slice_set slot.sides d (with_wire side (told side.wire link reply)) })))

    -- ---- a session asks

    module _ (u : ℕ) (session : session_of l ≡ Some u) (done : IsDone m setting (SupportedIn m setting) x (Asked u request)) where
      at_session : session_at side.wire link ≡ Some u
      at_session = ap (option_and_then session_of) a.at_link ∙ session

      abbrev h : Happened Config Node
      h = done.h

      abbrev reply : Reply
      reply = done.reply

      fair_now : is_fair (record { request = request; reply = reply }) ≡ true
      fair_now = fair_answers (ask_of request) reply (asked_fair m laws setting.tables r.device u request h reply x.known.belong.stores_belong edits done.happens done.replies x.ours.known)

      others_first : (link == 1) ≡ false → (t : ℕ) → session_of (first_link side.wire) ≡ Some t → is_asker (Asked u request) t ≡ false
      others_first n t e =
          apart (s.owners d) u t (record { change = change; place = link - 1 }) (record { change = change; place = 0 }) (own_l.session u session) (first_owned.session t e)
          (λ same. not_first link (not_zero (link == 0) (slice_get side.wire.links (link - 1)) l a.at_link).0 n (ap (λ name. name.place) same))
        where
          not_first : (link : ℕ) → (link == 0) ≡ false → (link == 1) ≡ false → link - 1 ≡ 0 → ⊥
          not_first link z n e = absurd (no link z n e)
            where
              no : (link : ℕ) → (link == 0) ≡ false → (link == 1) ≡ false → link - 1 ≡ 0 → ⊥
              no link z n e = grind (arith, nat_tests)

      delivered : IsDelivered m setting.tables change side.wire link request reply r (Asked u request) h
      delivered = record {
        out = out;
        happens = done.happens;
        told = done.replies;
        answer = done.answer;
        known = x.ours.known;
        ours = x.ours.names;
        opened = first_owned.opened;
        others = others_first;
        numbered = x.known.numbered;
        tells = x.known.tells (token_of change);
        tells_token = tells_now;
      }

      told_session : session_of (told_on reply l) ≡ Some u
      told_session = (told_link l request reply x.way).session ∙ ap (λ o. first_session o (record { request = request; reply = reply })) session

      more : r.device.sessions.last ≤ h.after.sessions.last
      more = numbers_rise m setting.tables r.device (Asked u request) h done.happens

      within_after : (t : ℕ) → session_of l ≡ Some t → t ≤ h.after.sessions.last
      within_after t e = let within : t ≤ r.device.sessions.last = own_l.opened t e in omega (arith, within, more)

      new_link : IsOwned change (s.owners d) h.after.sessions.last (link - 1) (told_on reply l)
      new_link = record {
        session = λ t e. own_l.session t (session ∙ sym told_session ∙ e);
        opened = λ t e. within_after t (session ∙ sym told_session ∙ e);
        asked = subst (λ found. IfSome found (IsOurs change)) (sym (told_link l request reply x.way).none) tt;
      }

      pub asked_supported : Now (recorded_with r (Asked u request) h) reply
      asked_supported =
          told_supported m laws setting edits (core_of w) s change device link a.numbered plan planned slot a.there side a.at_side l a.at_link r a.here (Asked u request) h done.happens request reply out s.owners
          (λ t within. refl) (λ j ne t. refl)
          (record { same = λ t within. refl; fresh = fresh_after (Asked u request) h done.happens; new = λ user e. absurd (let g : Asked u request ≡ Entered user = e in cc) })
          (λ v seat pair. asked_pair m laws setting.tables change v seat side.wire link r u h at_session pair request reply delivered) fair_now new_link
          (pair_by (slice_get slot.course.seats d) refl (TellsToken (token_of change) (recorded_with r (Asked u request) h))
          (λ seat pair. own_tells m laws setting.tables change verdict_now seat side.wire link l a.at_link r u h session pair request reply delivered)) done.others

    -- ---- a session is asked for

    module _ (user : List ℕ) (opening : request ≡ OpenSession user) (done : IsDone m setting (SupportedIn m setting) x (Entered user)) where
      abbrev h_now : Happened Config Node
      h_now = done.h

      abbrev reply_now : Reply
      reply_now = done.reply

      is_ours : user ≡ manager
      is_ours = subst (λ found. IfSome found (λ one. one ≡ manager)) (ap opening_user opening) x.ours.opens

      entered_answer : (is_answer ask.OpenSession reply_now ≡ true) × (is_fair (record { request = OpenSession user; reply = reply_now }) ≡ true)
      entered_answer =
          let f = entered_fair m laws setting.tables r.device user h_now reply_now done.happens done.replies in (fair_is ask.OpenSession reply_now f, fair_answers ask.OpenSession reply_now f)

      out_opening : outstanding_at side.wire link ≡ Some (OpenSession user)
      out_opening = out ∙ ap Some opening

      entered : IsDelivered m setting.tables change side.wire link (OpenSession user) reply_now r (Entered user) h_now
      entered = record {
        out = out_opening;
        happens = done.happens;
        told = done.replies;
        answer = entered_answer.0;
        known = refl;
        ours = tt;
        opened = first_owned.opened;
        others = λ n t e. refl;
        numbered = x.known.numbered;
        tells = x.known.tells (token_of change);
        tells_token = tells_now;
      }

      way_opening : l.way ≡ way.Asked (OpenSession user)
      way_opening = x.way ∙ ap way.Asked opening

      more_now : r.device.sessions.last ≤ h_now.after.sessions.last
      more_now = numbers_rise m setting.tables r.device (Entered user) h_now done.happens

      managed : (other : List ℕ) → Entered user ≡ Entered other → is_manager (Some other) ≡ true
      managed other e = let same : user ≡ other = cc in ap (λ one. is_manager (Some one)) (sym same ∙ is_ours)

      entered_told : (now : ℕ → Owners) → ((session : ℕ) → session ≤ r.device.sessions.last → now d session ≡ s.owners d session) → ((j : ℕ) → (j ≡ d → ⊥) → (session : ℕ) → now j session ≡ s.owners j session)
          → OpensFor (s.owners d) (now d) r (Entered user) h_now.after → IsOwned change (now d) h_now.after.sessions.last (link - 1) (told_on reply_now l) → Now (recorded_with r (Entered user) h_now) reply_now
      entered_told now same_there same_others opens_for new_link =
          told_supported m laws setting edits (core_of w) s change device link a.numbered plan planned slot a.there side a.at_side l a.at_link r a.here (Entered user) h_now done.happens (OpenSession user) reply_now out_opening now same_there same_others opens_for
          (λ v seat pair. entered_pair m setting.tables change v seat side.wire link r user h_now pair reply_now entered) entered_answer.1 new_link
          (token_told m setting.tables (token_of change) r (Entered user) h_now done.happens refl tells_now) done.others

      old_session : (o : Option ℕ) → session_of l ≡ o → (t : ℕ) → first_session o (record { request = OpenSession user; reply = reply_now }) ≡ Some t → (session_of l ≡ Some t) ⊎ (session_in reply_now ≡ Some t)
      old_session (Some u) e t is = inl (e ∙ is)
      old_session None e t is = inr is

      told_is : session_of (told_on reply_now l) ≡ first_session (session_of l) (record { request = OpenSession user; reply = reply_now })
      told_is = (told_link l (OpenSession user) reply_now way_opening).session

      owned_by : (now : Owners) → ((session : ℕ) → session ≤ r.device.sessions.last → now session ≡ s.owners d session)
          → ((t : ℕ) → session_in reply_now ≡ Some t → (now t ≡ Some (record { change = change; place = link - 1 })) × (t ≤ h_now.after.sessions.last)) → IsOwned change now h_now.after.sessions.last (link - 1) (told_on reply_now l)
      owned_by now same new = record {
        session = λ t e. session_by t (old_session (session_of l) refl t (sym told_is ∙ e));
        opened = λ t e. opened_by t (old_session (session_of l) refl t (sym told_is ∙ e));
        asked = subst (λ found. IfSome found (IsOurs change)) (sym (told_link l (OpenSession user) reply_now way_opening).none) tt;
      }
        where
          session_by : (t : ℕ) → (session_of l ≡ Some t) ⊎ (session_in reply_now ≡ Some t) → now t ≡ Some (record { change = change; place = link - 1 })
          session_by t (inl e) = same t (own_l.opened t e) ∙ own_l.session t e
          session_by t (inr e) = (new t e).0

          opened_by : (t : ℕ) → (session_of l ≡ Some t) ⊎ (session_in reply_now ≡ Some t) → t ≤ h_now.after.sessions.last
          opened_by t (inl e) = let within : t ≤ r.device.sessions.last = own_l.opened t e in omega (arith, within, more_now)
          opened_by t (inr e) = (new t e).1

      -- it is refused
      refused_supported : session_in reply_now ≡ None → Now (recorded_with r (Entered user) h_now) reply_now
      refused_supported none =
          let same : h_now.after ≡ r.device = unopened r.device user m setting.tables h_now reply_now done.happens done.replies none in
          entered_told s.owners (λ t within. refl) (λ j ne t. refl)
          (record {
            same = λ t within. refl;
            fresh = fresh_after (Entered user) h_now done.happens;
            new = λ other e t is next.
                absurd (not_open t (x.known.numbered.opened t (ap (λ now. is_open now.sessions t) (sym same) ∙ is)) next);
          })
          (owned_by (s.owners d) (λ t within. refl) (λ t e. absurd (none-some t (sym none ∙ e))))
        where
          not_open : (t : ℕ) → t ≤ r.device.sessions.last → t ≡ r.device.sessions.last + 1 → ⊥
          not_open t within next = absurd (omega (arith, within, next))

      -- it opens
      opened_supported : (id : ℕ) → reply_now ≡ Opened id → Now (recorded_with r (Entered user) h_now) reply_now
      opened_supported id is =
          entered_told now same_there (λ j ne t. owner_old s.owners d id name j t (other_place j ne t))
          (record { same = same_there; fresh = fresh_then; new = new_then })
          (owned_by (now d) same_there new_there)
        where
          name : LinkName
          name = record { change = change; place = link - 1 }

          now : ℕ → Owners
          now = with_owner s.owners d id name

          o : Opens user id r.device h_now.after
          o = opens m setting.tables r.device x.known.numbered user id h_now done.happens (done.replies ∙ ap Some is)

          last_is : h_now.after.sessions.last ≡ r.device.sessions.last + 1
          last_is = ap (λ one. one.sessions.last) o.after

          old_id : (t : ℕ) → t ≤ r.device.sessions.last → (t == id) ≡ false
          old_id t within = differ t id (λ e. not_it e o.next) (t == id) refl
            where
              not_it : t ≡ id → id ≡ r.device.sessions.last + 1 → ⊥
              not_it e next = absurd (omega (arith, within, e, next))

          same_there : (t : ℕ) → t ≤ r.device.sessions.last → now d t ≡ s.owners d t
          same_there t within = owner_old s.owners d id name d t (and_other (d == d) (t == id) (old_id t within))

          other_place : (j : ℕ) → (j ≡ d → ⊥) → (t : ℕ) → ((j == d) && (t == id)) ≡ false
          other_place j ne t = ap (λ b. b && (t == id)) (differ j d ne (j == d) refl)

          fresh_then : (t : ℕ) → h_now.after.sessions.last < t → now d t ≡ None
          fresh_then t above =
              owner_old s.owners d id name d t (and_other (d == d) (t == id) (differ t id (λ e. not_it e o.next last_is) (t == id) refl)) ∙ fresh_after (Entered user) h_now done.happens t above
            where
              not_it : t ≡ id → id ≡ r.device.sessions.last + 1 → h_now.after.sessions.last ≡ r.device.sessions.last + 1 → ⊥
              not_it e next last = absurd (omega (arith, above, e, next, last))

          new_then : (other : List ℕ) → Entered user ≡ Entered other → (t : ℕ) → is_open h_now.after.sessions t ≡ true → t ≡ r.device.sessions.last + 1 → is_manager (Some other) ≡ is_some (now d t)
          new_then other e t is_open_now next =
              let same : t ≡ id = next ∙ sym o.next in
              managed other e ∙ sym (ap is_some (ap (now d) same ∙ owner_new s.owners d id name))

          new_there : (t : ℕ) → session_in reply_now ≡ Some t → (now d t ≡ Some name) × (t ≤ h_now.after.sessions.last)
          new_there t e =
              let same : id ≡ t = same_Some id t (sym (ap session_in is) ∙ e) in
              (ap (now d) (sym same) ∙ owner_new s.owners d id name, within_last (sym same) o.next last_is)
            where
              within_last : t ≡ id → id ≡ r.device.sessions.last + 1 → h_now.after.sessions.last ≡ r.device.sessions.last + 1 → t ≤ h_now.after.sessions.last
              within_last a b c = omega (arith, a, b, c)

      reply_by : (given : Reply) → reply_now ≡ given → Now (recorded_with r (Entered user) h_now) reply_now
      reply_by (Opened id) is = opened_supported id is
      reply_by Done is = refused_supported (ap session_in is)
      reply_by (LockId id) is = refused_supported (ap session_in is)
      reply_by (Mark mark) is = refused_supported (ap session_in is)
      reply_by (Rows count) is = refused_supported (ap session_in is)
      reply_by (Error tag session path) is = refused_supported (ap session_in is)

      pub entered_supported : Now (recorded_with r (Entered user) h_now) reply_now
      entered_supported = reply_by reply_now refl
