-- What is kept of a change set that is to be aborted, where a device does what one of its links asks.
use Rattle.std.proofs.Common.{◌≡◌, ◌∙◌, ◌⊎◌, inl, inr, ℕ, ◌+◌, ◌-◌, ◌≤◌, ◌==◌, Bool, true, false, List, length, Option, Some, None, IfSome, slice_get, option_and_then, unwrap_or, refl, sym, ap, subst, arith}
use Rattle.std.proofs.lemmas.Option.{same_Some}
use Rattle.nm_base.specs.Token.{token_of}
use Rattle.nm_proto.specs.declared.ask.Ask.TheVariants as ask
use Rattle.nm_proto.specs.declared.message.Request.TheVariants.{OpenSession, CancelCommit}
use Rattle.nm_proto.specs.declared.message.Reply.{Reply}
use Rattle.nm_proto.specs.declared.message.Reply.TheVariants.{Done, Opened, LockId, Mark, Rows, Error}
use Rattle.nm_proto.specs.declared.message.Store.TheVariants.{Candidate}
use Rattle.nm_proto.specs.Content.{Meaning, Laws}
use Rattle.nm_proto.specs.Plan.{devices_in}
use Rattle.nm_sessions.specs.Sessions.{is_open}
use Rattle.nm_locks.specs.Locks.{owner_of}
use Rattle.nm_history.specs.declared.event.DeviceEvent.{DeviceEvent}
use Rattle.nm_history.specs.declared.event.DeviceEvent.TheVariants.{Entered, Asked}
use Rattle.nm_history.specs.declared.outcome.Undoing.TheVariants.{Cancel}
use Rattle.nm_history.specs.Effect.{effect_of, is_done_reply}
use Rattle.nm_history.specs.Outcome.{is_pending, outcome_of}
use Rattle.nm_history.specs.History.{RecordedState, noted}
use Rattle.nm_device_laws.specs.Moment.{is_refused}
use Rattle.nm_device_laws.specs.Telling.{TellsToken}
use Rattle.nm_device_laws.specs.Token.{KeepsToken, commits_done, gives_token}
use Rattle.nm_device_laws.proofs.Readings.{settled_push}
use Rattle.nm_device_laws.proofs.Tokens.{refused_kept, token_kept}
use Rattle.nm_wire.specs.Asks.{ask_of, same_ask}
use Rattle.nm_wire.specs.Link.{LinkState, fresh_link, outstanding, session_of, told_on}
use Rattle.nm_wire.specs.Words.{commit_count, commits_sent, owns}
use Rattle.nm_wire.specs.Wire.{WireState, link_at, told}
use Rattle.nm_world.specs.World.{Setting, WorldState}
use Rattle.nm_safety.specs.Delivered.{NamesOurs, is_answer}
use Rattle.nm_safety.specs.Pair.{commits_in, first_link, undelivered as on_its_way}
use Rattle.nm_safety.specs.Step.{way_told}
use Rattle.nm_safety.specs.Support.{LinkName, Owners}
use Rattle.nm_safety.specs.Keeping.{Delivery, IsDone, device_then, devices_then, slot_then}
use Rattle.nm_safety.proofs.Lists.{some_is, to_some}
use Rattle.nm_safety.proofs.Wires.{current_changed}
use Rattle.nm_commit_laws.specs.LeavesSupport.{IsClean}
use Rattle.nm_commit_laws.specs.Refuses.{named_in}
use Rattle.nm_commit_laws.specs.RefusesSupport.{IsFit, IsFitted, IsGuarded}
use Rattle.nm_commit_laws.proofs.refuses.Decent.{asker_open}
use Rattle.nm_commit_laws.proofs.refuses.Refusals.{waits_not}
use Rattle.nm_commit_laws.proofs.refuses.Told.{asks_now, commit_first, count_now, counts_one, first_is, fit_at}
use Rattle.nm_outcome_laws.specs.AbortsSupport.{IsCancelled, IsGone, IsShut, OfAborted, is_over}
use Rattle.nm_outcome_laws.proofs.aborts.Course.{Passes, if_later, never}
use Rattle.nm_outcome_laws.proofs.aborts.Links.{RemainsFirst, first_told, shut_remains}
use Rattle.nm_outcome_laws.proofs.aborts.Others.{first_opened, same_nat, stays_closed}
use Rattle.nm_outcome_laws.proofs.aborts.Slots.{told_aborts}
use Rattle.nm_outcome_laws.proofs.aborts.Tells as tell

-- sessions of two links differ
apart : (owners : Owners) (u session : ℕ) (one other : LinkName) → owners u ≡ Some one → owners session ≡ Some other → (one ≡ other → ⊥)
    → u ≡ session → ⊥
apart owners u session one other a b ne same =
    let g : Some one ≡ Some other = sym a ∙ ap owners same ∙ b in
    ne (same_Some one other g)

none_above : {T : Type 0} (n : ℕ) → n ≡ 0 → 1 ≤ n → T
none_above n e l = absurd (omega (arith, e, l))

-- the confirmed commit was sent where it is on its way
was_sent : (n count sent : ℕ) → n + count ≤ sent → 1 ≤ count → 1 ≤ sent
was_sent n count sent l some = omega (arith, l, some)

one_out : (count out : ℕ) → count ≡ 1 → out ≡ count → 1 ≤ out
one_out count out one is = omega (arith, one, is)

module _ {Config TheEdit Node : Type 0} (m : Meaning Config TheEdit Node) (setting : Setting TheEdit) (B : WorldState Config Node → Type 0)
    (x : Delivery m setting B) (a : OfAborted x.change x.plan x.w.entries x.w.devices x.slot) where
  abbrev token : List ℕ
  token = token_of x.change

  abbrev first : LinkState
  first = first_link x.side.wire

  -- what is on its way on the link is this request
  way_count : on_its_way x.one ≡ commit_count (ask_of x.request)
  way_count = ap commits_in (sym (ap (option_and_then outstanding) x.at_link) ∙ x.out)

  -- ---- whatever happens

  module _ {event : DeviceEvent} (done : IsDone m setting B x event) where
    abbrev new_wire : WireState
    new_wire = told x.side.wire x.link done.reply

    abbrev after : RecordedState Config Node
    after = device_then m setting B x done

    remains : RemainsFirst x.side.wire new_wire
    remains = first_told x.side.wire x.link x.one x.request done.reply x.at_link x.way

    opened_first : (t : ℕ) → session_of first ≡ Some t → t ≤ x.r.device.sessions.last
    opened_first =
        first_opened m setting x.change (devices_in x.plan.edits) x.w.entries x.owners x.w.devices x.slot x.kept (x.device - 1) x.r x.here x.known x.side
        x.at_side

    shut_after : IsShut first x.r → IsShut (first_link new_wire) after
    shut_after shut t some at =
        stays_closed m setting.tables x.r.device x.known.numbered t (opened_first t (sym (remains.session some) ∙ at))
        (shut_remains token x.r first (first_link new_wire) remains shut t some at) event done.h done.happens

    module _ (settles : IsGone token first x.r → is_pending (outcome_of token after.history) ≡ false)
        (cancelled : IsCancelled token (first_link new_wire) after (record { request = x.request; reply = done.reply })) where
      gone_after : IsGone token first x.r → IsGone token (first_link new_wire) after
      gone_after gone = record { outcome = settles gone; shut = shut_after gone.shut }

      abbrev Tells : Option LinkState → Option LinkState → Type 0
      Tells one other =
          IfSome (option_and_then way_told one) (IsCancelled token first x.r)
          → IfSome (option_and_then way_told other) (IsCancelled token (first_link new_wire) after)

      same_tells : (o : Option LinkState) → Tells o o
      same_tells o t =
          if_later (IsCancelled token first x.r) (IsCancelled token (first_link new_wire) after) (λ one told_so e. gone_after (told_so e))
          (option_and_then way_told o) t

      new_tells : (one : LinkState) → link_at x.side.wire x.link ≡ Some one → Tells (Some one) (Some (told_on done.reply one))
      new_tells one found t =
          subst (λ o. IfSome o (IsCancelled token (first_link new_wire) after))
          (sym (ap way_told (ap (told_on done.reply) (same_Some one x.one (sym found ∙ x.at_link))) ∙ tell.told_is x.one x.request done.reply x.way))
          cancelled

      passes : Passes token x.side.wire new_wire x.r after
      passes = record {
        commits = remains.commits;
        gone = gone_after;
        told =
            current_changed Tells same_tells (told_on done.reply) x.side.wire x.link (link_at x.side.wire x.link) refl
            (to_some (λ one. Tells (Some one) (Some (told_on done.reply one))) (link_at x.side.wire x.link) new_tells);
      }

      pub told_so : OfAborted x.change x.plan x.w.entries (devices_then m setting B x done) (slot_then m setting B x done)
      told_so =
          told_aborts (devices_in x.plan.edits) (is_over x.change x.w.entries) token x.w.devices x.slot a (x.device - 1) x.r after x.here x.side x.at_side
          new_wire passes

  -- ---- a session is asked for

  pub opened_aborts : (user : List ℕ) → x.request ≡ OpenSession user → (done : IsDone m setting B x (Entered user))
      → OfAborted x.change x.plan x.w.entries (devices_then m setting B x done) (slot_then m setting B x done)
  opened_aborts user opening done =
      told_so done settles (λ cancels. never (same_ask (ask_of x.request) ask.Cancel) (ap (λ q. same_ask (ask_of q) ask.Cancel) opening) cancels)
    where
      settles : IsGone token first x.r → is_pending (outcome_of token (device_then m setting B x done).history) ≡ false
      settles gone =
          let keeps : KeepsToken token x.r.device (noted (Entered user) done.h) done.h.after =
          token_kept m setting.tables token x.r.device (Entered user) done.h done.happens refl in
          ap is_pending (keeps.settled x.r.history gone.outcome) ∙ gone.outcome

  -- ---- a session asks

  module _ (laws : Laws m) (few : length setting.plans ≤ 64) (f : IsFitted x.plan x.w.devices x.slot) (c : IsClean x.w.devices x.slot)
      (g : IsGuarded setting.plans x.r.device) (u : ℕ) (session : session_of x.one ≡ Some u) (done : IsDone m setting B x (Asked u x.request)) where
    abbrev now : RecordedState Config Node
    now = device_then m setting B x done

    opened_u : is_open x.r.device.sessions u ≡ true
    opened_u = asker_open m laws setting few B x f c g u session done

    -- a confirmed commit that comes was on its way, on an open session
    no_commit : IsShut first x.r → gives_token token x.request ≡ true → ⊥
    no_commit shut gives =
        let closed : is_open x.r.device.sessions u ≡ false =
        subst (λ one. IsShut one x.r) (first_is m setting B x (commit_first m setting B x commits)) shut u
        (one_out (commit_count (ask_of x.request)) (on_its_way x.one) (counts_one (ask_of x.request) commits) way_count) session in
        absurd (let g : false ≡ true = sym closed ∙ opened_u in cc)
      where
        commits : same_ask (ask_of x.request) ask.CommitConfirmed ≡ true
        commits = tell.gives_commit token x.request gives x.ours.known

    settled_by : (b : Bool) → gives_token token x.request ≡ b → IsGone token first x.r → is_pending (outcome_of token now.history) ≡ false
    settled_by true gives gone = absurd (no_commit gone.shut gives)
    settled_by false none gone =
        ap is_pending (settled_push token x.r.history (noted (Asked u x.request) done.h) (effect_of x.request (is_done_reply done.h.reply) done.h.undone)
        refl (tell.begins_none token x.request (is_done_reply done.h.reply) done.h.undone none) gone.outcome) ∙ gone.outcome

    -- ---- a cancel

    module _ (cancels : same_ask (ask_of x.request) ask.Cancel ≡ true) where
      -- another link has the lock of candidate
      other_shut : (x.link - 1 ≡ 0 → ⊥) → owns x.one ≡ true → IsShut first x.r
      other_shut ne held t some at = by_open (is_open x.r.device.sessions t) refl
        where
          owned_t : (found : Option LinkState) → slice_get x.side.wire.links 0 ≡ found → is_open x.r.device.sessions t ≡ true
              → (owner_of x.r.device.locks Candidate ≡ Some t)
              × (x.owners (x.device - 1) t ≡ Some (record { change = x.change; place = 0 }))
          owned_t None found opened = none_above (on_its_way first) (ap (λ o. on_its_way (unwrap_or o fresh_link)) found) some
          owned_t (Some one) found opened =
              let is : first ≡ one = ap (λ o. unwrap_or o fresh_link) found in
              let fit : IsFit x.plan (Some x.r) 0 one = fit_at m setting B x f 0 one found in
              let sent : 1 ≤ commits_sent one =
              subst (λ q. 1 ≤ commits_sent q) is
              (was_sent (commits_done token x.r.history) (on_its_way first) (commits_sent first) (count_now m setting B x) some) in
              let at_one : session_of one ≡ Some t = sym (ap session_of is) ∙ at in
              (fit.held t (fit.sent sent) at_one opened, (x.owned 0 one found).session t at_one)

          by_open : (b : Bool) → is_open x.r.device.sessions t ≡ b → is_open x.r.device.sessions t ≡ false
          by_open false e = e
          by_open true e =
              let other = owned_t (slice_get x.side.wire.links 0) refl e in
              let fit : IsFit x.plan (Some x.r) (x.link - 1) x.one = fit_at m setting B x f (x.link - 1) x.one x.at_place in
              absurd (apart (x.owners (x.device - 1)) u t (record { change = x.change; place = x.link - 1 }) (record { change = x.change; place = 0 })
              ((x.owned (x.link - 1) x.one x.at_place).session u session) other.1 (λ same. ne (ap (λ name. name.place) same))
              (same_Some u t (sym (fit.held u held session opened_u) ∙ other.0)))

      first_shut : x.link - 1 ≡ 0 → IsShut first x.r
      first_shut zero_is t some at =
          none_above (on_its_way first)
          (ap on_its_way (first_is m setting B x zero_is) ∙ way_count ∙ tell.cancel_counts (ask_of x.request) cancels) some

      place_by : (b : Bool) → (x.link - 1 == 0) ≡ b → IsShut first x.r
      place_by true e = first_shut (same_nat (x.link - 1) 0 e)
      place_by false e = owns_by ((asks_now m setting B x f).cancels refl cancels)
        where
          not_first : x.link - 1 ≡ 0 → ⊥
          not_first zero_is = absurd (let g : true ≡ false = sym (ap (λ n. n == 0) zero_is) ∙ e in cc)

          owns_by : (x.link - 1 ≡ 0) ⊎ (owns x.one ≡ true) → IsShut first x.r
          owns_by (inl zero_is) = absurd (not_first zero_is)
          owns_by (inr held) = other_shut not_first held

      -- it is done, or refused

      module _ (named : List ℕ) (is : x.request ≡ CancelCommit (Some named)) where
        ours_named : named ≡ token
        ours_named = subst (NamesOurs token) is x.ours.names

        done_none : done.reply ≡ Done → is_pending (outcome_of token now.history) ≡ false
        done_none e =
            tell.undone_none token x.r.history (noted (Asked u x.request) done.h) Cancel
            (ap (λ q. effect_of q (is_done_reply done.h.reply) done.h.undone) is
            ∙ ap (λ o. effect_of (CancelCommit (Some named)) (is_done_reply o) done.h.undone) (done.replies ∙ ap Some e))

        -- what is refused doesn't wait
        refused_none : is_refused done.h.reply ≡ true → is_pending (outcome_of token now.history) ≡ false
        refused_none refused =
            let tells : TellsToken token x.r =
            some_is x.r (TellsToken token) (slice_get x.w.devices (x.device - 1)) x.here (x.kept.tells (x.device - 1)) in
            let none : is_pending (outcome_of token x.r.history) ≡ false =
            sym tells ∙ waits_not m laws setting few B x f c g u session done refused token (ap named_in is ∙ ap Some ours_named) in
            let keeps : KeepsToken token x.r.device (noted (Asked u x.request) done.h) done.h.after =
            refused_kept m setting.tables token x.r.device u x.request done.h done.happens refused in
            ap is_pending (keeps.settled x.r.history none) ∙ none

        by_reply : (given : Reply) → done.reply ≡ given → is_answer ask.Cancel given ≡ true → is_pending (outcome_of token now.history) ≡ false
        by_reply Done e answers = done_none e
        by_reply (Error tag other path) e answers = refused_none (ap is_refused (done.replies ∙ ap Some e))
        by_reply (Opened other) e answers = absurd (let g : false ≡ true = answers in cc)
        by_reply (LockId id) e answers = absurd (let g : false ≡ true = answers in cc)
        by_reply (Mark mark) e answers = absurd (let g : false ≡ true = answers in cc)
        by_reply (Rows count) e answers = absurd (let g : false ≡ true = answers in cc)

        none_now : is_pending (outcome_of token now.history) ≡ false
        none_now = by_reply done.reply refl (subst (λ q. is_answer (ask_of q) done.reply ≡ true) is done.answer)

      cancelled_now : IsGone token (first_link (new_wire done)) now
      cancelled_now = record {
        outcome = tell.cancel_is x.request cancels (is_pending (outcome_of token now.history) ≡ false) none_now;
        shut = shut_after done (place_by (x.link - 1 == 0) refl);
      }

    pub asked_aborts : OfAborted x.change x.plan x.w.entries (devices_then m setting B x done) (slot_then m setting B x done)
    asked_aborts = told_so done (λ gone. settled_by (gives_token token x.request) refl gone) cancelled_now
