-- What a served request does to the sessions of a device.
use Rattle.std.proofs.Common.{◌≡◌, ◌∙◌, ◌⊎◌, inl, inr, ℕ, ◌+◌, ◌≤◌, ◌<◌, ◌==◌, nat_le, Bool, true, false, cond, ◌||◌, List, length, Option, Some, None, is_some, refl, sym, ap, subst, arith}
use Rattle.std.proofs.lemmas.Bool.Decides.{nat_tests}
use Rattle.std.proofs.lemmas.Option.{none-some, same_Some}
use Rattle.nm_proto.specs.declared.message.Request.{Request}
use Rattle.nm_proto.specs.declared.message.Request.TheVariants.{OpenSession, Lock, Unlock, PartialLock, PartialUnlock, Edit, Validate, Commit, CancelCommit, Discard, HasMark, GetConfig, Kill, CloseSession}
use Rattle.nm_proto.specs.declared.message.Reply.{Reply}
use Rattle.nm_proto.specs.declared.message.Reply.TheVariants.{Done, Opened}
use Rattle.nm_proto.specs.Content.{Meaning, TablesState}
use Rattle.nm_sessions.specs.Sessions.{is_open, next_id, greatest_id, session_limit}
use Rattle.nm_device.specs.Device.{DeviceState}
use Rattle.nm_device.specs.Table.{opened, open_with, opening_user, is_opening, device_step}
use Rattle.nm_history.specs.declared.event.DeviceEvent.{DeviceEvent}
use Rattle.nm_history.specs.declared.event.DeviceEvent.TheVariants.{Entered, Asked, Lost, Advanced, Restarted}
use Rattle.nm_history.specs.History.{Happened, RecordedState, Served, entering, event_by, recorded_with, served}
use Rattle.nm_history.specs.Effect.{is_done_reply}
use Rattle.nm_history.proofs.Histories.{IsServed, is_served}
use Rattle.nm_device_laws.specs.Moment.{Happens}
use Rattle.nm_device_laws.specs.Numbered.{IsNumbered}
use Rattle.nm_device_laws.proofs.Events.{is_asked}
use Rattle.nm_device_laws.proofs.Numbers.{numbers_keep}
use Rattle.nm_device_laws.proofs.Owns.{closes}
use Rattle.nm_device_laws.proofs.Users.{users_kept}
use Rattle.nm_wire.specs.Link.{session_in, ends, closes as shuts_side}
use Rattle.nm_safety.proofs.Numbers.{is_entry, no_more, new_entered}
use Rattle.nm_safety.proofs.Replies.{step_plain}

id_is : (b : Bool) (next id : ℕ) → cond b None (Some next) ≡ Some id → id ≡ next
id_is true next id e = absurd (none-some id e)
id_is false next id e = sym (same_Some next id e)

module _ {Config TheEdit Node : Type 0} (m : Meaning Config TheEdit Node) (tables : TablesState TheEdit) (s : DeviceState Config Node) where
  -- no session opens but the one that is told
  pub record OpensTold (event : DeviceEvent) (h : Happened Config Node) : Type 0 where
    pub more : (t : ℕ) → is_open h.after.sessions t ≡ true → (is_open s.sessions t ≡ true) ⊎ ((is_entry event ≡ true) × ((h.reply ≡ Some (Opened t)) × (t ≡ s.sessions.last + 1)))
    pub last : h.after.sessions.last ≤ s.sessions.last + 1
    pub told : (t : ℕ) → is_entry event ≡ true → h.reply ≡ Some (Opened t) → t ≡ s.sessions.last + 1

  below : (a b : ℕ) → nat_le a b ≡ true → a ≤ b
  below a b e = grind (arith, nat_tests)

  above : (a b : ℕ) → nat_le a b ≡ false → b < a
  above a b e = grind (arith, nat_tests)

  module _ (numbered : IsNumbered s) where
    old_one : (event : DeviceEvent) (h : Happened Config Node) → Happens m tables s event h → (t : ℕ) → is_open h.after.sessions t ≡ true → t ≤ s.sessions.last → is_open s.sessions t ≡ true
    old_one event h e t is within = sym (ap is_some (users_kept m tables s numbered t event h e is within)) ∙ is

    -- where no session is asked for
    pub plain_by : (event : DeviceEvent) (h : Happened Config Node) → Happens m tables s event h → is_entry event ≡ false → (t : ℕ) → is_open h.after.sessions t ≡ true → is_open s.sessions t ≡ true
    plain_by event h e other t is =
        let within : t ≤ h.after.sessions.last = (numbers_keep m tables s numbered event h e).opened t is in
        let few : h.after.sessions.last ≤ s.sessions.last = no_more m tables s event h e other in
        old_one event h e t is (omega (arith, within, few))

    pub plain_opens : (event : DeviceEvent) (h : Happened Config Node) → Happens m tables s event h → is_entry event ≡ false → OpensTold event h
    plain_opens event h e other = record {
      more = λ t is. inl (plain_by event h e other t is);
      last = let few : h.after.sessions.last ≤ s.sessions.last = no_more m tables s event h e other in omega (arith, few);
      told = λ t entry told. absurd (let f : true ≡ false = sym entry ∙ other in cc);
    }

    entered_by : (user : List ℕ) (next : Option ℕ) → next_id s.sessions ≡ next → (h : Happened Config Node) → Happens m tables s (Entered user) h
        → record { reply = Some (open_with s next user).reply; undone = false; after = (open_with s next user).after } ≡ h → OpensTold (Entered user) h
    entered_by user None e h happens is = subst (OpensTold (Entered user)) is (record { more = λ t open_now. inl open_now; last = omega arith; told = λ t entry told. absurd (let f : Some _ ≡ Some (Opened t) = told in cc) })
    entered_by user (Some id) e h happens is =
        let next : id ≡ s.sessions.last + 1 = id_is (nat_le session_limit (length s.sessions.users) || s.sessions.last == greatest_id) (s.sessions.last + 1) id e in
        let replies : h.reply ≡ Some (Opened id) = ap (λ (one : Happened Config Node). one.reply) (sym is) in
        record {
          more = λ t open_now. by_number t open_now next replies (nat_le t s.sessions.last) refl;
          last = subst (λ (one : Happened Config Node). one.after.sessions.last ≤ s.sessions.last + 1) is (omega arith);
          told = λ t entry told. same_id t next (sym replies ∙ told);
        }
      where
        same_id : (t : ℕ) → id ≡ s.sessions.last + 1 → Some (Opened id) ≡ Some (Opened t) → t ≡ s.sessions.last + 1
        same_id t next e = let same : id ≡ t = cc in sym same ∙ next

        by_number : (t : ℕ) → is_open h.after.sessions t ≡ true → id ≡ s.sessions.last + 1 → h.reply ≡ Some (Opened id) → (b : Bool) → nat_le t s.sessions.last ≡ b
            → (is_open s.sessions t ≡ true) ⊎ ((is_entry (Entered user) ≡ true) × ((h.reply ≡ Some (Opened t)) × (t ≡ s.sessions.last + 1)))
        by_number t open_now next replies true e = inl (old_one (Entered user) h happens t open_now (below t s.sessions.last e))
        by_number t open_now next replies false e =
            let new = (new_entered s numbered user m tables h happens t open_now (above t s.sessions.last e)).number in
            inr (refl, (replies ∙ ap (λ n. Some (Opened n)) (next ∙ sym new), new))

    pub opens_told : (event : DeviceEvent) (h : Happened Config Node) → Happens m tables s event h → OpensTold event h
    opens_told (Entered user) h e = entered_by user (next_id s.sessions) refl h e (same_Some (entering s user) h e)
    opens_told (Asked session request) h e = plain_opens (Asked session request) h e refl
    opens_told (Lost session) h e = plain_opens (Lost session) h e refl
    opens_told (Advanced seconds) h e = plain_opens (Advanced seconds) h e refl
    opens_told Restarted h e = plain_opens Restarted h e refl

-- ---- what is served

-- a reply to a request on a session
pub record IsReplied {Config Node : Type 0} (r : RecordedState Config Node) (session : Option ℕ) (request : Request) (reply : Reply) (after : RecordedState Config Node) : Type 0 where
  pub given : is_opening request ≡ true → ends request reply ≡ false → is_some (session_in reply) ≡ true
  pub shuts : ends request reply ≡ true → shuts_side request reply ≡ true
  pub more : (t : ℕ) → is_open after.device.sessions t ≡ true → (is_open r.device.sessions t ≡ true) ⊎ ((is_opening request ≡ true) × ((reply ≡ Opened t) × (t ≡ r.device.sessions.last + 1)))
  pub plain : is_opening request ≡ false → session_in reply ≡ None
  pub closed : is_opening request ≡ false → shuts_side request reply ≡ true → (u : ℕ) → session ≡ Some u → is_open after.device.sessions u ≡ false
  pub last : after.device.sessions.last ≤ r.device.sessions.last + 1

not_opening : (request : Request) (reply : Reply) → opening_user request ≡ None → ends request reply ≡ true → request ≡ CloseSession
not_opening (OpenSession user) reply o e = absurd (none-some user (sym o))
not_opening (Lock store) reply o e = absurd (let f : false ≡ true = e in cc)
not_opening (Unlock store) reply o e = absurd (let f : false ≡ true = e in cc)
not_opening (PartialLock select) reply o e = absurd (let f : false ≡ true = e in cc)
not_opening (PartialUnlock id) reply o e = absurd (let f : false ≡ true = e in cc)
not_opening (Edit edit operation marks) reply o e = absurd (let f : false ≡ true = e in cc)
not_opening Validate reply o e = absurd (let f : false ≡ true = e in cc)
not_opening (Commit confirmed timeout persist persist_id) reply o e = absurd (let f : false ≡ true = e in cc)
not_opening (CancelCommit persist_id) reply o e = absurd (let f : false ≡ true = e in cc)
not_opening Discard reply o e = absurd (let f : false ≡ true = e in cc)
not_opening (HasMark change) reply o e = absurd (let f : false ≡ true = e in cc)
not_opening GetConfig reply o e = absurd (let f : false ≡ true = e in cc)
not_opening (Kill other) reply o e = absurd (let f : false ≡ true = e in cc)
not_opening CloseSession reply o e = refl

shut_ends : (request : Request) (reply : Reply) → shuts_side request reply ≡ true → ends request reply ≡ true
shut_ends request reply e = grind arith

pub opens_it : (request : Request) (user : List ℕ) → opening_user request ≡ Some user → request ≡ OpenSession user
opens_it (OpenSession other) user e = ap OpenSession (same_Some other user e)
opens_it (Lock store) user e = absurd (none-some user e)
opens_it (Unlock store) user e = absurd (none-some user e)
opens_it (PartialLock select) user e = absurd (none-some user e)
opens_it (PartialUnlock id) user e = absurd (none-some user e)
opens_it (Edit edit operation marks) user e = absurd (none-some user e)
opens_it Validate user e = absurd (none-some user e)
opens_it (Commit confirmed timeout persist persist_id) user e = absurd (none-some user e)
opens_it (CancelCommit persist_id) user e = absurd (none-some user e)
opens_it Discard user e = absurd (none-some user e)
opens_it (HasMark change) user e = absurd (none-some user e)
opens_it GetConfig user e = absurd (none-some user e)
opens_it (Kill other) user e = absurd (none-some user e)
opens_it CloseSession user e = absurd (none-some user e)

module _ {Config TheEdit Node : Type 0} (m : Meaning Config TheEdit Node) (tables : TablesState TheEdit) (r : RecordedState Config Node) (numbered : IsNumbered r.device) (session : Option ℕ) (request : Request) (sv : Served Config Node) where
  module _ (is : IsServed m tables r session request sv) where
    reply_is : (reply : Reply) → is.h.reply ≡ Some reply → sv.reply ≡ reply
    reply_is reply e = same_Some sv.reply reply (sym is.replies ∙ e)

    told : OpensTold m tables r.device is.event is.h
    told = opens_told m tables r.device numbered is.event is.h is.happens

    after_is : (P : DeviceState Config Node → Type 0) → P is.h.after → P sv.after.device
    after_is P p = subst (λ one. P one.device) (sym is.after_is) p

    -- a session is asked for
    entered_replied : (user : List ℕ) → opening_user request ≡ Some user → is.event ≡ Entered user → IsReplied r session request sv.reply sv.after
    entered_replied user opening event_is =
        let happens : Happens m tables r.device (Entered user) is.h = subst (λ e. Happens m tables r.device e is.h) event_is is.happens in
        let does : entering r.device user ≡ is.h = same_Some (entering r.device user) is.h happens in
        let replied : (opened r.device user).reply ≡ sv.reply = same_Some (opened r.device user).reply sv.reply (ap (λ (one : Happened Config Node). one.reply) does ∙ is.replies) in
        let asks : request ≡ OpenSession user = opens_it request user opening in
        record {
          given = λ o e. subst (λ reply. ends request reply ≡ false → is_some (session_in reply) ≡ true) replied (subst (λ q. ends q (opened r.device user).reply ≡ false → is_some (session_in (opened r.device user).reply) ≡ true) (sym asks) (by_next (next_id r.device.sessions))) e;
          shuts = λ e. subst (λ reply. ends request reply ≡ true → shuts_side request reply ≡ true) replied (subst (λ q. ends q (opened r.device user).reply ≡ true → shuts_side q (opened r.device user).reply ≡ true) (sym asks) (shut_next (next_id r.device.sessions))) e;
          more = λ t is_open_now. told_more t (told.more t (subst (λ one. is_open one.device.sessions t ≡ true) is.after_is is_open_now));
          plain = λ o. absurd (let f : true ≡ false = sym (ap is_some opening) ∙ o in cc);
          closed = λ o. absurd (let f : true ≡ false = sym (ap is_some opening) ∙ o in cc);
          last = after_is (λ one. one.sessions.last ≤ r.device.sessions.last + 1) told.last;
        }
      where
        by_next : (next : Option ℕ) → ends (OpenSession user) (open_with r.device next user).reply ≡ false → is_some (session_in (open_with r.device next user).reply) ≡ true
        by_next None e = absurd (let f : true ≡ false = e in cc)
        by_next (Some id) e = refl

        shut_next : (next : Option ℕ) → ends (OpenSession user) (open_with r.device next user).reply ≡ true → shuts_side (OpenSession user) (open_with r.device next user).reply ≡ true
        shut_next None e = refl
        shut_next (Some id) e = absurd (let f : false ≡ true = e in cc)

        told_more : (t : ℕ) → (is_open r.device.sessions t ≡ true) ⊎ ((is_entry is.event ≡ true) × ((is.h.reply ≡ Some (Opened t)) × (t ≡ r.device.sessions.last + 1)))
            → (is_open r.device.sessions t ≡ true) ⊎ ((is_opening request ≡ true) × ((sv.reply ≡ Opened t) × (t ≡ r.device.sessions.last + 1)))
        told_more t (inl open_before) = inl open_before
        told_more t (inr new) = inr (ap is_some opening, (reply_is (Opened t) new.1.0, new.1.1))

    -- a session asks
    asked_replied : (u : ℕ) → session ≡ Some u → opening_user request ≡ None → is.event ≡ Asked u request → IsReplied r session request sv.reply sv.after
    asked_replied u own opening event_is =
        let happens : Happens m tables r.device (Asked u request) is.h = subst (λ e. Happens m tables r.device e is.h) event_is is.happens in
        let does = (is_asked m tables r.device u request is.h happens).does in
        let replied : (device_step m tables r.device u request).reply ≡ sv.reply = same_Some (device_step m tables r.device u request).reply sv.reply (ap (λ (one : Happened Config Node). one.reply) does ∙ is.replies) in
        record {
          given = λ o. absurd (let f : false ≡ true = sym (ap is_some opening) ∙ o in cc);
          shuts = λ e. closes_done (not_opening request sv.reply opening e) replied;
          more = λ t is_open_now. inl (plain_by m tables r.device numbered (Asked u request) is.h happens refl t (subst (λ one. is_open one.device.sessions t ≡ true) is.after_is is_open_now));
          plain = λ o. ap session_in (sym replied) ∙ step_plain m tables r.device u request;
          closed = λ o e v named.
              let close : request ≡ CloseSession = not_opening request sv.reply opening (shut_ends request sv.reply e) in
              let same : u ≡ v = same_Some u v (sym own ∙ named) in
              after_is (λ one. is_open one.sessions v ≡ false) (subst (λ n. is_open is.h.after.sessions n ≡ false) same (closed_by close happens replied));
          last = after_is (λ one. one.sessions.last ≤ r.device.sessions.last + 1) told.last;
        }
      where
        closes_done : request ≡ CloseSession → (device_step m tables r.device u request).reply ≡ sv.reply → shuts_side request sv.reply ≡ true
        closes_done close replied =
            let is_done : sv.reply ≡ Done = sym replied ∙ ap (λ q. (device_step m tables r.device u q).reply) close in
            ap (λ q. shuts_side q sv.reply) close ∙ ap (shuts_side CloseSession) is_done

        closed_by : request ≡ CloseSession → Happens m tables r.device (Asked u request) is.h → (device_step m tables r.device u request).reply ≡ sv.reply → is_open is.h.after.sessions u ≡ false
        closed_by close happens replied =
            let is_done : is.h.reply ≡ Some Done = is.replies ∙ ap Some (sym replied ∙ ap (λ q. (device_step m tables r.device u q).reply) close) in
            (closes m tables r.device u is.h (record { happens = subst (λ q. Happens m tables r.device (Asked u q) is.h) close happens; done = ap is_done_reply is_done })).closed

    by_session : (one : Option ℕ) → session ≡ one → opening_user request ≡ None → event_by one request None ≡ Some is.event → IsReplied r session request sv.reply sv.after
    by_session None own opening e = absurd (none-some is.event e)
    by_session (Some u) own opening e = asked_replied u own opening (sym (same_Some (Asked u request) is.event e))

    by_opening : (user : Option (List ℕ)) → opening_user request ≡ user → event_by session request user ≡ Some is.event → IsReplied r session request sv.reply sv.after
    by_opening (Some user) opening e = entered_replied user opening (sym (same_Some (Entered user) is.event e))
    by_opening None opening e = by_session session refl opening (subst (λ one. event_by one request None ≡ Some is.event) refl e)

  pub is_replied : served m tables r session request ≡ Some sv → IsReplied r session request sv.reply sv.after
  is_replied e = let is = is_served m tables r session request sv e in by_opening is (opening_user request) refl is.event_is

-- the same of what happens: a session asks, or one is asked for
module _ {Config TheEdit Node : Type 0} (m : Meaning Config TheEdit Node) (tables : TablesState TheEdit) (r : RecordedState Config Node) (numbered : IsNumbered r.device) (session : Option ℕ)
    (h : Happened Config Node) (reply : Reply) (replies : h.reply ≡ Some reply) where
  pub asked_so : (u : ℕ) → session ≡ Some u → (request : Request) → opening_user request ≡ None → Happens m tables r.device (Asked u request) h
      → IsReplied r session request reply (recorded_with r (Asked u request) h)
  asked_so u own request plain happens =
      let sv : Served Config Node = record { reply = reply; undone = h.undone; after = recorded_with r (Asked u request) h } in
      asked_replied m tables r numbered session request sv
      (record {
        event = Asked u request;
        h = h;
        event_is = ap (event_by session request) plain ∙ ap (λ one. event_by one request None) own;
        happens = happens;
        replies = replies;
        after_is = refl;
      }) u own plain refl

  pub entered_so : (user : List ℕ) → Happens m tables r.device (Entered user) h
      → IsReplied r session (OpenSession user) reply (recorded_with r (Entered user) h)
  entered_so user happens =
      let sv : Served Config Node = record { reply = reply; undone = h.undone; after = recorded_with r (Entered user) h } in
      entered_replied m tables r numbered session (OpenSession user) sv
      (record { event = Entered user; h = h; event_is = refl; happens = happens; replies = replies; after_is = refl }) user refl refl
