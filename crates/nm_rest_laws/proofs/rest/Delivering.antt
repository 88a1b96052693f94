-- A request is delivered, in a world in which nothing is left to close.
use Rattle.std.proofs.Common.{◌≡◌, ◌∙◌, ℕ, ◌+◌, ◌-◌, ◌^◌, ◌<◌, ◌==◌, nat_le, Bool, true, false, cond, not, ◌||◌, List, [], ◌∷◌, length, Option, Some, None, is_some, refl, sym, ap, subst, arith}
use Rattle.std.proofs.lemmas.Bool.Decides.{nat_tests, Decides-eqb}
use Rattle.std.proofs.lemmas.Option.{none-some, same_Some}
use Rattle.std.specs.Cmp.{unsigned_tied}
use Rattle.nm_proto.specs.declared.ask.Ask.TheVariants as ask
use Rattle.nm_proto.specs.declared.message.Store.TheVariants.{Candidate}
use Rattle.nm_proto.specs.declared.message.Request.{Request}
use Rattle.nm_proto.specs.declared.message.Request.TheVariants.{OpenSession, Lock, Unlock, PartialLock, PartialUnlock, Edit, Validate, Commit, CancelCommit, Discard, HasMark, GetConfig, Kill, CloseSession}
use Rattle.nm_proto.specs.declared.message.Reply.{Reply}
use Rattle.nm_proto.specs.declared.message.Reply.TheVariants.{Opened}
use Rattle.nm_proto.specs.Content.{Meaning, TablesState}
use Rattle.nm_sessions.specs.Sessions.{SessionsState, is_open, user_of, next_id, greatest_id, session_limit}
use Rattle.nm_locks.specs.Locks.{owner_of}
use Rattle.nm_stores.specs.Stores.{is_modified}
use Rattle.nm_device.specs.Table.{opened, open_with, opening_user, is_opening, device_step}
use Rattle.nm_history.specs.declared.event.DeviceEvent.TheVariants.{Entered, Asked}
use Rattle.nm_history.specs.History.{Happened, RecordedState, Served, entering, event_by, served}
use Rattle.nm_history.proofs.Histories.{IsServed, is_served}
use Rattle.nm_device_laws.specs.Moment.{Happens}
use Rattle.nm_device_laws.specs.Numbered.{IsNumbered}
use Rattle.nm_device_laws.proofs.Events.{is_asked}
use Rattle.nm_device_laws.proofs.Owns.{opens}
use Rattle.nm_wire.specs.Asks.{ask_of, same_ask}
use Rattle.nm_wire.specs.declared.link.Way.TheVariants.{Asked}
use Rattle.nm_wire.specs.Link.{session_in, first_session, ends}
use Rattle.nm_world.specs.World.{is_session_open}
use Rattle.nm_rest_laws.proofs.rest.Ranks.{tells_well}
use Rattle.nm_rest_laws.proofs.rest.Serving.{opens_it}
use Rattle.nm_rest_laws.proofs.rest.Telling.{is_closing, sessions_same, step_tells}

-- ---- what is served well

-- a device tells what is to be told, and the session goes on
pub record IsToldWell {Config Node : Type 0} (r after : RecordedState Config Node) (session : Option ℕ) (request : Request) (reply : Reply) : Type 0 where
  pub tells : tells_well (is_some (owner_of r.device.locks Candidate)) (is_modified r.device.stores) (is_some (owner_of after.device.locks Candidate)) (is_modified after.device.stores) (ask_of request) reply ≡ true
  pub lives : ends request reply ≡ false → is_session_open after (first_session session (record { request = request; reply = reply })) ≡ true

closing_ends : (request : Request) (reply : Reply) (b : Bool) → is_closing request ≡ b → ends request reply ≡ false → b ≡ false
closing_ends request reply false c e = refl
closing_ends (OpenSession user) reply true c e = absurd (let f : false ≡ true = c in cc)
closing_ends (Lock store) reply true c e = absurd (let f : false ≡ true = c in cc)
closing_ends (Unlock store) reply true c e = absurd (let f : false ≡ true = c in cc)
closing_ends (PartialLock select) reply true c e = absurd (let f : false ≡ true = c in cc)
closing_ends (PartialUnlock id) reply true c e = absurd (let f : false ≡ true = c in cc)
closing_ends (Edit edit operation marks) reply true c e = absurd (let f : false ≡ true = c in cc)
closing_ends Validate reply true c e = absurd (let f : false ≡ true = c in cc)
closing_ends (Commit confirmed timeout persist persist_id) reply true c e = absurd (let f : false ≡ true = c in cc)
closing_ends (CancelCommit persist_id) reply true c e = absurd (let f : false ≡ true = c in cc)
closing_ends Discard reply true c e = absurd (let f : false ≡ true = c in cc)
closing_ends (HasMark change) reply true c e = absurd (let f : false ≡ true = c in cc)
closing_ends GetConfig reply true c e = absurd (let f : false ≡ true = c in cc)
closing_ends (Kill other) reply true c e = absurd (let f : false ≡ true = c in cc)
closing_ends CloseSession reply true c e = absurd (let f : true ≡ false = e in cc)

-- who has no open session has no users
no_users : (sessions : SessionsState) → ((t : ℕ) → is_open sessions t ≡ true → ⊥) → length sessions.users ≡ 0
no_users sessions none = by_users sessions.users refl
  where
    by_users : (users : List (ℕ × List ℕ)) → sessions.users ≡ users → length users ≡ 0
    by_users [] e = refl
    by_users (first ∷ rest) e = absurd (none first.0 (ap (λ l. is_open (record { users = l; last = sessions.last }) first.0) e ∙ found))
      where
        found : is_open (record { users = first ∷ rest; last = sessions.last }) first.0 ≡ true
        found = ap (λ b. is_some (cond b (Some first.1) (user_of (record { users = rest; last = sessions.last }) first.0))) (unsigned_tied first.0 first.0 ∙ (Decides-eqb first.0 first.0).1 refl)

room : (count last : ℕ) → count ≡ 0 → last < 2 ^ 32 - 1 → (nat_le session_limit count || last == greatest_id) ≡ false
room count last c l = grind (arith, nat_tests)

no_owner : (owner : Option ℕ) → ((o : ℕ) → owner ≡ Some o → ⊥) → owner ≡ None
no_owner None h = refl
no_owner (Some o) h = absurd (h o refl)

module _ {Config TheEdit Node : Type 0} (m : Meaning Config TheEdit Node) (tables : TablesState TheEdit) (r : RecordedState Config Node) (numbered : IsNumbered r.device) (session : Option ℕ) (request : Request) (sv : Served Config Node)
    (known : same_ask (ask_of request) ask.Resync ≡ false) (opened_now : is_session_open r session ≡ true) (fresh : is_opening request ≡ true → (session ≡ None) × (((t : ℕ) → is_open r.device.sessions t ≡ true → ⊥) × (r.device.sessions.last < 2 ^ 32 - 1))) where
  module _ (is : IsServed m tables r session request sv) where
    abbrev Well : RecordedState Config Node → Reply → Type 0
    Well after reply = IsToldWell r after session request reply

    entered_well : (user : List ℕ) → opening_user request ≡ Some user → is.event ≡ Entered user → Well sv.after sv.reply
    entered_well user opening event_is = by_next (next_id r.device.sessions) refl
      where
        asks : request ≡ OpenSession user
        asks = opens_it request user opening

        all : (session ≡ None) × (((t : ℕ) → is_open r.device.sessions t ≡ true → ⊥) × (r.device.sessions.last < 2 ^ 32 - 1))
        all = fresh (ap is_some opening)

        happens : Happens m tables r.device (Entered user) is.h
        happens = subst (λ e. Happens m tables r.device e is.h) event_is is.happens

        does : entering r.device user ≡ is.h
        does = same_Some (entering r.device user) is.h happens

        is_room : next_id r.device.sessions ≡ Some (r.device.sessions.last + 1)
        is_room = ap (λ b. cond b None (Some (r.device.sessions.last + 1))) (room (length r.device.sessions.users) r.device.sessions.last (no_users r.device.sessions all.1.0) all.1.1)

        free : owner_of r.device.locks Candidate ≡ None
        free = no_owner (owner_of r.device.locks Candidate) (λ o e. all.1.0 o (numbered.owners Candidate o e))

        by_next : (next : Option ℕ) → next_id r.device.sessions ≡ next → Well sv.after sv.reply
        by_next None e = absurd (none-some (r.device.sessions.last + 1) (sym e ∙ is_room))
        by_next (Some id) e =
            let step : (opened r.device user) ≡ open_with r.device (Some id) user = ap (λ next. open_with r.device next user) e in
            let replies : is.h.reply ≡ Some (Opened id) = ap (λ (one : Happened Config Node). one.reply) (sym does) ∙ ap (λ st. Some st.reply) step in
            let reply_is : sv.reply ≡ Opened id = same_Some sv.reply (Opened id) (sym is.replies ∙ replies) in
            let locks_is : owner_of sv.after.device.locks Candidate ≡ None =
            ap (λ one. owner_of one.device.locks Candidate) is.after_is ∙ ap (λ (one : Happened Config Node). owner_of one.after.locks Candidate) (sym does) ∙ ap (λ st. owner_of st.after.locks Candidate) step ∙ free in
            let user_is : user_of is.h.after.sessions id ≡ Some user = (opens m tables r.device numbered user id is.h happens replies).user_is in
            let open_there : is_open sv.after.device.sessions id ≡ true = ap (λ one. is_open one.device.sessions id) is.after_is ∙ ap is_some user_is in
            record {
              tells = ap (λ q. tells_well (is_some (owner_of r.device.locks Candidate)) (is_modified r.device.stores) (is_some (owner_of sv.after.device.locks Candidate)) (is_modified sv.after.device.stores) (ask_of q) sv.reply) asks
                  ∙ ap (λ reply. tells_well (is_some (owner_of r.device.locks Candidate)) (is_modified r.device.stores) (is_some (owner_of sv.after.device.locks Candidate)) (is_modified sv.after.device.stores) ask.OpenSession reply) reply_is
                  ∙ ap (λ o. not (is_some o)) locks_is;
              lives = λ never. ap (λ s. is_session_open sv.after (first_session s (record { request = request; reply = sv.reply }))) all.0 ∙ ap (λ reply. is_session_open sv.after (session_in reply)) reply_is ∙ open_there;
            }

    asked_well : (u : ℕ) → session ≡ Some u → opening_user request ≡ None → is.event ≡ Asked u request → Well sv.after sv.reply
    asked_well u own opening event_is =
        let happens : Happens m tables r.device (Asked u request) is.h = subst (λ e. Happens m tables r.device e is.h) event_is is.happens in
        let does = (is_asked m tables r.device u request is.h happens).does in
        let replied : (device_step m tables r.device u request).reply ≡ sv.reply = same_Some (device_step m tables r.device u request).reply sv.reply (ap (λ (one : Happened Config Node). one.reply) does ∙ is.replies) in
        let after : (device_step m tables r.device u request).after ≡ sv.after.device = ap (λ (one : Happened Config Node). one.after) does ∙ sym (ap (λ one. one.device) is.after_is) in
        let plain : is_opening request ≡ false = ap is_some opening in
        let opened_own : is_open r.device.sessions u ≡ true = ap (is_session_open r) (sym own) ∙ opened_now in
        record {
          tells = subst (λ reply. tells_well (is_some (owner_of r.device.locks Candidate)) (is_modified r.device.stores) (is_some (owner_of sv.after.device.locks Candidate)) (is_modified sv.after.device.stores) (ask_of request) reply ≡ true) replied
              (subst (λ dev. tells_well (is_some (owner_of r.device.locks Candidate)) (is_modified r.device.stores) (is_some (owner_of dev.locks Candidate)) (is_modified dev.stores) (ask_of request) (device_step m tables r.device u request).reply ≡ true) after
              (step_tells m tables r.device u request plain));
          lives = λ e.
              let other : is_closing request ≡ false = closing_ends request sv.reply (is_closing request) refl e in
              let same : sv.after.device.sessions ≡ r.device.sessions = sym (ap (λ dev. dev.sessions) after) ∙ sessions_same m tables r.device u request plain known other in
              ap (λ s. is_session_open sv.after (first_session s (record { request = request; reply = sv.reply }))) own ∙ ap (λ ss. is_open ss u) same ∙ opened_own;
        }

    by_session : (one : Option ℕ) → session ≡ one → opening_user request ≡ None → event_by one request None ≡ Some is.event → Well sv.after sv.reply
    by_session None own opening e = absurd (none-some is.event e)
    by_session (Some u) own opening e = asked_well u own opening (sym (same_Some (Asked u request) is.event e))

    by_opening : (user : Option (List ℕ)) → opening_user request ≡ user → event_by session request user ≡ Some is.event → Well sv.after sv.reply
    by_opening (Some user) opening e = entered_well user opening (sym (same_Some (Entered user) is.event e))
    by_opening None opening e = by_session session refl opening e

  pub told_well : served m tables r session request ≡ Some sv → IsToldWell r sv.after session request sv.reply
  told_well e = let is = is_served m tables r session request sv e in by_opening is (opening_user request) refl is.event_is
