-- What is refused to the manager isn't pending: who isn't the manager is refused nothing of its own, and who is owns candidate.
use Rattle.std.proofs.Common.{◌≡◌, ◌∙◌, ◌⊎◌, inl, inr, ℕ, zero, suc, ◌+◌, ◌-◌, ◌≤◌, Bool, true, false, ◌&&◌, List, length, Option, Some, None, slice_get, refl, sym, ap, subst, arith}
use Rattle.std.proofs.lemmas.Option.{none-some, same_Some}
use Rattle.nm_base.specs.Token.{token_of, is_reserved}
use Rattle.nm_proto.specs.declared.ask.Ask.TheVariants as ask
use Rattle.nm_proto.specs.declared.message.Request.{Request}
use Rattle.nm_proto.specs.declared.message.Request.TheVariants.{OpenSession, Lock, Unlock, PartialLock, PartialUnlock, Edit, Validate, Commit, CancelCommit, Discard, HasMark, GetConfig, Kill, CloseSession}
use Rattle.nm_proto.specs.declared.message.Store.TheVariants.{Candidate}
use Rattle.nm_proto.specs.Content.{Meaning, Laws}
use Rattle.nm_sessions.specs.Sessions.{user_of}
use Rattle.nm_locks.specs.Locks.{owner_of}
use Rattle.nm_pending.specs.Pending.{PendingState}
use Rattle.nm_device.specs.Commit.{is_zero, names_reserved}
use Rattle.nm_device.specs.Device.{DeviceState, is_manager}
use Rattle.nm_history.specs.declared.event.DeviceEvent.{DeviceEvent}
use Rattle.nm_history.specs.declared.event.DeviceEvent.TheVariants.{Asked}
use Rattle.nm_history.specs.Outcome.{is_pending, is_token}
use Rattle.nm_history.specs.History.{Happened, noted}
use Rattle.nm_device_laws.specs.Moment.{Happens, is_refused}
use Rattle.nm_device_laws.specs.Telling.{TellsToken}
use Rattle.nm_device_laws.specs.Token.{commits_done, waits_under}
use Rattle.nm_device_laws.proofs.Named.{same_token}
use Rattle.nm_device_laws.proofs.Outcomes.{never_without}
use Rattle.nm_device_laws.proofs.Owns.{refused_same}
use Rattle.nm_wire.specs.Asks.{ask_of, same_ask}
use Rattle.nm_wire.specs.Words.{commits_sent, owns}
use Rattle.nm_wire.specs.Link.{session_of}
use Rattle.nm_safety.specs.Delivered.{NamesOurs}
use Rattle.nm_safety.specs.Pair.{first_link, undelivered as on_its_way}
use Rattle.nm_safety.proofs.Along.{replays}
use Rattle.nm_world.specs.World.{Setting, WorldState}
use Rattle.nm_safety.specs.Keeping.{Delivery, IsDone}
use Rattle.nm_safety.proofs.Lists.{some_is}
use Rattle.nm_commit_laws.specs.Standing.{is_other, standing}
use Rattle.nm_commit_laws.specs.LeavesSupport.{IsClean}
use Rattle.nm_commit_laws.proofs.leaves.Others.{is_silent}
use Rattle.nm_commit_laws.specs.Refuses.{LeavesGone, named_in}
use Rattle.nm_commit_laws.specs.RefusesSupport.{IsApart, IsFitted, IsGuarded, IsTimely}
use Rattle.nm_commit_laws.proofs.refuses.Decent.{clean_now, held_u, managed_u, owned_u, two_one}
use Rattle.nm_commit_laws.proofs.refuses.Guard.{before, reserved}
use Rattle.nm_commit_laws.proofs.refuses.Refused.{cancel_answers, commit_answers}
use Rattle.nm_commit_laws.proofs.refuses.Told.{asks_now, count_now, first_is, own_fit}

-- what waits, with its token
waits_as : {Config : Type 0} (token : List ℕ) (pending : Option (PendingState Config)) → waits_under token pending ≡ true → (T : Type 0)
    → ((p : PendingState Config) → pending ≡ Some p → p.token ≡ Some token → T) → T
waits_as token None e T step = absurd (let g : false ≡ true = e in cc)
waits_as token (Some p) e T step = step p refl (by_token p.token e)
  where
    by_token : (given : Option (List ℕ)) → is_token token given ≡ true → given ≡ Some token
    by_token None e = absurd (let g : false ≡ true = e in cc)
    by_token (Some given) e = ap Some (sym (same_token token given e))

one_done : (n count sent : ℕ) → (n ≡ 0 → ⊥) → n + count ≤ sent → 1 ≤ sent
one_done zero count sent some l = absurd (some refl)
one_done (suc n) count sent some l = omega (arith, l)

-- the token that is named is the change set's own
named_own : (change : ℕ) (one : Request) (token : List ℕ) → NamesOurs (token_of change) one → named_in one ≡ Some token → token ≡ token_of change
named_own change (Commit confirmed timeout persist None) token names e = absurd (none-some token e)
named_own change (Commit confirmed timeout persist (Some named)) token names e = sym (same_Some named token e) ∙ names.1
named_own change (CancelCommit None) token names e = absurd (none-some token e)
named_own change (CancelCommit (Some named)) token names e = sym (same_Some named token e) ∙ names
named_own change (OpenSession user) token names e = absurd (none-some token e)
named_own change (Lock store) token names e = absurd (none-some token e)
named_own change (Unlock store) token names e = absurd (none-some token e)
named_own change (PartialLock select) token names e = absurd (none-some token e)
named_own change (PartialUnlock id) token names e = absurd (none-some token e)
named_own change (Edit edit operation marks) token names e = absurd (none-some token e)
named_own change Validate token names e = absurd (none-some token e)
named_own change Discard token names e = absurd (none-some token e)
named_own change (HasMark mark) token names e = absurd (none-some token e)
named_own change GetConfig token names e = absurd (none-some token e)
named_own change (Kill other) token names e = absurd (none-some token e)
named_own change CloseSession token names e = absurd (none-some token e)

-- ---- what isn't the manager's

module _ {Config TheEdit Node : Type 0} (m : Meaning Config TheEdit Node) (setting : Setting TheEdit) where
  -- what nobody asks for isn't refused
  asks_loudly : (event : DeviceEvent) (session : ℕ) (request : Request) → event ≡ Asked session request → is_silent event ≡ true → ⊥
  asks_loudly event session request is silent = absurd (let g : false ≡ true = sym (ap is_silent is) ∙ silent in cc)

  pub silent_refuses : (s : DeviceState Config Node) (event : DeviceEvent) (h : Happened Config Node) → is_silent event ≡ true
      → LeavesGone m setting s (noted event h)
  silent_refuses s event h silent change refused = absurd (asks_loudly event refused.session refused.request refused.asked silent)

  -- who isn't the manager is refused nothing of the manager's
  pub stranger_refuses : (s : DeviceState Config Node) (u : ℕ) (request : Request) (h : Happened Config Node) → is_manager (user_of s.sessions u) ≡ false
      → LeavesGone m setting s (noted (Asked u request) h)
  stranger_refuses s u request h stranger change refused =
      let e : Asked u request ≡ Asked refused.session refused.request = refused.asked in
      let same : refused.session ≡ u = cc in
      absurd (let g : false ≡ true = sym stranger ∙ ap (λ t. is_manager (user_of s.sessions t)) (sym same) ∙ refused.managed in cc)

-- ---- a session of a link asks, and an error answers

module _ {Config TheEdit Node : Type 0} (m : Meaning Config TheEdit Node) (laws : Laws m) (setting : Setting TheEdit)
    (few : length setting.plans ≤ 64) (B : WorldState Config Node → Type 0) (x : Delivery m setting B)
    (f : IsFitted x.plan x.w.devices x.slot) (c : IsClean x.w.devices x.slot) (g : IsGuarded setting.plans x.r.device)
    (u : ℕ) (session : session_of x.one ≡ Some u) (done : IsDone m setting B x (Asked u x.request)) where
  abbrev own : List ℕ
  own = token_of x.change

  managed : is_manager (user_of x.r.device.sessions u) ≡ true
  managed = managed_u m laws setting few B x f c g u session done

  module _ (refused : is_refused done.h.reply ≡ true) where
    -- the confirmed commit was done, so it was sent, on a session that had locked candidate
    cancel_owner : waits_under own x.r.device.pending ≡ true → (x.link - 1 ≡ 0) ⊎ (owns x.one ≡ true)
        → owner_of x.r.device.locks Candidate ≡ Some u
    cancel_owner waits (inr held) = owned_u m laws setting few B x f c g u session done held
    cancel_owner waits (inl zero_is) =
        owned_u m laws setting few B x f c g u session done
        ((own_fit m setting B x f).sent
        (subst (λ one. 1 ≤ commits_sent one) (first_is m setting B x zero_is)
        (one_done (commits_done own x.r.history) (on_its_way (first_link x.side.wire)) (commits_sent (first_link x.side.wire)) done_once
        (count_now m setting B x))))
      where
        tells : TellsToken own x.r
        tells = some_is x.r (TellsToken own) (slice_get x.w.devices (x.device - 1)) x.here (x.kept.tells (x.device - 1))

        done_once : commits_done own x.r.history ≡ 0 → ⊥
        done_once none = absurd (let g : true ≡ false = sym waits ∙ tells ∙ ap is_pending (never_without own x.r.history none) in cc)

    module _ (token : List ℕ) (ours_is : token ≡ own) (waits : waits_under token x.r.device.pending ≡ true) where
      ours_waits : waits_under own x.r.device.pending ≡ true
      ours_waits = subst (λ t. waits_under t x.r.device.pending ≡ true) ours_is waits

      apart_now : (p : PendingState Config) → x.r.device.pending ≡ Some p → p.token ≡ Some token → IsApart x.r.device p
      apart_now p is named =
          before m setting.tables x.r.device x.known.numbered setting.plans g p is
          (ap names_reserved named ∙ ap is_reserved ours_is ∙ reserved x.change)

      -- a confirm and a renewal
      commit_waits : (confirmed : Bool) (timeout : Option ℕ) → x.request ≡ Commit confirmed timeout None (Some token)
          → (confirmed && is_zero timeout) ≡ false → is_other (ask_of x.request) ≡ true → ⊥
      commit_waits confirmed timeout is timed other =
          let held = held_u m laws setting few B x f c g u session done in
          let low = clean_now m laws setting few B x f c g u session done other in
          waits_as token x.r.device.pending waits ⊥
          (λ p pending named.
          commit_answers m setting.tables x.r.device x.known.numbered u managed (held.owner (two_one (standing x.one) low)) token p pending named
          (apart_now p pending named) confirmed timeout timed (held.unmodified low) done.h
          (subst (λ q. Happens m setting.tables x.r.device (Asked u q) done.h) is done.happens) refused)

      cancel_waits : x.request ≡ CancelCommit (Some token) → ⊥
      cancel_waits is =
          waits_as token x.r.device.pending waits ⊥
          (λ p pending named.
          cancel_answers m setting.tables x.r.device x.known.numbered u managed
          (cancel_owner ours_waits ((asks_now m setting B x f).cancels refl (ap (λ q. same_ask (ask_of q) ask.Cancel) is))) token p pending named
          (apart_now p pending named) done.h (subst (λ q. Happens m setting.tables x.r.device (Asked u q) done.h) is done.happens) refused)

      renewal_timed : (timeout : Option ℕ) → x.request ≡ Commit true timeout None (Some token) → is_zero timeout ≡ false
      renewal_timed timeout is =
          let timely : timeout ≡ Some x.plan.timeout = subst (IsTimely x.plan) is (asks_now m setting B x f).timely in
          ap is_zero timely
          ∙ g.timed (x.change - 1) x.plan x.planned
          (subst (λ n. waits_under (token_of n) x.r.device.pending ≡ true) (sym (number_of x.change x.numbered)) ours_waits)
        where
          number_of : (change : ℕ) → 1 ≤ change → suc (change - 1) ≡ change
          number_of change numbered = omega (arith, numbered)

      unknown : (one : Request) → x.request ≡ one → same_ask (ask_of one) ask.Resync ≡ true → ⊥
      unknown one is e =
          absurd (let g : true ≡ false = sym e ∙ ap (λ q. same_ask (ask_of q) ask.Resync) (sym is) ∙ x.ours.known in cc)

      unnamed : None ≡ Some token → ⊥
      unnamed e = absurd (none-some token e)

      waits_never : (one : Request) → x.request ≡ one → named_in one ≡ Some token → ⊥
      waits_never (Commit true timeout None (Some named)) is e =
          let same : Commit true timeout None (Some named) ≡ Commit true timeout None (Some token) =
          ap (λ o. Commit true timeout None o) e in
          commit_waits true timeout (is ∙ same) (renewal_timed timeout (is ∙ same)) (ap (λ q. is_other (ask_of q)) is)
      waits_never (Commit false timeout None (Some named)) is e =
          commit_waits false timeout (is ∙ ap (λ o. Commit false timeout None o) e) refl (ap (λ q. is_other (ask_of q)) is)
      waits_never (CancelCommit (Some named)) is e = cancel_waits (is ∙ ap CancelCommit e)
      waits_never (Commit true timeout (Some given) (Some named)) is e = unknown (Commit true timeout (Some given) (Some named)) is refl
      waits_never (Commit false timeout (Some given) (Some named)) is e = unknown (Commit false timeout (Some given) (Some named)) is refl
      waits_never (Commit true timeout None None) is e = unnamed e
      waits_never (Commit true timeout (Some given) None) is e = unnamed e
      waits_never (Commit false timeout None None) is e = unnamed e
      waits_never (Commit false timeout (Some given) None) is e = unnamed e
      waits_never (CancelCommit None) is e = unnamed e
      waits_never (OpenSession user) is e = unnamed e
      waits_never (Lock store) is e = unnamed e
      waits_never (Unlock store) is e = unnamed e
      waits_never (PartialLock select) is e = unnamed e
      waits_never (PartialUnlock id) is e = unnamed e
      waits_never (Edit edit operation marks) is e = unnamed e
      waits_never Validate is e = unnamed e
      waits_never Discard is e = unnamed e
      waits_never (HasMark mark) is e = unnamed e
      waits_never GetConfig is e = unnamed e
      waits_never (Kill other) is e = unnamed e
      waits_never CloseSession is e = unnamed e

    waits_by : (token : List ℕ) → named_in x.request ≡ Some token → (b : Bool) → waits_under token x.r.device.pending ≡ b
        → waits_under token x.r.device.pending ≡ false
    waits_by token names false e = e
    waits_by token names true e = absurd (waits_never token (named_own x.change x.request token x.ours.names names) e x.request refl names)

    -- what is named doesn't wait
    pub waits_not : (token : List ℕ) → named_in x.request ≡ Some token → waits_under token x.r.device.pending ≡ false
    waits_not token names = waits_by token names (waits_under token x.r.device.pending) refl

  pub asked_refuses : LeavesGone m setting x.r.device (noted (Asked u x.request) done.h)
  asked_refuses other refused =
      let e : Asked u x.request ≡ Asked refused.session refused.request = refused.asked in
      let is : x.request ≡ refused.request = cc in
      let none : waits_under (token_of other) x.r.device.pending ≡ false =
      waits_not refused.refused (token_of other) (ap named_in is ∙ refused.names) in
      record {
        before = none;
        after =
            ap (λ s. waits_under (token_of other) s.pending)
            (replays m setting.tables x.r.device (Asked u x.request) done.h done.happens
            ∙ refused_same m setting.tables x.r.device u x.request done.h done.happens refused.refused) ∙ none;
      }
