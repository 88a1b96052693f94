-- What a device of a change set that is to be committed replies to a confirm and to the question for its mark is so.
use Rattle.std.proofs.Common.{◌≡◌, ◌∙◌, ℕ, Bool, true, false, not, ◌||◌, List, [], ◌∷◌, ◌++◌, Option, Some, None, refl, sym, ap, subst, arith}
use Rattle.std.proofs.lemmas.Bool.Decides.{nat_tests}
use Rattle.std.proofs.lemmas.Option.{same_Some}
use Rattle.nm_base.specs.Token.{token_of}
use Rattle.nm_proto.specs.declared.ask.Ask.TheVariants as ask
use Rattle.nm_proto.specs.declared.message.Request.{Request}
use Rattle.nm_proto.specs.declared.message.Request.TheVariants.{OpenSession, Lock, Unlock, PartialLock, PartialUnlock, Edit, Validate, Commit, CancelCommit, Discard, HasMark, GetConfig, Kill, CloseSession}
use Rattle.nm_proto.specs.declared.message.Reply.{Reply}
use Rattle.nm_proto.specs.declared.message.Reply.TheVariants.{Mark}
use Rattle.nm_proto.specs.declared.message.Store.{Store}
use Rattle.nm_proto.specs.declared.message.Store.TheVariants.{Running, Candidate}
use Rattle.nm_proto.specs.Content.{Meaning, Laws}
use Rattle.nm_sessions.specs.Sessions.{user_of}
use Rattle.nm_device.specs.Device.{is_manager}
use Rattle.nm_device.specs.Table.{is_error}
use Rattle.nm_history.specs.declared.event.DeviceEvent.TheVariants.{Asked}
use Rattle.nm_history.specs.declared.event.Noted.{Noted}
use Rattle.nm_history.specs.declared.outcome.Outcome.{Outcome}
use Rattle.nm_history.specs.declared.outcome.Outcome.TheVariants.{Never, Pending, Confirmed, Undone}
use Rattle.nm_history.specs.Effect.{is_done_reply}
use Rattle.nm_history.specs.Outcome.{is_final, is_pending, is_token, outcome_of}
use Rattle.nm_history.specs.History.{Happened, RecordedState, noted, recorded_with}
use Rattle.nm_device_laws.specs.Moment.{Happens, is_refused}
use Rattle.nm_device_laws.specs.Own.{Confirms, TellsMark}
use Rattle.nm_device_laws.specs.Telling.{TellsToken}
use Rattle.nm_device_laws.specs.Token.{waits_under}
use Rattle.nm_device_laws.proofs.Events.{IsDone}
use Rattle.nm_device_laws.proofs.Named.{token_same}
use Rattle.nm_device_laws.proofs.Outcomes.{confirmed_told}
use Rattle.nm_device_laws.proofs.Owns as owns
use Rattle.nm_wire.specs.Asks.{ask_of}
use Rattle.nm_wire.specs.Words.{is_done}
use Rattle.nm_safety.specs.Delivered.{NamesOurs, is_answer}
use Rattle.nm_safety.specs.Pair.{is_confirmed, is_never}
use Rattle.nm_safety.specs.Support.{IsOurs}
use Rattle.nm_world.specs.World.{Setting}
use Rattle.nm_commit_laws.specs.Marks.{is_there}
use Rattle.nm_commit_laws.specs.Refuses.{IsRefused}
use Rattle.nm_outcome_laws.specs.RecordsSupport.{IsOwnMark, confirm_tells, mark_tells, reply_tells}
use Rattle.nm_outcome_laws.proofs.records.Replies.{mark_confirmed, mark_undone, refused_final}

-- what the laws of a run say of a change set that is to be committed and isn't ended, at a device of it, after an event there
pub record IsSaidAt {Config TheEdit Node : Type 0} (m : Meaning Config TheEdit Node) (change : ℕ) (r now : RecordedState Config Node) : Type 0 where
  pub token : TellsToken (token_of change) r
  pub token_now : TellsToken (token_of change) now
  pub there : m.has_mark now.device.stores.running change ≡ true → is_there (outcome_of (token_of change) now.history) ≡ true
  pub stays : is_there (outcome_of (token_of change) now.history) ≡ true → m.has_mark now.device.stores.running change ≡ true
  pub committed : is_never (outcome_of (token_of change) now.history) ≡ false
  pub gone : (one : Noted) → now.history ≡ r.history ++ one ∷ [] → IsRefused change r.device one
      → waits_under (token_of change) r.device.pending ≡ false

-- ---- tables

done_both : (reply : Reply) → is_done reply ≡ true → is_done_reply (Some reply) ≡ true
done_both reply d = grind (arith, nat_tests)

refused_by : (reply : Reply) → is_answer ask.Confirm reply ≡ true → is_done reply ≡ false → is_error reply ≡ true
refused_by reply a d = grind (arith, nat_tests)

is_waiting : (outcome : Outcome) → is_pending outcome ≡ true → outcome ≡ Pending
is_waiting Never e = absurd (let g : false ≡ true = e in cc)
is_waiting Pending e = refl
is_waiting Confirmed e = absurd (let g : false ≡ true = e in cc)
is_waiting (Undone by) e = absurd (let g : false ≡ true = e in cc)

confirmed_if : (wants : Bool) (outcome : Outcome) → (wants ≡ true → is_final outcome ≡ true) → is_there outcome ≡ true
    → (not wants || is_confirmed outcome) ≡ true
confirmed_if false outcome over there = refl
confirmed_if true outcome over there = mark_confirmed outcome (over refl) there

-- a reply to a lock or to a cancel tells nothing of it
module _ (wants : Bool) (reply : Reply) (outcome : Outcome) where
  abbrev Tells : Request → Type 0
  Tells q = reply_tells wants (ask_of q) reply outcome ≡ true

  lock_tells : (store : Store) → Tells (Lock store)
  lock_tells Running = refl
  lock_tells Candidate = refl

  cancel_tells : (persist_id : Option (List ℕ)) → Tells (CancelCommit persist_id)
  cancel_tells None = refl
  cancel_tells (Some named) = refl

-- ---- a session asks

module _ {Config TheEdit Node : Type 0} (m : Meaning Config TheEdit Node) (laws : Laws m) (setting : Setting TheEdit)
    (change u : ℕ) (r : RecordedState Config Node) (request : Request)
    (h : Happened Config Node) (happens : Happens m setting.tables r.device (Asked u request) h) (reply : Reply)
    (replies : h.reply ≡ Some reply) (answers : is_answer (ask_of request) reply ≡ true)
    (managed : is_manager (user_of r.device.sessions u) ≡ true) (ours : IsOurs change request) (wants : Bool)
    (says : IsSaidAt m change r (recorded_with r (Asked u request) h))
    (over : wants ≡ true → is_final (outcome_of (token_of change) (recorded_with r (Asked u request) h).history) ≡ true) where
  abbrev now : RecordedState Config Node
  now = recorded_with r (Asked u request) h

  abbrev o : Outcome
  o = outcome_of (token_of change) now.history

  happens_as : (q : Request) → request ≡ q → Happens m setting.tables r.device (Asked u q) h
  happens_as q is = subst (λ one. Happens m setting.tables r.device (Asked u one) h) is happens

  -- ---- is the mark there

  not_there : m.has_mark now.device.stores.running change ≡ false → (b : Bool) → is_there o ≡ b → is_there o ≡ false
  not_there none false e = e
  not_there none true e = absurd (let g : true ≡ false = sym (says.stays e) ∙ none in cc)

  there_said : (b : Bool) → m.has_mark now.device.stores.running change ≡ b → mark_tells wants b o ≡ true
  there_said true e = confirmed_if wants o over (says.there e)
  there_said false e = mark_undone o (not_there e (is_there o) refl) says.committed

  mark_said : (mark : ℕ) → request ≡ HasMark mark → mark ≡ change → reply_tells wants ask.HasMark reply o ≡ true
  mark_said mark is own =
      let t : TellsMark m mark r.device h = owns.tells_mark m setting.tables r.device u mark h (happens_as (HasMark mark) is) in
      let same : reply ≡ Mark (m.has_mark r.device.stores.running mark) =
      same_Some reply (Mark (m.has_mark r.device.stores.running mark)) (sym replies ∙ t.reply) in
      subst (λ one. reply_tells wants ask.HasMark one o ≡ true) (sym same)
      (there_said (m.has_mark r.device.stores.running mark)
      (ap (λ s. m.has_mark s.stores.running change) t.after ∙ ap (m.has_mark r.device.stores.running) (sym own)))

  -- ---- a confirm

  module _ (timeout : Option ℕ) (is : request ≡ Commit false timeout None (Some (token_of change))) where
    abbrev form : Request
    form = Commit false timeout None (Some (token_of change))

    -- that is done
    confirmed : is_done reply ≡ true → is_confirmed o ≡ true
    confirmed done =
        let d : IsDone m setting.tables r.device u form h =
        record { happens = happens_as form is; done = ap is_done_reply replies ∙ done_both reply done } in
        let c : Confirms m u (token_of change) r.device h.after = owns.confirms m laws setting.tables r.device u timeout (token_of change) h d in
        let waits : is_pending (outcome_of (token_of change) r.history) ≡ true =
        sym says.token ∙ ap (waits_under (token_of change)) c.waits ∙ ap (is_token (token_of change)) c.named
        ∙ token_same (token_of change) in
        ap is_confirmed (subst (λ q. outcome_of (token_of change) (recorded_with r (Asked u q) h).history ≡ Confirmed) (sym is)
        (confirmed_told m setting.tables r u h (token_of change) timeout d (is_waiting (outcome_of (token_of change) r.history) waits)))

    -- that is refused
    over_now : is_done reply ≡ false → is_final o ≡ true
    over_now none =
        let error : is_error reply ≡ true = refused_by reply (ap (λ q. is_answer (ask_of q) reply) (sym is) ∙ answers) none in
        let refused : is_refused h.reply ≡ true = ap is_refused replies ∙ error in
        let entry : Noted = noted (Asked u request) h in
        let quiet : waits_under (token_of change) r.device.pending ≡ false =
        says.gone entry refl
        (record { session = u; request = form; asked = ap (Asked u) is; names = refl; managed = managed; refused = refused }) in
        let same : h.after ≡ r.device = owns.refused_same m setting.tables r.device u request h happens refused in
        refused_final o
        (sym says.token_now ∙ ap (λ s. waits_under (token_of change) s.pending) same ∙ quiet) says.committed

    confirm_said : reply_tells wants ask.Confirm reply o ≡ true
    confirm_said = by_done (is_done reply) refl
      where
        by_done : (b : Bool) → is_done reply ≡ b → confirm_tells b o ≡ true
        by_done true done = confirmed done
        by_done false none = over_now none

  -- ---- whatever is asked

  commit_said : (confirmed : Bool) (timeout : Option ℕ) (persist persist_id : Option (List ℕ))
      → request ≡ Commit confirmed timeout persist persist_id
      → NamesOurs (token_of change) (Commit confirmed timeout persist persist_id)
      → reply_tells wants (ask_of (Commit confirmed timeout persist persist_id)) reply o ≡ true
  commit_said true timeout None None is names = refl
  commit_said true timeout None (Some named) is names = refl
  commit_said true timeout (Some given) None is names = refl
  commit_said true timeout (Some given) (Some named) is names = refl
  commit_said false timeout None None is names = refl
  commit_said false timeout None (Some named) is names =
      confirm_said timeout (is ∙ ap (λ token. Commit false timeout None (Some token)) names.1)
  commit_said false timeout (Some given) None is names = refl
  commit_said false timeout (Some given) (Some named) is names = refl

  abbrev Said : Request → Type 0
  Said q = reply_tells wants (ask_of q) reply o ≡ true

  said_by : (q : Request) → request ≡ q → NamesOurs (token_of change) q → IsOwnMark change q → Said q
  said_by (OpenSession other) is names own = refl
  said_by (Lock store) is names own = lock_tells wants reply o store
  said_by (Unlock store) is names own = refl
  said_by (PartialLock select) is names own = refl
  said_by (PartialUnlock id) is names own = refl
  said_by (Edit edit operation marks) is names own = refl
  said_by Validate is names own = refl
  said_by (Commit confirmed timeout persist persist_id) is names own = commit_said confirmed timeout persist persist_id is names
  said_by (CancelCommit persist_id) is names own = cancel_tells wants reply o persist_id
  said_by Discard is names own = refl
  said_by (HasMark mark) is names own = mark_said mark is own
  said_by GetConfig is names own = refl
  said_by (Kill other) is names own = refl
  said_by CloseSession is names own = refl

  pub asked_tells : IsOwnMark change request → Said request
  asked_tells own = said_by request refl ours.names own
