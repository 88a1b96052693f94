-- What an event keeps of a token that it doesn't name, or may not.
use Rattle.std.proofs.Common.{◌≡◌, ℕ, ◌==◌, List, Bool, true, false, not, ◌&&◌, is_some, slice_get, Option, Some, None, refl, sym, ap, ◌∙◌, subst, arith, IfSome, if◌then◌else◌}
use Rattle.std.proofs.lemmas.Bool.{cond_both}
use Rattle.std.proofs.lemmas.Option.{same_Some}
use Rattle.nm_base.specs.declared.tag.Tag.{Tag}
use Rattle.nm_base.specs.declared.tag.Tag.TheVariants.{InvalidValue}
use Rattle.nm_proto.specs.declared.message.Request.{Request}
use Rattle.nm_proto.specs.declared.message.Request.TheVariants.{OpenSession, Lock, Unlock, PartialLock, PartialUnlock, Edit, Validate, Commit, CancelCommit, Discard, HasMark, GetConfig, Kill, CloseSession}
use Rattle.nm_proto.specs.declared.message.Reply.{Reply}
use Rattle.nm_proto.specs.declared.message.Reply.TheVariants.{Done, Opened, LockId, Mark, Rows, Error}
use Rattle.nm_proto.specs.Content.{Meaning, Refusal, TablesState}
use Rattle.nm_sessions.specs.Sessions.{is_open}
use Rattle.nm_stores.specs.Stores.{candidate_of}
use Rattle.nm_pending.specs.Pending.{PendingState, deadline_of}
use Rattle.nm_device.specs.Device.{DeviceState, Stepped, done, refuse, is_dropped}
use Rattle.nm_device.specs.Commit.{CommitForm, commit_tag, commit_unless, commit_from, violation_of}
use Rattle.nm_device.specs.Undoing.{undone_by, undone_if, left_by, ended, advanced, restarted}
use Rattle.nm_device.specs.Cancel.{cancel_tag, cancel_from, kill_by}
use Rattle.nm_device.specs.Table.{opened, device_step, asks_for_end, is_done, undid}
use Rattle.nm_device.proofs.Passing.{tests_pass, cancel_passes}
use Rattle.nm_device.proofs.Rows.{StaysAt, StaysOrUndoes, opened_stays, locked_stays, unlocked_stays, part_unlocked_stays, validated_stays, discarded_stays, edit_by_stays, part_locked_stays, ended_moves, advanced_moves, restarted_moves}
use Rattle.nm_device.proofs.Rows.StaysOrUndoes.{still, back}
use Rattle.nm_history.specs.declared.event.DeviceEvent.{DeviceEvent}
use Rattle.nm_history.specs.declared.event.DeviceEvent.TheVariants.{Entered, Asked, Lost, Advanced, Restarted}
use Rattle.nm_history.specs.declared.event.Noted.{Noted}
use Rattle.nm_history.specs.declared.outcome.Outcome.TheVariants.{Pending, Undone}
use Rattle.nm_history.specs.declared.outcome.Undoing.{Undoing}
use Rattle.nm_history.specs.declared.outcome.Undoing.TheVariants.{Cancel, End, Timer, Restart}
use Rattle.nm_history.specs.History.{Happened, noted, entering, answered, losing, advancing, restarting}
use Rattle.nm_history.specs.Effect.{Effect, is_done_reply, effect_if, effect_of, effect_of_commit, noted_effect}
use Rattle.nm_history.specs.Effect.Effect.{Undoes, Neither}
use Rattle.nm_history.specs.Outcome.{is_token}
use Rattle.nm_device_laws.specs.Moment.{Happens}
use Rattle.nm_device_laws.specs.Token.{gives_token, is_commit_done, is_timed, undoing_by, waits_under, leaves_token, KeepsToken}
use Rattle.nm_device_laws.specs.Moment.{is_refused}
use Rattle.nm_device_laws.proofs.Acts.{refused_stays}
use Rattle.nm_device_laws.proofs.Readings.{begins_token, settled_push, pending_push, count_push}
use Rattle.nm_device_laws.proofs.Named.{commit_elsewhere, cancel_elsewhere, after_elsewhere, ends_unless, commit_unnamed, cancel_unnamed}
use Rattle.nm_device_laws.proofs.Events.{IsAsked, is_asked, lost_does}

and_false : (b : Bool) → (b && false) ≡ false
and_false true = refl
and_false false = refl

and_true : (b : Bool) → (b && true) ≡ b
and_true true = refl
and_true false = refl

not_dropped : {Config : Type 0} (old new : Option (PendingState Config)) → new ≡ old → (is_some old && not (is_some new)) ≡ false
not_dropped None new e = refl
not_dropped (Some p) None e = cc
not_dropped (Some p) (Some q) e = refl

module _ {Config TheEdit Node : Type 0} (m : Meaning Config TheEdit Node) (token : List ℕ) (s : DeviceState Config Node) where
  kept_there : (now : DeviceState Config Node) → now.pending ≡ s.pending → is_dropped s now ≡ false
  kept_there now same = not_dropped s.pending now.pending same

  here : StaysAt s s
  here = record { running = refl; pending = refl }

  -- nothing changes of running and of what is pending
  unmoved : (entry : Noted) (now : DeviceState Config Node) → noted_effect entry ≡ Neither → is_commit_done token entry ≡ false → StaysAt s now → KeepsToken token s entry now
  unmoved entry now effect none same = record {
    stays = λ waits there. same.pending;
    timed = λ waits dropped. absurd (never dropped);
    running = λ waits there. same.running;
    undone = λ waits dropped. absurd (never dropped);
    none = λ other. ap (waits_under token) same.pending ∙ other;
    settled = λ history is. settled_push token history entry Neither effect refl is;
    waiting = λ history waits is. pending_push token history entry Neither effect is
        ∙ sym (ap (λ (b : Bool). if b then Undone (undoing_by entry.event) else Pending) (kept_there now same.pending));
    count = λ history. count_push token history entry false none ∙ omega arith;
  }
    where
      never : is_dropped s now ≡ true → ⊥
      never dropped = let impossible : true ≡ false = sym dropped ∙ kept_there now same.pending in cc

  -- something else is pending, or nothing, and not under the token after it either
  elsewhere : (entry : Noted) (now : DeviceState Config Node) (effect : Effect) → noted_effect entry ≡ effect → begins_token token effect ≡ false → is_commit_done token entry ≡ false
      → waits_under token s.pending ≡ false → waits_under token now.pending ≡ false → KeepsToken token s entry now
  elsewhere entry now effect e begins none other after = record {
    stays = λ waits. absurd (never waits);
    timed = λ waits. absurd (never waits);
    running = λ waits. absurd (never waits);
    undone = λ waits. absurd (never waits);
    none = λ _. after;
    settled = λ history is. settled_push token history entry effect e begins is;
    waiting = λ history waits. absurd (never waits);
    count = λ history. count_push token history entry false none ∙ omega arith;
  }
    where
      never : waits_under token s.pending ≡ true → ⊥
      never waits = let impossible : true ≡ false = sym waits ∙ other in cc

  -- what is pending is undone, or nothing changes of it
  undoing : (entry : Noted) (now : DeviceState Config Node) (by : Undoing) → noted_effect entry ≡ effect_if (is_dropped s now) (Undoes by) → is_commit_done token entry ≡ false
      → (waits_under token s.pending ≡ true → is_dropped s now ≡ true → (is_timed entry.event ≡ true) × (undoing_by entry.event ≡ by)) → StaysOrUndoes m s now → KeepsToken token s entry now
  undoing entry now by effect none timed (still same) = unmoved entry now (effect ∙ ap (λ (b : Bool). effect_if b (Undoes by)) (kept_there now same.pending)) none same
  undoing entry now by effect none timed (back p there runs ends) = record {
    stays = λ waits kept. absurd (let never : true ≡ false = sym gone ∙ kept in cc);
    timed = λ waits dropped. (timed waits dropped).0;
    running = λ waits kept. absurd (let never : true ≡ false = sym gone ∙ kept in cc);
    undone = λ waits dropped. subst (λ (pending : Option (PendingState Config)). IfSome pending (λ p. now.stores.running ≡ p.before)) (sym there) runs;
    none = λ _. ap (waits_under token) ends;
    settled = λ history is. settled_push token history entry (Undoes by) is_undone refl is;
    waiting = λ history waits is. pending_push token history entry (Undoes by) is_undone is
        ∙ ap Undone (sym (timed waits gone).1) ∙ sym (ap (λ (b : Bool). if b then Undone (undoing_by entry.event) else Pending) gone);
    count = λ history. count_push token history entry false none ∙ omega arith;
  }
    where
      gone : is_dropped s now ≡ true
      gone = ap (λ (o : Option (PendingState Config)). is_some o && not (is_some now.pending)) there ∙ ap (λ (o : Option (PendingState Config)). not (is_some o)) ends

      is_undone : noted_effect entry ≡ Undoes by
      is_undone = effect ∙ ap (λ (b : Bool). effect_if b (Undoes by)) gone

  -- ---- requests

  abbrev Asks : ℕ → Request → Stepped Config Node → Type 0
  Asks session request stepped = KeepsToken token s (noted (Asked session request) (answered s request stepped)) stepped.after

  -- a request that neither commits nor ends anything
  quiet : (session : ℕ) (request : Request) (stepped : Stepped Config Node) → ((done undone : Bool) → effect_of request done undone ≡ Neither) → gives_token token request ≡ false
      → StaysAt s stepped.after → Asks session request stepped
  quiet session request stepped none gives same = unmoved (noted (Asked session request) (answered s request stepped)) stepped.after (none (is_done stepped.reply) (undid request s stepped.after))
      (ap (λ (b : Bool). b && is_done stepped.reply) gives) same

  -- the end of a session, which leaves what has a token
  ended_waits : (other : ℕ) → waits_under token s.pending ≡ true → is_dropped s (ended m s other) ≡ false
  ended_waits other waits = ap (λ (b : Bool). is_dropped s (undone_if m (left_by s other) b)) (ends_unless token s.pending other waits) ∙ not_dropped s.pending s.pending refl

  ending : (session other : ℕ) (request : Request) → ((done undone : Bool) → effect_of request done undone ≡ effect_if undone (Undoes End)) → asks_for_end request ≡ false → gives_token token request ≡ false
      → Asks session request (done (ended m s other))
  ending session other request effect asks gives =
      let now = ended m s other in
      let told : undid request s now ≡ is_dropped s now = ap (λ (b : Bool). is_dropped s now && not b) asks ∙ and_true (is_dropped s now) in
      undoing (noted (Asked session request) (answered s request (done now))) now End
      (effect true (undid request s now) ∙ ap (λ (b : Bool). effect_if b (Undoes End)) told) (ap (λ (b : Bool). b && true) gives)
      (λ waits dropped. absurd (let never : true ≡ false = sym dropped ∙ ended_waits other waits in cc)) (ended_moves m s other)

  killed : (session other : ℕ) → Asks session (Kill other) (kill_by m s session other)
  killed session other = cond_both (other == session) (refuse s InvalidValue)
      (if is_open s.sessions other then done (ended m s other) else refuse s InvalidValue) (Asks session (Kill other))
      (λ _. refused)
      (λ _. cond_both (is_open s.sessions other) (done (ended m s other)) (refuse s InvalidValue) (Asks session (Kill other))
      (λ _. ending session other (Kill other) (λ done undone. refl) refl refl) (λ _. refused))
    where
      refused : Asks session (Kill other) (refuse s InvalidValue)
      refused = unmoved (noted (Asked session (Kill other)) (answered s (Kill other) (refuse s InvalidValue))) s
          (ap (λ (b : Bool). effect_if (b && true) (Undoes End)) (kept_there s refl)) refl here

  -- a commit
  module _ (session : ℕ) (confirmed : Bool) (timeout : Option ℕ) (persist persist_id : Option (List ℕ)) where
    abbrev request : Request
    request = Commit confirmed timeout persist persist_id

    abbrev form : CommitForm
    form = record { confirmed = confirmed; timeout = timeout; persist = persist; persist_id = persist_id }

    refused_commit : (stepped : Stepped Config Node) → is_done stepped.reply ≡ false → StaysAt s stepped.after → Asks session request stepped
    refused_commit stepped undone same = unmoved (noted (Asked session request) (answered s request stepped)) stepped.after
        (ap (λ (b : Bool). effect_if b (effect_of_commit confirmed persist)) undone) (ap (λ (b : Bool). is_token token persist && b) undone ∙ and_false (is_token token persist)) same

    begins_by : (b : Bool) → is_token token persist ≡ false → begins_token token (effect_of_commit b persist) ≡ false
    begins_by true e = e
    begins_by false e = refl

    checked_commit : (violation : Option Refusal) → commit_tag m s session form ≡ None → leaves_token token s (Asked session request) ≡ true
        → Asks session request (commit_unless m s session violation confirmed persist (deadline_of s.clock timeout))
    checked_commit (Some refusal) passed leaves = refused_commit _ refl here
    checked_commit None passed leaves =
        let unnamed = commit_unnamed m s session token form passed leaves in
        let stepped = commit_unless m s session None confirmed persist (deadline_of s.clock timeout) in
        let other = commit_elsewhere token s.pending session persist_id (tests_pass m s session form passed).fits unnamed.1 in
        elsewhere (noted (Asked session request) (answered s request stepped)) stepped.after (effect_of_commit confirmed persist) refl (begins_by confirmed unnamed.0)
        (ap (λ (b : Bool). b && true) unnamed.0) other (after_elsewhere s session token confirmed persist (deadline_of s.clock timeout) s.pending unnamed.0 other)

    tested_commit : (refusal : Option Tag) → commit_tag m s session form ≡ refusal → leaves_token token s (Asked session request) ≡ true
        → Asks session request (commit_from m s session refusal confirmed persist (deadline_of s.clock timeout))
    tested_commit (Some tag) e leaves = refused_commit _ refl here
    tested_commit None e leaves = checked_commit (violation_of m s.stores.candidate) e leaves

  -- a cancel
  tested_cancel : (session : ℕ) (named : Option (List ℕ)) (refusal : Option Tag) → cancel_tag m s session named ≡ refusal → leaves_token token s (Asked session (CancelCommit named)) ≡ true
      → Asks session (CancelCommit named) (cancel_from m s refusal)
  tested_cancel session named (Some tag) e leaves = unmoved (noted (Asked session (CancelCommit named)) (answered s (CancelCommit named) (refuse s tag))) s refl refl here
  tested_cancel session named None e leaves =
      let fits = (cancel_passes m s session named (ap (λ (o : Option Tag). is_done (cancel_from m s o).reply) e)).fits in
      let other = cancel_elsewhere token s.pending session named fits (cancel_unnamed m s session token named e leaves) in
      let stepped = cancel_from m s None in
      elsewhere (noted (Asked session (CancelCommit named)) (answered s (CancelCommit named) stepped)) stepped.after (Undoes Cancel) refl refl refl other (gone s.pending refl other)
    where
      gone : (pending : Option (PendingState Config)) → s.pending ≡ pending → waits_under token s.pending ≡ false → waits_under token (undone_by m s pending).pending ≡ false
      gone None e other = other
      gone (Some p) e other = refl

module _ {Config TheEdit Node : Type 0} (m : Meaning Config TheEdit Node) (tables : TablesState TheEdit) (token : List ℕ) (s : DeviceState Config Node) where
  asked_token : (session : ℕ) (request : Request) → leaves_token token s (Asked session request) ≡ true → Asks m token s session request (device_step m tables s session request)
  asked_token session (Commit confirmed timeout persist persist_id) leaves = tested_commit m token s session confirmed timeout persist persist_id
      (commit_tag m s session (record { confirmed = confirmed; timeout = timeout; persist = persist; persist_id = persist_id })) refl leaves
  asked_token session (CancelCommit persist_id) leaves = tested_cancel m token s session persist_id (cancel_tag m s session persist_id) refl leaves
  asked_token session (Kill other) leaves = killed m token s session other
  asked_token session CloseSession leaves = ending m token s session session CloseSession (λ done undone. refl) refl refl
  asked_token session (OpenSession user) leaves = quiet m token s session (OpenSession user) _ (λ done undone. refl) refl (here m token s)
  asked_token session (Lock store) leaves = quiet m token s session (Lock store) _ (λ done undone. refl) refl (locked_stays s session store)
  asked_token session (Unlock store) leaves = quiet m token s session (Unlock store) _ (λ done undone. refl) refl (unlocked_stays s session store)
  asked_token session (PartialLock select) leaves = quiet m token s session (PartialLock select) _ (λ done undone. refl) refl (part_locked_stays m tables s session (slice_get tables.selects select.0))
  asked_token session (PartialUnlock id) leaves = quiet m token s session (PartialUnlock id) _ (λ done undone. refl) refl (part_unlocked_stays s session id)
  asked_token session (Edit edit operation marks) leaves = quiet m token s session (Edit edit operation marks) _ (λ done undone. refl) refl (edit_by_stays m tables s session edit.0 operation marks)
  asked_token session Validate leaves = quiet m token s session Validate _ (λ done undone. refl) refl (validated_stays s (m.violation (candidate_of s.stores)))
  asked_token session Discard leaves = quiet m token s session Discard _ (λ done undone. refl) refl (discarded_stays s session)
  asked_token session (HasMark change) leaves = quiet m token s session (HasMark change) _ (λ done undone. refl) refl (here m token s)
  asked_token session GetConfig leaves = quiet m token s session GetConfig _ (λ done undone. refl) refl (here m token s)

  pub token_kept : (event : DeviceEvent) (h : Happened Config Node) → Happens m tables s event h → leaves_token token s event ≡ true → KeepsToken token s (noted event h) h.after
  token_kept (Entered user) h e leaves = subst (λ (one : Happened Config Node). KeepsToken token s (noted (Entered user) one) one.after) (same_Some (entering s user) h e)
      (unmoved m token s (noted (Entered user) (entering s user)) (opened s user).after refl refl (opened_stays s user))
  token_kept (Asked session request) h e leaves = subst (λ (one : Happened Config Node). KeepsToken token s (noted (Asked session request) one) one.after) (is_asked m tables s session request h e).does
      (asked_token session request leaves)
  token_kept (Lost session) h e leaves = subst (λ (one : Happened Config Node). KeepsToken token s (noted (Lost session) one) one.after) (lost_does m tables s session h e)
      (undoing m token s (noted (Lost session) (losing m s session)) (ended m s session) End refl refl
      (λ waits dropped. absurd (let never : true ≡ false = sym dropped ∙ ended_waits m token s session waits in cc)) (ended_moves m s session))
  token_kept (Advanced seconds) h e leaves = subst (λ (one : Happened Config Node). KeepsToken token s (noted (Advanced seconds) one) one.after) (same_Some (advancing m s seconds) h e)
      (undoing m token s (noted (Advanced seconds) (advancing m s seconds)) (advanced m s seconds) Timer refl refl (λ waits dropped. (refl, refl)) (advanced_moves m s seconds))
  token_kept Restarted h e leaves = subst (λ (one : Happened Config Node). KeepsToken token s (noted Restarted one) one.after) (same_Some (restarting m s) h e)
      (undoing m token s (noted Restarted (restarting m s)) (restarted m s) Restart refl refl (λ waits dropped. (refl, refl)) (restarted_moves m s))

  -- a request that is refused leaves all that is told of every token
  pub refused_kept : (session : ℕ) (request : Request) (h : Happened Config Node) → Happens m tables s (Asked session request) h → is_refused h.reply ≡ true → KeepsToken token s (noted (Asked session request) h) h.after
  refused_kept session request h e refused = unmoved m token s (noted (Asked session request) h) h.after
      (ap (λ (b : Bool). effect_of request b h.undone) undone_so ∙ ap (effect_of request false) kept ∙ no_effect request)
      (ap (λ (b : Bool). gives_token token request && b) undone_so ∙ and_false (gives_token token request))
      (record { running = ap (λ (one : DeviceState Config Node). one.stores.running) same; pending = ap (λ (one : DeviceState Config Node). one.pending) same })
    where
      is : IsAsked m tables s session request h
      is = is_asked m tables s session request h e

      same : h.after ≡ s
      same = subst (λ (one : Happened Config Node). one.after ≡ s) is.does (refused_stays m tables s session request (ap (λ (one : Happened Config Node). is_refused one.reply) is.does ∙ refused))

      not_done : (reply : Option Reply) → is_refused reply ≡ true → is_done_reply reply ≡ false
      not_done None e = refl
      not_done (Some Done) e = absurd (cc)
      not_done (Some (Opened id)) e = refl
      not_done (Some (LockId id)) e = refl
      not_done (Some (Mark there)) e = refl
      not_done (Some (Rows count)) e = refl
      not_done (Some (Error tag holder path)) e = refl

      undone_so : is_done_reply h.reply ≡ false
      undone_so = not_done h.reply refused

      kept : h.undone ≡ false
      kept = sym (ap (λ (one : Happened Config Node). one.undone) is.does) ∙ ap (λ (t : DeviceState Config Node). undid request s t) (ap (λ (one : Happened Config Node). one.after) is.does ∙ same)
          ∙ ap (λ (b : Bool). b && not (asks_for_end request)) (kept_there m token s s refl)

      no_effect : (request : Request) → effect_of request false false ≡ Neither
      no_effect (Commit confirmed timeout persist persist_id) = refl
      no_effect (CancelCommit persist_id) = refl
      no_effect (Kill other) = refl
      no_effect CloseSession = refl
      no_effect (OpenSession user) = refl
      no_effect (Lock store) = refl
      no_effect (Unlock store) = refl
      no_effect (PartialLock select) = refl
      no_effect (PartialUnlock id) = refl
      no_effect (Edit edit operation marks) = refl
      no_effect Validate = refl
      no_effect Discard = refl
      no_effect (HasMark change) = refl
      no_effect GetConfig = refl
