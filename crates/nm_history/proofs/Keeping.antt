-- What an event keeps: running changes as the definition of whole histories says, what is kept from before the pending
-- commit is running from before it began, what others have locked stays, and a steady device is steady again.
use Rattle.std.proofs.Common.{◌≡◌, ℕ, List, Bool, true, false, not, ◌&&◌, Option, Some, None, IfSome, is_some, slice_get, refl, sym, ap, ◌∙◌, subst}
use Rattle.std.proofs.lemmas.Option.{cond_some, same_Some}
use Rattle.nm_base.specs.declared.tag.Tag.{Tag}
use Rattle.nm_proto.specs.declared.message.Request.{Request}
use Rattle.nm_proto.specs.declared.message.Request.TheVariants.{OpenSession, Lock, Unlock, PartialLock, PartialUnlock, Edit, Validate, Commit, CancelCommit, Discard, HasMark, GetConfig, Kill, CloseSession}
use Rattle.nm_proto.specs.Content.{Meaning, Refusal, Laws, TablesState}
use Rattle.nm_sessions.specs.Sessions.{is_open}
use Rattle.nm_stores.specs.Stores.{candidate_of}
use Rattle.nm_partial.specs.Partial.{KeepsOthers}
use Rattle.nm_partial.proofs.Guards.{guards_keep}
use Rattle.nm_pending.specs.Pending.{PendingState, deadline_of}
use Rattle.nm_pending.specs.Fits.{cancel_refusal}
use Rattle.nm_proto.specs.declared.message.Store.TheVariants.{Running}
use Rattle.nm_locks.specs.Locks.{owner_of}
use Rattle.nm_device.specs.Device.{DeviceState, is_dropped, GuardedBy, IsSteady}
use Rattle.nm_device.specs.Commit.{CommitForm, commit_tag, commit_unless, commit_from, commit_by, pending_after, violation_of}
use Rattle.nm_device.specs.Undoing.{undone_by, ended, advanced, restarted}
use Rattle.nm_device.specs.Cancel.{is_kept_from_undoing, cancel_tag, cancel_from, cancel_by}
use Rattle.nm_device.specs.Table.{opened, device_step, is_opening, asks_for_end, is_done, undid}
use Rattle.nm_device.proofs.Rows.{StaysAt, StaysOrUndoes, opened_stays, locked_stays, unlocked_stays, part_unlocked_stays, validated_stays, discarded_stays, edit_by_stays, part_locked_stays, ended_moves, advanced_moves, restarted_moves, kill_moves}
use Rattle.nm_device.proofs.Rows.StaysOrUndoes.{still, back}
use Rattle.nm_device.proofs.Passing.{CancelPasses, tests_pass, cancel_passes}
use Rattle.nm_device.proofs.Steady.{alone_by, parts_by, ended_steady, advanced_steady, restarted_steady, step_steady, opened_steady}
use Rattle.nm_history.specs.declared.event.DeviceEvent.{DeviceEvent}
use Rattle.nm_history.specs.declared.event.DeviceEvent.TheVariants.{Entered, Asked, Lost, Advanced, Restarted}
use Rattle.nm_history.specs.declared.outcome.Undoing.{Undoing}
use Rattle.nm_history.specs.declared.outcome.Undoing.TheVariants.{Cancel, End, Timer, Restart}
use Rattle.nm_history.specs.History.{Happened, noted, entering, answered, losing, advancing, restarting, happened_if, device_event}
use Rattle.nm_history.specs.Effect.{Effect, effect_if, effect_of, effect_of_commit, noted_effect}
use Rattle.nm_history.specs.Effect.Effect.{Undoes, Neither}
use Rattle.nm_history.specs.Whole.{began_after, began_of, Becomes}
use Rattle.nm_history.specs.Locks.{asker_by, asker, Respects, KeepsStrangers, Spares}

and_false : (b : Bool) → (b && false) ≡ false
and_false true = refl
and_false false = refl

and_true : (b : Bool) → (b && true) ≡ b
and_true true = refl
and_true false = refl

not_dropped : {Config : Type 0} (old new : Option (PendingState Config)) → new ≡ old → (is_some old && not (is_some new)) ≡ false
not_dropped None new e = refl
not_dropped (Some p) None e = cc
not_dropped (Some p) (Some q) e = refl

module _ {Config TheEdit Node : Type 0} (m : Meaning Config TheEdit Node) (s : DeviceState Config Node) where
  -- what something of an effect does to running and to what is kept
  pub record Moved (effect : Effect) (t : DeviceState Config Node) : Type 0 where
    pub moves : Becomes s (began_of s.pending) effect t.stores.running
    pub began : began_of t.pending ≡ began_after s.stores.running (began_of s.pending) effect

  stayed : (t : DeviceState Config Node) → StaysAt s t → Moved Neither t
  stayed t same = record { moves = same.running; began = ap began_of same.pending }

  stays_kept : (t : DeviceState Config Node) → StaysAt s t → is_dropped s t ≡ false
  stays_kept t same = not_dropped s.pending t.pending same.pending

  -- ---- what is undone without being asked

  went_back : (by : Undoing) (t : DeviceState Config Node) (p : PendingState Config) → s.pending ≡ Some p → t.stores.running ≡ p.before → t.pending ≡ None → Moved (Undoes by) t
  went_back by t p there runs ends = record { moves = ap began_of there ∙ ap Some (sym runs); began = ap began_of ends }

  dropped : (t : DeviceState Config Node) (p : PendingState Config) → s.pending ≡ Some p → t.pending ≡ None → is_dropped s t ≡ true
  dropped t p there ends = ap (λ (o : Option (PendingState Config)). is_some o && not (is_some t.pending)) there ∙ ap (λ (o : Option (PendingState Config)). not (is_some o)) ends

  pub undoing_moved : (by : Undoing) (t : DeviceState Config Node) → StaysOrUndoes m s t → Moved (effect_if (is_dropped s t) (Undoes by)) t
  undoing_moved by t (still same) = subst (λ (b : Bool). Moved (effect_if b (Undoes by)) t) (sym (stays_kept t same)) (stayed t same)
  undoing_moved by t (back p there runs ends) = subst (λ (b : Bool). Moved (effect_if b (Undoes by)) t) (sym (dropped t p there ends)) (went_back by t p there runs ends)

  same_part : {one other : Config} (node : Node) → one ≡ other → m.part one node ≡ m.part other node
  same_part node e = ap (λ config. m.part config node) e

  strangers_kept : (running : Config) (pending : Option (PendingState Config)) (p : PendingState Config) → pending ≡ Some p → running ≡ p.before → s.pending ≡ pending → IsSteady m s
      → IfSome pending (KeepsStrangers m s running)
  strangers_kept running None p there runs e st = tt
  strangers_kept running (Some q) p there runs e st =
      let g = subst (λ (o : Option (PendingState Config)). IfSome o (GuardedBy m s.stores.running (owner_of s.locks Running) s.partials.locks)) e st.guarded in
      let at : running ≡ q.before = runs ∙ ap (λ (one : PendingState Config). one.before) (sym (same_Some q p there)) in
      record {
        lock = g.lock;
        parts = λ k d within stranger j node inside. sym (g.parts k d within stranger j node inside) ∙ same_part _ (sym at);
      }

  pub undoing_spares : (t : DeviceState Config Node) → StaysOrUndoes m s t → IsSteady m s → Spares m s (is_dropped s t) t.stores.running
  undoing_spares t (still same) st = subst (λ (b : Bool). Spares m s b t.stores.running) (sym (stays_kept t same)) tt
  undoing_spares t (back p there runs ends) st = subst (λ (b : Bool). Spares m s b t.stores.running) (sym (dropped t p there ends)) (strangers_kept t.stores.running s.pending p there runs refl st)

  -- ---- commits

  commit_began : (session : ℕ) (confirmed : Bool) (persist : Option (List ℕ)) (deadline : ℕ) (pending : Option (PendingState Config))
      → began_of (pending_after s session confirmed persist deadline pending) ≡ began_after s.stores.running (began_of pending) (effect_of_commit confirmed persist)
  commit_began session false persist deadline pending = refl
  commit_began session true persist deadline None = refl
  commit_began session true persist deadline (Some p) = refl

  commit_moves : (confirmed : Bool) (persist : Option (List ℕ)) → Becomes s (began_of s.pending) (effect_of_commit confirmed persist) (candidate_of s.stores)
  commit_moves true persist = refl
  commit_moves false persist = refl

  unless_moved : (session : ℕ) (violation : Option Refusal) (confirmed : Bool) (persist : Option (List ℕ)) (deadline : ℕ)
      → let stepped = commit_unless m s session violation confirmed persist deadline in Moved (effect_if (is_done stepped.reply) (effect_of_commit confirmed persist)) stepped.after
  unless_moved session (Some refusal) confirmed persist deadline = stayed s (record { running = refl; pending = refl })
  unless_moved session None confirmed persist deadline = record { moves = commit_moves confirmed persist; began = commit_began session confirmed persist deadline s.pending }

  commit_moved : (session : ℕ) (refusal : Option Tag) (confirmed : Bool) (persist : Option (List ℕ)) (deadline : ℕ)
      → let stepped = commit_from m s session refusal confirmed persist deadline in Moved (effect_if (is_done stepped.reply) (effect_of_commit confirmed persist)) stepped.after
  commit_moved session (Some tag) confirmed persist deadline = stayed s (record { running = refl; pending = refl })
  commit_moved session None confirmed persist deadline = unless_moved session (violation_of m s.stores.candidate) confirmed persist deadline

  unless_respects : (laws : Laws m) (session : ℕ) (form : CommitForm) (violation : Option Refusal) (deadline : ℕ) → commit_tag m s session form ≡ None
      → let stepped = commit_unless m s session violation form.confirmed form.persist deadline in Respects m s (asker_by session true (is_done stepped.reply)) stepped.after.stores.running
  unless_respects laws session form (Some refusal) deadline passed = tt
  unless_respects laws session form None deadline passed =
      let passes = tests_pass m s session form passed in
      record { alone = alone_by m laws s session passes.free; parts = parts_by m laws s session form passes }

  commit_respects : (laws : Laws m) (session : ℕ) (form : CommitForm) (refusal : Option Tag) (deadline : ℕ) → commit_tag m s session form ≡ refusal
      → let stepped = commit_from m s session refusal form.confirmed form.persist deadline in Respects m s (asker_by session true (is_done stepped.reply)) stepped.after.stores.running
  commit_respects laws session form (Some tag) deadline e = tt
  commit_respects laws session form None deadline e = unless_respects laws session form (violation_of m s.stores.candidate) deadline e

  -- ---- cancels

  misfit_none : (session : ℕ) (named : Option (List ℕ)) (pending : Option (PendingState Config)) → s.pending ≡ pending → cancel_refusal pending session named ≡ None → StaysAt s s → Moved (Undoes Cancel) (undone_by m s pending)
  misfit_none session None None e fits same = cc
  misfit_none session (Some named) None e fits same = cc
  misfit_none session named (Some p) e fits same = went_back Cancel (undone_by m s (Some p)) p e refl refl

  cancel_moved : (session : ℕ) (named : Option (List ℕ)) (refusal : Option Tag) → cancel_tag m s session named ≡ refusal
      → let stepped = cancel_from m s refusal in Moved (effect_if (is_done stepped.reply) (Undoes Cancel)) stepped.after
  cancel_moved session named (Some tag) e = stayed s (record { running = refl; pending = refl })
  cancel_moved session named None e = misfit_none session named s.pending refl (cancel_passes m s session named (ap (λ (o : Option Tag). is_done (cancel_from m s o).reply) e)).fits (record { running = refl; pending = refl })

  cancel_parts : (laws : Laws m) (session : ℕ) (named : Option (List ℕ)) (pending : Option (PendingState Config)) → s.pending ≡ pending → CancelPasses m s session named
      → KeepsOthers m s.partials session s.stores.running (undone_by m s pending).stores.running
  cancel_parts laws session named None e passes = λ i lock within other j node inside. refl
  cancel_parts laws session named (Some p) e passes = (guards_keep m laws s.partials session s.stores.running p.before).0
      (sym (ap (λ (o : Option (PendingState Config)). is_kept_from_undoing m s session o) e) ∙ passes.unguarded)

  cancel_respects : (laws : Laws m) (session : ℕ) (named : Option (List ℕ)) (refusal : Option Tag) → cancel_tag m s session named ≡ refusal
      → let stepped = cancel_from m s refusal in Respects m s (asker_by session true (is_done stepped.reply)) stepped.after.stores.running
  cancel_respects laws session named (Some tag) e = tt
  cancel_respects laws session named None e =
      let passes = cancel_passes m s session named (ap (λ (o : Option Tag). is_done (cancel_from m s o).reply) e) in
      record { alone = alone_by m laws s session passes.free; parts = cancel_parts laws session named s.pending refl passes }

  -- ---- each event

  -- what an event keeps
  pub record Keeps (event : DeviceEvent) (h : Happened Config Node) : Type 0 where
    pub moved : Moved (noted_effect (noted event h)) h.after
    pub steady : IsSteady m s → IsSteady m h.after
    pub respects : Respects m s (asker (noted event h)) h.after.stores.running
    pub spares : IsSteady m s → Spares m s h.undone h.after.stores.running

  chosen : (event : DeviceEvent) (can : Bool) (made h : Happened Config Node) → happened_if can made ≡ Some h → Keeps event made → Keeps event h
  chosen event can made h e k = subst (Keeps event) (cond_some can made h e).1 k

module _ {Config TheEdit Node : Type 0} (m : Meaning Config TheEdit Node) (laws : Laws m) (tables : TablesState TheEdit) (s : DeviceState Config Node) where
  -- a request that neither commits nor ends anything
  quiet : (session : ℕ) (request : Request) → ((done undone : Bool) → effect_of request done undone ≡ Neither) → asks_for_end request ≡ false
      → StaysAt s (device_step m tables s session request).after → Keeps m s (Asked session request) (answered s request (device_step m tables s session request))
  quiet session request none asks same =
      let stepped = device_step m tables s session request in
      let kept : undid request s stepped.after ≡ false = ap (λ (b : Bool). b && not (asks_for_end request)) (stays_kept m s stepped.after same) in
      record {
        moved = subst (λ (effect : Effect). Moved m s effect stepped.after) (sym (none (is_done stepped.reply) (undid request s stepped.after))) (stayed m s stepped.after same);
        steady = step_steady m laws tables s session request;
        respects = subst (λ (b : Bool). Respects m s (asker_by session b (is_done stepped.reply)) stepped.after.stores.running) (sym asks) tt;
        spares = λ st. subst (λ (b : Bool). Spares m s b stepped.after.stores.running) (sym kept) tt;
      }

  -- the end of a session
  ending : (session : ℕ) (request : Request) → ((done undone : Bool) → effect_of request done undone ≡ effect_if undone (Undoes End)) → asks_for_end request ≡ false
      → StaysOrUndoes m s (device_step m tables s session request).after → Keeps m s (Asked session request) (answered s request (device_step m tables s session request))
  ending session request effect asks moves =
      let stepped = device_step m tables s session request in
      let told : undid request s stepped.after ≡ is_dropped s stepped.after = ap (λ (b : Bool). is_dropped s stepped.after && not b) asks ∙ and_true (is_dropped s stepped.after) in
      record {
        moved = subst (λ (effect : Effect). Moved m s effect stepped.after) (sym (effect (is_done stepped.reply) (undid request s stepped.after) ∙ ap (λ (b : Bool). effect_if b (Undoes End)) told))
            (undoing_moved m s End stepped.after moves);
        steady = step_steady m laws tables s session request;
        respects = subst (λ (b : Bool). Respects m s (asker_by session b (is_done stepped.reply)) stepped.after.stores.running) (sym asks) tt;
        spares = λ st. subst (λ (b : Bool). Spares m s b stepped.after.stores.running) (sym told) (undoing_spares m s stepped.after moves st);
      }

  unspared : (b : Bool) (running : Config) → Spares m s (b && false) running
  unspared b running = subst (λ (undone : Bool). Spares m s undone running) (sym (and_false b)) tt

  still_there : StaysAt s s
  still_there = record { running = refl; pending = refl }

  asked_keeps : (session : ℕ) (request : Request) → Keeps m s (Asked session request) (answered s request (device_step m tables s session request))
  asked_keeps session (Commit confirmed timeout persist persist_id) =
      let form : CommitForm = record { confirmed = confirmed; timeout = timeout; persist = persist; persist_id = persist_id } in
      let stepped = commit_by m s session form in
      record {
        moved = commit_moved m s session (commit_tag m s session form) confirmed persist (deadline_of s.clock timeout);
        steady = step_steady m laws tables s session (Commit confirmed timeout persist persist_id);
        respects = commit_respects m s laws session form (commit_tag m s session form) (deadline_of s.clock timeout) refl;
        spares = λ st. unspared (is_dropped s stepped.after) stepped.after.stores.running;
      }
  asked_keeps session (CancelCommit persist_id) =
      let stepped = cancel_by m s session persist_id in
      record {
        moved = cancel_moved m s session persist_id (cancel_tag m s session persist_id) refl;
        steady = step_steady m laws tables s session (CancelCommit persist_id);
        respects = cancel_respects m s laws session persist_id (cancel_tag m s session persist_id) refl;
        spares = λ st. unspared (is_dropped s stepped.after) stepped.after.stores.running;
      }
  asked_keeps session (Kill other) = ending session (Kill other) (λ done undone. refl) refl (kill_moves m s session other)
  asked_keeps session CloseSession = ending session CloseSession (λ done undone. refl) refl (ended_moves m s session)
  asked_keeps session (OpenSession user) = quiet session (OpenSession user) (λ done undone. refl) refl still_there
  asked_keeps session (Lock store) = quiet session (Lock store) (λ done undone. refl) refl (locked_stays s session store)
  asked_keeps session (Unlock store) = quiet session (Unlock store) (λ done undone. refl) refl (unlocked_stays s session store)
  asked_keeps session (PartialLock select) = quiet session (PartialLock select) (λ done undone. refl) refl (part_locked_stays m tables s session (slice_get tables.selects select.0))
  asked_keeps session (PartialUnlock id) = quiet session (PartialUnlock id) (λ done undone. refl) refl (part_unlocked_stays s session id)
  asked_keeps session (Edit edit operation marks) = quiet session (Edit edit operation marks) (λ done undone. refl) refl (edit_by_stays m tables s session edit.0 operation marks)
  asked_keeps session Validate = quiet session Validate (λ done undone. refl) refl (validated_stays s (m.violation (candidate_of s.stores)))
  asked_keeps session Discard = quiet session Discard (λ done undone. refl) refl (discarded_stays s session)
  asked_keeps session (HasMark change) = quiet session (HasMark change) (λ done undone. refl) refl still_there
  asked_keeps session GetConfig = quiet session GetConfig (λ done undone. refl) refl still_there

  entered_keeps : (user : List ℕ) → Keeps m s (Entered user) (entering s user)
  entered_keeps user = record {
    moved = stayed m s (opened s user).after (opened_stays s user);
    steady = opened_steady m s user;
    respects = tt;
    spares = λ st. tt;
  }

  lost_keeps : (session : ℕ) → Keeps m s (Lost session) (losing m s session)
  lost_keeps session = record {
    moved = undoing_moved m s End (ended m s session) (ended_moves m s session);
    steady = ended_steady m s session;
    respects = tt;
    spares = undoing_spares m s (ended m s session) (ended_moves m s session);
  }

  advanced_keeps : (seconds : ℕ) → Keeps m s (Advanced seconds) (advancing m s seconds)
  advanced_keeps seconds = record {
    moved = undoing_moved m s Timer (advanced m s seconds) (advanced_moves m s seconds);
    steady = advanced_steady m s seconds;
    respects = tt;
    spares = undoing_spares m s (advanced m s seconds) (advanced_moves m s seconds);
  }

  restarted_keeps : Keeps m s Restarted (restarting m s)
  restarted_keeps = record {
    moved = undoing_moved m s Restart (restarted m s) (restarted_moves m s);
    steady = restarted_steady m s;
    respects = tt;
    spares = undoing_spares m s (restarted m s) (restarted_moves m s);
  }

  pub event_keeps : (event : DeviceEvent) (h : Happened Config Node) → device_event m tables s event ≡ Some h → Keeps m s event h
  event_keeps (Entered user) h e = subst (Keeps m s (Entered user)) (same_Some (entering s user) h e) (entered_keeps user)
  event_keeps (Asked session request) h e = chosen m s (Asked session request) (is_open s.sessions session && not (is_opening request))
      (answered s request (device_step m tables s session request)) h e (asked_keeps session request)
  event_keeps (Lost session) h e = chosen m s (Lost session) (is_open s.sessions session) (losing m s session) h e (lost_keeps session)
  event_keeps (Advanced seconds) h e = subst (Keeps m s (Advanced seconds)) (same_Some (advancing m s seconds) h e) (advanced_keeps seconds)
  event_keeps Restarted h e = subst (Keeps m s Restarted) (same_Some (restarting m s) h e) restarted_keeps
