-- What the requests of a device leave of running, and of what is pending.
use Rattle.std.proofs.Common.{◌≡◌, ℕ, ◌+◌, ◌==◌, List, filter, length, Bool, true, false, not, is_some, if◌then◌else◌, ◌&&◌, Option, Some, None, IfSome, Result, Ok, Err, slice_get, refl, sym, ap, ◌∙◌, subst}
use Rattle.std.proofs.lemmas.Bool.{cond_both}
use Rattle.nm_base.specs.declared.tag.Tag.{Tag}
use Rattle.nm_base.specs.declared.tag.Tag.TheVariants.{InUse, InvalidValue, OperationFailed}
use Rattle.nm_proto.specs.declared.message.Store.{Store}
use Rattle.nm_proto.specs.declared.message.Store.TheVariants.{Running, Candidate}
use Rattle.nm_proto.specs.declared.message.Request.{Request}
use Rattle.nm_proto.specs.declared.message.Request.TheVariants.{OpenSession, Lock, Unlock, PartialLock, PartialUnlock, Edit, Validate, Commit, CancelCommit, Discard, HasMark, GetConfig, Kill, CloseSession}
use Rattle.nm_proto.specs.declared.message.Reply.{Reply}
use Rattle.nm_proto.specs.declared.message.Reply.TheVariants.{Error}
use Rattle.nm_proto.specs.Content.{Meaning, Refusal, TablesState}
use Rattle.nm_sessions.specs.Sessions.{next_id, is_open}
use Rattle.nm_locks.specs.Locks.{owner_of, is_owner, with_owner}
use Rattle.nm_partial.specs.Partial.{next_id as next_lock_id, holds, released, least_owner, overlap_with}
use Rattle.nm_stores.specs.Stores.{StoresState, candidate_of, is_modified, discarded}
use Rattle.nm_pending.specs.Pending.{PendingState, is_stranger, ends_with, ends_at, deadline_of}
use Rattle.nm_device.specs.Device.{DeviceState, Stepped, done, refuse, deny_lock, is_held_by_other, with_stores}
use Rattle.nm_device.specs.Commit.{commit_tag, commit_unless, commit_from, violation_of}
use Rattle.nm_device.specs.Undoing.{undone_by, undone, undone_if, left_by, later, emptied, ended, advanced, restarted}
use Rattle.nm_device.specs.Cancel.{cancel_tag, cancel_from, cancel_by, kill_by}
use Rattle.nm_device.specs.Part.{part_granted, part_unlocked, nodes_named, existing_locked, nodes_locked, named_locked, part_locked}
use Rattle.nm_device.specs.Table.{open_with, opened, with_lock, lock_running, lock_candidate, locked, stores_unlocked, unlocked, edit_gives, edit_at, edit_by, validated, discard_by, device_step, is_commit, Moves}

module _ {Config Node : Type 0} (s : DeviceState Config Node) where
  -- running is as it was, and what is pending too
  pub record StaysAt (t : DeviceState Config Node) : Type 0 where
    pub running : t.stores.running ≡ s.stores.running
    pub pending : t.pending ≡ s.pending

  abbrev pub Stays : Stepped Config Node → Type 0
  Stays stepped = StaysAt stepped.after

  pub opened_stays : (user : List ℕ) → Stays (opened s user)
  opened_stays user = go (next_id s.sessions)
    where
      go : (id : Option ℕ) → Stays (open_with s id user)
      go None = record { running = refl; pending = refl }
      go (Some id) = record { running = refl; pending = refl }

  locked_running_stays : (session : ℕ) (holder owner : Option ℕ) → Stays (lock_running s session holder owner)
  locked_running_stays session (Some holder) owner = record { running = refl; pending = refl }
  locked_running_stays session None (Some owner) = record { running = refl; pending = refl }
  locked_running_stays session None None = cond_both (is_stranger s.pending session) (deny_lock s 0) (done (with_lock s Running session)) Stays (λ _. record { running = refl; pending = refl }) (λ _. record { running = refl; pending = refl })

  locked_candidate_stays : (session : ℕ) (holder : Option ℕ) → Stays (lock_candidate s session holder)
  locked_candidate_stays session (Some holder) = record { running = refl; pending = refl }
  locked_candidate_stays session None = cond_both (is_modified s.stores) (deny_lock s 0) (done (with_lock s Candidate session)) Stays (λ _. record { running = refl; pending = refl }) (λ _. record { running = refl; pending = refl })

  pub locked_stays : (session : ℕ) (store : Store) → Stays (locked s session store)
  locked_stays session Running = locked_running_stays session (owner_of s.locks Running) (least_owner s.partials)
  locked_stays session Candidate = locked_candidate_stays session (owner_of s.locks Candidate)

  stores_unlocked_stay : (store : Store) → (stores_unlocked s.stores store).running ≡ s.stores.running
  stores_unlocked_stay Running = refl
  stores_unlocked_stay Candidate = refl

  pub unlocked_stays : (session : ℕ) (store : Store) → Stays (unlocked s session store)
  unlocked_stays session store = cond_both (is_owner (owner_of s.locks store) session)
      (done (record s { locks = with_owner s.locks store None; stores = stores_unlocked s.stores store })) (refuse s OperationFailed) Stays
      (λ _. record { running = stores_unlocked_stay store; pending = refl }) (λ _. record { running = refl; pending = refl })

  granted_stays : (session : ℕ) (nodes : List Node) (owner id : Option ℕ) → Stays (part_granted s session nodes owner id)
  granted_stays session nodes (Some owner) id = record { running = refl; pending = refl }
  granted_stays session nodes None None = record { running = refl; pending = refl }
  granted_stays session nodes None (Some id) = record { running = refl; pending = refl }

  pub part_unlocked_stays : (session id : ℕ) → Stays (part_unlocked s session id)
  part_unlocked_stays session id = cond_both (holds s.partials session id) (done (record s { partials = released s.partials session id })) (refuse s InvalidValue) Stays (λ _. record { running = refl; pending = refl }) (λ _. record { running = refl; pending = refl })

  edit_stays : (given : Result Config Refusal) → Stays (edit_gives s given)
  edit_stays (Ok config) = record { running = refl; pending = refl }
  edit_stays (Err refusal) = record { running = refl; pending = refl }

  pub validated_stays : (violation : Option Refusal) → Stays (validated s violation)
  validated_stays None = record { running = refl; pending = refl }
  validated_stays (Some refusal) = record { running = refl; pending = refl }

  pub discarded_stays : (session : ℕ) → Stays (discard_by s session)
  discarded_stays session = cond_both (is_held_by_other s Candidate session) (refuse s InUse) (done (with_stores s (discarded s.stores))) Stays (λ _. record { running = refl; pending = refl }) (λ _. record { running = refl; pending = refl })

module _ {Config TheEdit Node : Type 0} (m : Meaning Config TheEdit Node) (tables : TablesState TheEdit) (s : DeviceState Config Node) where
  edit_at_stays : (edit : Option TheEdit) (operation : _) (marks : _) → Stays s (edit_at m tables s edit operation marks)
  edit_at_stays None operation marks = record { running = refl; pending = refl }
  edit_at_stays (Some edit) operation marks = edit_stays s (m.edited (candidate_of s.stores) edit operation marks)

  pub edit_by_stays : (session number : ℕ) (operation : _) (marks : _) → Stays s (edit_by m tables s session number operation marks)
  edit_by_stays session number operation marks = cond_both (is_held_by_other s Candidate session) (refuse s InUse) (edit_at m tables s (slice_get tables.edits number) operation marks) (Stays s)
      (λ _. record { running = refl; pending = refl }) (λ _. edit_at_stays (slice_get tables.edits number) operation marks)

  existing_locked_stays : (session : ℕ) (nodes : List Node) → Stays s (existing_locked m s session nodes)
  existing_locked_stays session nodes = cond_both (length nodes == 0) (refuse s OperationFailed)
      (part_granted s session nodes (overlap_with m s.partials session nodes) (next_lock_id s.partials)) (Stays s)
      (λ _. record { running = refl; pending = refl }) (λ _. granted_stays s session nodes (overlap_with m s.partials session nodes) (next_lock_id s.partials))

  nodes_locked_stays : (session : ℕ) (nodes : List Node) (holder : Option ℕ) → Stays s (nodes_locked m s session nodes holder)
  nodes_locked_stays session nodes (Some holder) = record { running = refl; pending = refl }
  nodes_locked_stays session nodes None = cond_both (is_stranger s.pending session) (deny_lock s 0)
      (existing_locked m s session (filter (m.exists s.stores.running) nodes)) (Stays s)
      (λ _. record { running = refl; pending = refl }) (λ _. existing_locked_stays session (filter (m.exists s.stores.running) nodes))

  named_locked_stays : (session : ℕ) (nodes : Option (List Node)) → Stays s (named_locked m s session nodes)
  named_locked_stays session None = record { running = refl; pending = refl }
  named_locked_stays session (Some nodes) = nodes_locked_stays session nodes (owner_of s.locks Running)

  pub part_locked_stays : (session : ℕ) (texts : Option (List (List ℕ))) → Stays s (part_locked m s session texts)
  part_locked_stays session None = record { running = refl; pending = refl }
  part_locked_stays session (Some texts) = named_locked_stays session (nodes_named m texts)

-- ---- what requests move

module _ {Config TheEdit Node : Type 0} (m : Meaning Config TheEdit Node) (s : DeviceState Config Node) where
  -- running is as it was with what is pending, or that was undone
  pub data StaysOrUndoes : DeviceState Config Node → Type 0 where
    still : {t : DeviceState Config Node} → StaysAt s t → StaysOrUndoes t
    back : {t : DeviceState Config Node} → (p : PendingState Config) → s.pending ≡ Some p → t.stores.running ≡ p.before → t.pending ≡ None → StaysOrUndoes t

  undone_by_moves : (t : DeviceState Config Node) (pending : Option (PendingState Config)) → t.pending ≡ pending → StaysAt s t → StaysOrUndoes (undone_by m t pending)
  undone_by_moves t None e same = still same
  undone_by_moves t (Some p) e same = back p (sym same.pending ∙ e) refl refl

  pub undone_moves : (t : DeviceState Config Node) → StaysAt s t → StaysOrUndoes (undone m t)
  undone_moves t same = undone_by_moves t t.pending refl same

  pub undone_if_moves : (t : DeviceState Config Node) (undoes : Bool) → StaysAt s t → StaysOrUndoes (undone_if m t undoes)
  undone_if_moves t undoes same = cond_both undoes (undone m t) t StaysOrUndoes (λ _. undone_moves t same) (λ _. still same)

  left_stays : (session : ℕ) → StaysAt s (left_by s session)
  left_stays session = record {
    running = cond_both (is_owner (owner_of s.locks Candidate) session) (discarded s.stores) s.stores (λ (stores : StoresState Config). stores.running ≡ s.stores.running) (λ _. refl) (λ _. refl);
    pending = refl;
  }

  pub ended_moves : (session : ℕ) → StaysOrUndoes (ended m s session)
  ended_moves session = undone_if_moves (left_by s session) (ends_with s.pending session) (left_stays session)

  pub advanced_moves : (seconds : ℕ) → StaysOrUndoes (advanced m s seconds)
  advanced_moves seconds = undone_if_moves (later s seconds) (ends_at s.pending (s.clock + seconds)) (record { running = refl; pending = refl })

  pub restarted_moves : StaysOrUndoes (restarted m s)
  restarted_moves = undone_moves (emptied s) (record { running = refl; pending = refl })

  cancel_from_moves : (refusal : Option Tag) → StaysOrUndoes (cancel_from m s refusal).after
  cancel_from_moves (Some tag) = still (record { running = refl; pending = refl })
  cancel_from_moves None = undone_moves s (record { running = refl; pending = refl })

  pub cancel_moves : (session : ℕ) (named : Option (List ℕ)) → StaysOrUndoes (cancel_by m s session named).after
  cancel_moves session named = cancel_from_moves (cancel_tag m s session named)

  pub kill_moves : (session other : ℕ) → StaysOrUndoes (kill_by m s session other).after
  kill_moves session other = cond_both (other == session) (refuse s InvalidValue)
      (if is_open s.sessions other then done (ended m s other) else refuse s InvalidValue) (λ (stepped : Stepped Config Node). StaysOrUndoes stepped.after)
      (λ _. still (record { running = refl; pending = refl }))
      (λ _. cond_both (is_open s.sessions other) (done (ended m s other)) (refuse s InvalidValue) (λ (stepped : Stepped Config Node). StaysOrUndoes stepped.after)
      (λ _. ended_moves other) (λ _. still (record { running = refl; pending = refl })))

  -- ---- running, as the contract of a step says it

  not_dropped : (old new : Option (PendingState Config)) → new ≡ old → (is_some old && not (is_some new)) ≡ false
  not_dropped None new e = refl
  not_dropped (Some p) None e = cc
  not_dropped (Some p) (Some q) e = refl

  kept_moves : (request : Request) (reply : Reply) (t : DeviceState Config Node) → is_commit request ≡ false → StaysAt s t → Moves request reply s t
  kept_moves request reply t plain same = record {
    committed = λ commits _. cc;
    undone = λ _ dropped. absurd (let kept = not_dropped s.pending t.pending same.pending in let g : true ≡ false = sym dropped ∙ kept in cc);
    stays = λ _ _. same.running;
  }

  undoing_moves : (request : Request) (reply : Reply) (t : DeviceState Config Node) → is_commit request ≡ false → StaysOrUndoes t → Moves request reply s t
  undoing_moves request reply t plain (still same) = kept_moves request reply t plain same
  undoing_moves request reply t plain (back p there runs ends) = record {
    committed = λ commits _. cc;
    undone = λ _ _. subst (λ (pending : Option (PendingState Config)). IfSome pending (λ p. t.stores.running ≡ p.before)) (sym there) runs;
    stays = λ _ kept. absurd (let e : (is_some s.pending && not (is_some t.pending)) ≡ true = ap (λ (o : Option (PendingState Config)). is_some o && not (is_some t.pending)) there ∙ ap (λ (o : Option (PendingState Config)). not (is_some o)) ends in let g : true ≡ false = sym e ∙ kept in cc);
  }

  commit_unless_moves : (request : Request) (session : ℕ) (violation : Option Refusal) (confirmed : Bool) (persist : Option (List ℕ)) (deadline : ℕ) → is_commit request ≡ true
      → let stepped = commit_unless m s session violation confirmed persist deadline in Moves request stepped.reply s stepped.after
  commit_unless_moves request session (Some refusal) confirmed persist deadline commits = refused_moves request _ commits
    where
      refused_moves : (request : Request) (path : _) → is_commit request ≡ true → Moves request (Error refusal.tag None path) s s
      refused_moves request path commits = record {
        committed = λ _ d. cc;
        undone = λ plain _. cc;
        stays = λ _ _. refl;
      }
  commit_unless_moves request session None confirmed persist deadline commits = record {
    committed = λ _ _. refl;
    undone = λ plain _. cc;
    stays = λ kept _. absurd (let g : true ≡ false = sym (ap (λ (b : Bool). b && true) commits) ∙ kept in cc);
  }

  pub commit_moves : (request : Request) (session : ℕ) (refusal : Option Tag) (confirmed : Bool) (persist : Option (List ℕ)) (deadline : ℕ) → is_commit request ≡ true
      → let stepped = commit_from m s session refusal confirmed persist deadline in Moves request stepped.reply s stepped.after
  commit_moves request session (Some tag) confirmed persist deadline commits = record {
    committed = λ _ d. cc;
    undone = λ plain _. cc;
    stays = λ _ _. refl;
  }
  commit_moves request session None confirmed persist deadline commits = commit_unless_moves request session (violation_of m s.stores.candidate) confirmed persist deadline commits

module _ {Config TheEdit Node : Type 0} (m : Meaning Config TheEdit Node) (tables : TablesState TheEdit) (s : DeviceState Config Node) where
  -- what a request does to running
  pub step_moves : (session : ℕ) (request : Request) → let stepped = device_step m tables s session request in Moves request stepped.reply s stepped.after
  step_moves session (Lock store) = kept_moves m s (Lock store) _ _ refl (locked_stays s session store)
  step_moves session (Unlock store) = kept_moves m s (Unlock store) _ _ refl (unlocked_stays s session store)
  step_moves session (Edit edit operation marks) = kept_moves m s (Edit edit operation marks) _ _ refl (edit_by_stays m tables s session edit.0 operation marks)
  step_moves session Validate = kept_moves m s Validate _ _ refl (validated_stays s (m.violation (candidate_of s.stores)))
  step_moves session (Commit confirmed timeout persist persist_id) =
      commit_moves m s (Commit confirmed timeout persist persist_id) session (commit_tag m s session (record { confirmed = confirmed; timeout = timeout; persist = persist; persist_id = persist_id }))
      confirmed persist (deadline_of s.clock timeout) refl
  step_moves session Discard = kept_moves m s Discard _ _ refl (discarded_stays s session)
  step_moves session (HasMark change) = kept_moves m s (HasMark change) _ _ refl (record { running = refl; pending = refl })
  step_moves session GetConfig = kept_moves m s GetConfig _ _ refl (record { running = refl; pending = refl })
  step_moves session CloseSession = undoing_moves m s CloseSession _ _ refl (ended_moves m s session)
  step_moves session (OpenSession user) = kept_moves m s (OpenSession user) _ _ refl (record { running = refl; pending = refl })
  step_moves session (PartialLock select) = kept_moves m s (PartialLock select) _ _ refl (part_locked_stays m tables s session (slice_get tables.selects select.0))
  step_moves session (PartialUnlock id) = kept_moves m s (PartialUnlock id) _ _ refl (part_unlocked_stays s session id)
  step_moves session (CancelCommit persist_id) = undoing_moves m s (CancelCommit persist_id) _ _ refl (cancel_moves m s session persist_id)
  step_moves session (Kill other) = undoing_moves m s (Kill other) _ _ refl (kill_moves m s session other)
