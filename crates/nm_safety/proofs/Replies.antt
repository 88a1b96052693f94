-- A device gives a session to nobody who has one.
use Rattle.std.proofs.Common.{◌≡◌, ℕ, ◌==◌, List, filter, length, Option, Some, None, Result, Ok, Err, slice_get, refl, if◌then◌else◌}
use Rattle.std.proofs.lemmas.Bool.{cond_both}
use Rattle.nm_base.specs.declared.tag.Tag.{Tag}
use Rattle.nm_base.specs.declared.tag.Tag.TheVariants.{InUse, OperationFailed, InvalidValue}
use Rattle.nm_proto.specs.declared.message.Store.{Store}
use Rattle.nm_proto.specs.declared.message.Store.TheVariants.{Running, Candidate}
use Rattle.nm_proto.specs.declared.message.Request.{Request}
use Rattle.nm_proto.specs.declared.message.Request.TheVariants.{OpenSession, Lock, Unlock, PartialLock, PartialUnlock, Edit, Validate, Commit, CancelCommit, Discard, HasMark, GetConfig, Kill, CloseSession}
use Rattle.nm_proto.specs.Content.{Meaning, TablesState, Refusal}
use Rattle.nm_sessions.specs.Sessions.{is_open}
use Rattle.nm_locks.specs.Locks.{owner_of, is_owner, with_owner}
use Rattle.nm_stores.specs.Stores.{candidate_of, is_modified, discarded}
use Rattle.nm_partial.specs.Partial.{next_id as next_lock_id, holds, released, overlap_with, least_owner}
use Rattle.nm_pending.specs.Pending.{is_stranger, deadline_of}
use Rattle.nm_device.specs.Device.{DeviceState, Stepped, done, refuse, deny_lock, is_held_by_other, with_stores}
use Rattle.nm_device.specs.Undoing.{ended}
use Rattle.nm_device.specs.Cancel.{cancel_from, cancel_tag, kill_by}
use Rattle.nm_device.specs.Commit.{commit_tag, violation_of, commit_unless, commit_from}
use Rattle.nm_device.specs.Part.{part_granted, existing_locked, nodes_locked, named_locked, nodes_named, part_locked, part_unlocked}
use Rattle.nm_device.specs.Table.{stores_unlocked, with_lock, lock_running, lock_candidate, locked, unlocked, edit_gives, edit_at, edit_by, validated, device_step}
use Rattle.nm_wire.specs.Link.{session_in}

module _ {Config TheEdit Node : Type 0} (m : Meaning Config TheEdit Node) (tables : TablesState TheEdit) (s : DeviceState Config Node) (session : ℕ) where
  abbrev Plain : Stepped Config Node → Type 0
  Plain stepped = session_in stepped.reply ≡ None

  running_plain : (holder owner : Option ℕ) → Plain (lock_running s session holder owner)
  running_plain (Some holder) owner = refl
  running_plain None (Some owner) = refl
  running_plain None None = cond_both (is_stranger s.pending session) (deny_lock s 0) (done (with_lock s Running session)) Plain (λ _. refl) (λ _. refl)

  candidate_plain : (holder : Option ℕ) → Plain (lock_candidate s session holder)
  candidate_plain (Some holder) = refl
  candidate_plain None = cond_both (is_modified s.stores) (deny_lock s 0) (done (with_lock s Candidate session)) Plain (λ _. refl) (λ _. refl)

  locked_plain : (store : Store) → Plain (locked s session store)
  locked_plain Running = running_plain (owner_of s.locks Running) (least_owner s.partials)
  locked_plain Candidate = candidate_plain (owner_of s.locks Candidate)

  unlocked_plain : (store : Store) → Plain (unlocked s session store)
  unlocked_plain store =
      cond_both (is_owner (owner_of s.locks store) session) (done (record s { locks = with_owner s.locks store None; stores = stores_unlocked s.stores store })) (refuse s OperationFailed) Plain (λ _. refl) (λ _. refl)

  granted_plain : (nodes : List Node) (owner id : Option ℕ) → Plain (part_granted s session nodes owner id)
  granted_plain nodes (Some owner) id = refl
  granted_plain nodes None None = refl
  granted_plain nodes None (Some id) = refl

  part_unlocked_plain : (id : ℕ) → Plain (part_unlocked s session id)
  part_unlocked_plain id = cond_both (holds s.partials session id) (done (record s { partials = released s.partials session id })) (refuse s InvalidValue) Plain (λ _. refl) (λ _. refl)

  gives_plain : (given : Result Config Refusal) → Plain (edit_gives s given)
  gives_plain (Ok config) = refl
  gives_plain (Err refusal) = refl

  validated_plain : (violation : Option Refusal) → Plain (validated s violation)
  validated_plain None = refl
  validated_plain (Some refusal) = refl

  edit_at_plain : (edit : Option TheEdit) (operation : _) (marks : _) → Plain (edit_at m tables s edit operation marks)
  edit_at_plain None operation marks = refl
  edit_at_plain (Some edit) operation marks = gives_plain (m.edited (candidate_of s.stores) edit operation marks)

  edit_by_plain : (number : ℕ) (operation : _) (marks : _) → Plain (edit_by m tables s session number operation marks)
  edit_by_plain number operation marks =
      cond_both (is_held_by_other s Candidate session) (refuse s InUse) (edit_at m tables s (slice_get tables.edits number) operation marks) Plain
      (λ _. refl) (λ _. edit_at_plain (slice_get tables.edits number) operation marks)

  existing_plain : (nodes : List Node) → Plain (existing_locked m s session nodes)
  existing_plain nodes =
      cond_both (length nodes == 0) (refuse s OperationFailed) (part_granted s session nodes (overlap_with m s.partials session nodes) (next_lock_id s.partials)) Plain
      (λ _. refl) (λ _. granted_plain nodes (overlap_with m s.partials session nodes) (next_lock_id s.partials))

  nodes_plain : (nodes : List Node) (holder : Option ℕ) → Plain (nodes_locked m s session nodes holder)
  nodes_plain nodes (Some holder) = refl
  nodes_plain nodes None =
      cond_both (is_stranger s.pending session) (deny_lock s 0) (existing_locked m s session (filter (m.exists s.stores.running) nodes)) Plain
      (λ _. refl) (λ _. existing_plain (filter (m.exists s.stores.running) nodes))

  named_plain : (nodes : Option (List Node)) → Plain (named_locked m s session nodes)
  named_plain None = refl
  named_plain (Some nodes) = nodes_plain nodes (owner_of s.locks Running)

  part_locked_plain : (texts : Option (List (List ℕ))) → Plain (part_locked m s session texts)
  part_locked_plain None = refl
  part_locked_plain (Some texts) = named_plain (nodes_named m texts)

  unless_plain : (violation : Option Refusal) (confirmed : _) (persist : _) (deadline : _) → Plain (commit_unless m s session violation confirmed persist deadline)
  unless_plain None confirmed persist deadline = refl
  unless_plain (Some refusal) confirmed persist deadline = refl

  commit_plain : (refusal : Option Tag) (confirmed : _) (persist : _) (deadline : _) → Plain (commit_from m s session refusal confirmed persist deadline)
  commit_plain (Some tag) confirmed persist deadline = refl
  commit_plain None confirmed persist deadline = unless_plain (violation_of m s.stores.candidate) confirmed persist deadline

  cancel_plain : (refusal : Option Tag) → Plain (cancel_from m s refusal)
  cancel_plain (Some tag) = refl
  cancel_plain None = refl

  kill_plain : (other : ℕ) → Plain (kill_by m s session other)
  kill_plain other =
      cond_both (other == session) (refuse s InvalidValue) (if is_open s.sessions other then done (ended m s other) else refuse s InvalidValue) Plain (λ _. refl)
      (λ _. cond_both (is_open s.sessions other) (done (ended m s other)) (refuse s InvalidValue) Plain (λ _. refl) (λ _. refl))

  pub step_plain : (request : Request) → Plain (device_step m tables s session request)
  step_plain (OpenSession user) = refl
  step_plain (Lock store) = locked_plain store
  step_plain (Unlock store) = unlocked_plain store
  step_plain (PartialLock select) = part_locked_plain (slice_get tables.selects select.0)
  step_plain (PartialUnlock id) = part_unlocked_plain id
  step_plain (Edit edit operation marks) = edit_by_plain edit.0 operation marks
  step_plain Validate = validated_plain (m.violation (candidate_of s.stores))
  step_plain (Commit confirmed timeout persist persist_id) =
      commit_plain (commit_tag m s session (record { confirmed = confirmed; timeout = timeout; persist = persist; persist_id = persist_id })) confirmed persist (deadline_of s.clock timeout)
  step_plain (CancelCommit persist_id) = cancel_plain (cancel_tag m s session persist_id)
  step_plain Discard = cond_both (is_held_by_other s Candidate session) (refuse s InUse) (done (with_stores s (discarded s.stores))) Plain (λ _. refl) (λ _. refl)
  step_plain (HasMark change) = refl
  step_plain GetConfig = refl
  step_plain (Kill other) = kill_plain other
  step_plain CloseSession = refl
