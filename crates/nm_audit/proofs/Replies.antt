-- No request on a session opens another.
use Rattle.std.proofs.Common.{Option, Some, None, Result, Ok, Err, ◌≡◌, ℕ, ◌==◌, Bool, true, false, List, filter, length, slice_get, refl, if◌then◌else◌}
use Rattle.nm_base.specs.declared.tag.Tag.{Tag}
use Rattle.nm_base.specs.declared.tag.Tag.TheVariants as tag
use Rattle.nm_proto.specs.declared.message.DefaultOperation.{DefaultOperation}
use Rattle.nm_proto.specs.declared.message.Marks.{Marks}
use Rattle.nm_proto.specs.declared.message.Store.TheVariants.{Running, Candidate}
use Rattle.nm_proto.specs.declared.message.Request.{Request}
use Rattle.nm_proto.specs.declared.message.Request.TheVariants.{OpenSession, Lock, Unlock, PartialLock, PartialUnlock, Edit, Validate, Commit, CancelCommit, Discard, HasMark, GetConfig, Kill, CloseSession}
use Rattle.nm_proto.specs.declared.message.Reply.{Reply}
use Rattle.nm_proto.specs.declared.message.Reply.TheVariants.{Done, Opened, LockId, Mark, Rows, Error}
use Rattle.nm_proto.specs.Content.{Meaning, Refusal, TablesState}
use Rattle.nm_locks.specs.Locks.{owner_of, is_owner, with_owner}
use Rattle.nm_partial.specs.Partial.{least_owner, holds, released, overlap_with, next_id as next_partial}
use Rattle.nm_pending.specs.Pending.{is_stranger, deadline_of}
use Rattle.nm_stores.specs.Stores.{candidate_of, discarded, is_modified}
use Rattle.nm_sessions.specs.Sessions.{is_open}
use Rattle.nm_device.specs.Device.{DeviceState, Stepped, deny_lock, done, is_held_by_other, refuse, with_stores}
use Rattle.nm_device.specs.Commit.{commit_tag, commit_from, commit_unless, violation_of}
use Rattle.nm_device.specs.Cancel.{cancel_tag, cancel_from}
use Rattle.nm_device.specs.Undoing.{ended}
use Rattle.nm_device.specs.Part.{part_granted, existing_locked, nodes_locked, named_locked, nodes_named, part_locked}
use Rattle.nm_device.specs.Table.{device_step, edit_at, edit_gives, lock_candidate, lock_running, stores_unlocked, validated, with_lock}

-- a reply that opens no session
abbrev pub opens_none : Reply → Bool
opens_none Done = true
opens_none (Opened session) = false
opens_none (LockId id) = true
opens_none (Mark there) = true
opens_none (Rows count) = true
opens_none (Error tag holder path) = true

module _ {Config Node : Type 0} where
  abbrev IsPlain : Stepped Config Node → Type 0
  IsPlain stepped = opens_none stepped.reply ≡ true

  either : (b : Bool) (one other : Stepped Config Node) → IsPlain one → IsPlain other → IsPlain (if b then one else other)
  either true one other p q = p
  either false one other p q = q

  running_plain : (s : DeviceState Config Node) (session : ℕ) (holder partial : Option ℕ) → IsPlain (lock_running s session holder partial)
  running_plain s session (Some holder) partial = refl
  running_plain s session None (Some owner) = refl
  running_plain s session None None = either (is_stranger s.pending session) (deny_lock s 0) (done (with_lock s Running session)) refl refl

  candidate_plain : (s : DeviceState Config Node) (session : ℕ) (holder : Option ℕ) → IsPlain (lock_candidate s session holder)
  candidate_plain s session (Some holder) = refl
  candidate_plain s session None = either (is_modified s.stores) (deny_lock s 0) (done (with_lock s Candidate session)) refl refl

  gives_plain : (s : DeviceState Config Node) (given : Result Config Refusal) → IsPlain (edit_gives s given)
  gives_plain s (Ok config) = refl
  gives_plain s (Err refusal) = refl

  valid_plain : (s : DeviceState Config Node) (violation : Option Refusal) → IsPlain (validated s violation)
  valid_plain s None = refl
  valid_plain s (Some refusal) = refl

  granted : (s : DeviceState Config Node) (session : ℕ) (nodes : List Node) (owner id : Option ℕ) → IsPlain (part_granted s session nodes owner id)
  granted s session nodes (Some owner) id = refl
  granted s session nodes None None = refl
  granted s session nodes None (Some id) = refl

module _ {Config TheEdit Node : Type 0} (m : Meaning Config TheEdit Node) (tables : TablesState TheEdit) (s : DeviceState Config Node) (session : ℕ) where
  edit_plain : (edit : Option TheEdit) (operation : DefaultOperation) (marks : Option Marks) → IsPlain (edit_at m tables s edit operation marks)
  edit_plain None operation marks = refl
  edit_plain (Some edit) operation marks = gives_plain s (m.edited (candidate_of s.stores) edit operation marks)

  unless_plain : (violation : Option Refusal) (confirmed : Bool) (persist : Option (List ℕ)) (deadline : ℕ) → IsPlain (commit_unless m s session violation confirmed persist deadline)
  unless_plain (Some refusal) confirmed persist deadline = refl
  unless_plain None confirmed persist deadline = refl

  from_plain : (refusal : Option Tag) (confirmed : Bool) (persist : Option (List ℕ)) (deadline : ℕ) → IsPlain (commit_from m s session refusal confirmed persist deadline)
  from_plain (Some one) confirmed persist deadline = refl
  from_plain None confirmed persist deadline = unless_plain (violation_of m s.stores.candidate) confirmed persist deadline

  cancel_plain : (refusal : Option Tag) → IsPlain (cancel_from m s refusal)
  cancel_plain (Some one) = refl
  cancel_plain None = refl

  existing : (nodes : List Node) → IsPlain (existing_locked m s session nodes)
  existing nodes =
      either (length nodes == 0) (refuse s tag.OperationFailed) (part_granted s session nodes (overlap_with m s.partials session nodes) (next_partial s.partials)) refl
      (granted s session nodes (overlap_with m s.partials session nodes) (next_partial s.partials))

  nodes_granted : (nodes : List Node) (holder : Option ℕ) → IsPlain (nodes_locked m s session nodes holder)
  nodes_granted nodes (Some holder) = refl
  nodes_granted nodes None =
      either (is_stranger s.pending session) (deny_lock s 0) (existing_locked m s session (filter (m.exists s.stores.running) nodes)) refl (existing (filter (m.exists s.stores.running) nodes))

  named_granted : (nodes : Option (List Node)) → IsPlain (named_locked m s session nodes)
  named_granted None = refl
  named_granted (Some nodes) = nodes_granted nodes (owner_of s.locks Running)

  part_granted_to : (texts : Option (List (List ℕ))) → IsPlain (part_locked m s session texts)
  part_granted_to None = refl
  part_granted_to (Some texts) = named_granted (nodes_named m texts)

  pub step_opens : (request : Request) → opens_none (device_step m tables s session request).reply ≡ true
  step_opens (OpenSession user) = refl
  step_opens (Lock Running) = running_plain s session (owner_of s.locks Running) (least_owner s.partials)
  step_opens (Lock Candidate) = candidate_plain s session (owner_of s.locks Candidate)
  step_opens (Unlock store) =
      either (is_owner (owner_of s.locks store) session) (done (record s { locks = with_owner s.locks store None; stores = stores_unlocked s.stores store })) (refuse s tag.OperationFailed) refl refl
  step_opens (PartialLock select) = part_granted_to (slice_get tables.selects select.0)
  step_opens (PartialUnlock id) = either (holds s.partials session id) (done (record s { partials = released s.partials session id })) (refuse s tag.InvalidValue) refl refl
  step_opens (Edit edit operation marks) =
      either (is_held_by_other s Candidate session) (refuse s tag.InUse) (edit_at m tables s (slice_get tables.edits edit.0) operation marks) refl (edit_plain (slice_get tables.edits edit.0) operation marks)
  step_opens Validate = valid_plain s (m.violation (candidate_of s.stores))
  step_opens (Commit confirmed timeout persist persist_id) =
      from_plain (commit_tag m s session (record { confirmed = confirmed; timeout = timeout; persist = persist; persist_id = persist_id })) confirmed persist (deadline_of s.clock timeout)
  step_opens (CancelCommit persist_id) = cancel_plain (cancel_tag m s session persist_id)
  step_opens Discard = either (is_held_by_other s Candidate session) (refuse s tag.InUse) (done (with_stores s (discarded s.stores))) refl refl
  step_opens (HasMark change) = refl
  step_opens GetConfig = refl
  step_opens (Kill other) =
      either (other == session) (refuse s tag.InvalidValue) (if is_open s.sessions other then done (ended m s other) else refuse s tag.InvalidValue) refl
      (either (is_open s.sessions other) (done (ended m s other)) (refuse s tag.InvalidValue) refl refl)
  step_opens CloseSession = refl
