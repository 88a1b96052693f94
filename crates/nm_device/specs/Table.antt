-- What a device does with each request: its tests in order, the first that fails answers, and then what it does
-- (RFC 6241 sections 7 and 8).
use Rattle.std.specs.Prelude.{◌≡◌, ℕ, List, Bool, true, false, not, ◌&&◌, Option, Some, None, IfSome, is_some, slice_get, Result, Ok, Err, if◌then◌else◌}
use Rattle.nm_base.specs.declared.tag.Tag.TheVariants.{InUse, OperationFailed, ResourceDenied}
use Rattle.nm_proto.specs.declared.message.Store.{Store}
use Rattle.nm_proto.specs.declared.message.Store.TheVariants.{Running, Candidate}
use Rattle.nm_proto.specs.declared.message.DefaultOperation.{DefaultOperation}
use Rattle.nm_proto.specs.declared.message.Marks.{Marks}
use Rattle.nm_proto.specs.declared.message.Request.{Request}
use Rattle.nm_proto.specs.declared.message.Request.TheVariants.{OpenSession, Lock, Unlock, PartialLock, PartialUnlock, Edit, Validate, Commit, CancelCommit, Discard, HasMark, GetConfig, Kill, CloseSession}
use Rattle.nm_proto.specs.declared.message.Reply.{Reply}
use Rattle.nm_proto.specs.declared.message.Reply.TheVariants.{Done, Opened, LockId, Mark, Rows, Error}
use Rattle.nm_proto.specs.Content.{Meaning, Refusal, counted_rows, TablesState}
use Rattle.nm_sessions.specs.Sessions.{next_id, entered}
use Rattle.nm_locks.specs.Locks.{owner_of, with_owner, is_owner}
use Rattle.nm_partial.specs.Partial.{least_owner}
use Rattle.nm_stores.specs.Stores.{StoresState, candidate_of, is_modified, with_candidate, discarded}
use Rattle.nm_pending.specs.Pending.{is_stranger}
use Rattle.nm_device.specs.Device.{DeviceState, Stepped, answer, done, refuse, deny_lock, refuse_at, is_held_by_other, is_dropped, with_stores}
use Rattle.nm_device.specs.Commit.{commit_by}
use Rattle.nm_device.specs.Undoing.{ended}
use Rattle.nm_device.specs.Cancel.{cancel_by, kill_by}
use Rattle.nm_device.specs.Part.{part_locked, part_unlocked}

module _ {Config : Type 0} where
  -- the stores after a lock is given back: with that of candidate go the changes (RFC 6241 section 8.3.5.2)
  abbrev pub stores_unlocked : StoresState Config → Store → StoresState Config
  stores_unlocked stores Running = stores
  stores_unlocked stores Candidate = discarded stores

module _ {Config Node : Type 0} where
  -- a session opens with an id one above the last, unless as many are open as may be or no id is left
  -- (RFC 6241 section 8.1)
  abbrev pub open_with : DeviceState Config Node → Option ℕ → List ℕ → Stepped Config Node
  open_with s None user = refuse s ResourceDenied
  open_with s (Some session) user = answer (Opened session) (record s { sessions = entered s.sessions user })

  -- a session is opened for a user, unless as many are open as may be (RFC 6241 section 8.1)
  abbrev pub opened : DeviceState Config Node → List ℕ → Stepped Config Node
  opened s user = open_with s (next_id s.sessions) user

  -- the device with a datastore locked by a session
  abbrev pub with_lock : DeviceState Config Node → Store → ℕ → DeviceState Config Node
  with_lock s store session = record s { locks = with_owner s.locks store (Some session) }

  -- a lock that anybody holds is denied. That of running is too while anybody has a part of it locked, the asker included
  -- (RFC 5717 section 2.5; that the holder of the least lock-id is named is this project's own), and while a commit is
  -- pending of which the asker is no author (RFC 6241 section 7.5)
  abbrev pub lock_running : DeviceState Config Node → ℕ → Option ℕ → Option ℕ → Stepped Config Node
  lock_running s session (Some holder) partial = deny_lock s holder
  lock_running s session None (Some owner) = deny_lock s owner
  lock_running s session None None = if is_stranger s.pending session then deny_lock s 0 else done (with_lock s Running session)

  -- and that of candidate, where candidate is modified (RFC 6241 section 7.5)
  abbrev pub lock_candidate : DeviceState Config Node → ℕ → Option ℕ → Stepped Config Node
  lock_candidate s session (Some holder) = deny_lock s holder
  lock_candidate s session None = if is_modified s.stores then deny_lock s 0 else done (with_lock s Candidate session)

  -- a session asks for the global lock of a datastore (RFC 6241 section 7.5)
  abbrev pub locked : DeviceState Config Node → ℕ → Store → Stepped Config Node
  locked s session Running = lock_running s session (owner_of s.locks Running) (least_owner s.partials)
  locked s session Candidate = lock_candidate s session (owner_of s.locks Candidate)

  -- only the owner gives a lock back (RFC 6241 section 7.6)
  abbrev pub unlocked : DeviceState Config Node → ℕ → Store → Stepped Config Node
  unlocked s session store =
      if is_owner (owner_of s.locks store) session then done (record s { locks = with_owner s.locks store None; stores = stores_unlocked s.stores store })
      else refuse s OperationFailed

  -- what an edit makes of candidate (RFC 6241 section 7.2)
  abbrev pub edit_gives : DeviceState Config Node → Result Config Refusal → Stepped Config Node
  edit_gives s (Ok config) = done (with_stores s (with_candidate s.stores config))
  edit_gives s (Err refusal) = refuse_at s refusal

  -- candidate is valid, or the first violation answers (RFC 6241 section 8.6)
  abbrev pub validated : DeviceState Config Node → Option Refusal → Stepped Config Node
  validated s None = done s
  validated s (Some refusal) = refuse_at s refusal

  -- candidate equals running again (RFC 6241 section 8.3.4.2), unless another session holds its lock (this project's own)
  abbrev pub discard_by : DeviceState Config Node → ℕ → Stepped Config Node
  discard_by s session = if is_held_by_other s Candidate session then refuse s InUse else done (with_stores s (discarded s.stores))

module _ {Config TheEdit Node : Type 0} (m : Meaning Config TheEdit Node) (tables : TablesState TheEdit) where
  -- an edit of a number that the tables lack is refused
  abbrev pub edit_at : DeviceState Config Node → Option TheEdit → DefaultOperation → Option Marks → Stepped Config Node
  edit_at s None operation marks = refuse s OperationFailed
  edit_at s (Some edit) operation marks = edit_gives s (m.edited (candidate_of s.stores) edit operation marks)

  -- another's lock of candidate keeps everybody else out (RFC 6241 section 7.5)
  abbrev pub edit_by : DeviceState Config Node → ℕ → ℕ → DefaultOperation → Option Marks → Stepped Config Node
  edit_by s session number operation marks =
      if is_held_by_other s Candidate session then refuse s InUse else edit_at s (slice_get tables.edits number) operation marks

  -- a request of an open session. Who has one doesn't ask for another
  abbrev pub device_step : DeviceState Config Node → ℕ → Request → Stepped Config Node
  device_step s session (Lock store) = locked s session store
  device_step s session (Unlock store) = unlocked s session store
  device_step s session (Edit edit operation marks) = edit_by s session edit.0 operation marks
  device_step s session Validate = validated s (m.violation (candidate_of s.stores))
  device_step s session (Commit confirmed timeout persist persist_id) =
      commit_by m s session (record { confirmed = confirmed; timeout = timeout; persist = persist; persist_id = persist_id })
  device_step s session Discard = discard_by s session
  device_step s session (HasMark change) = answer (Mark (m.has_mark s.stores.running change)) s
  device_step s session GetConfig = answer (Rows (counted_rows (m.rows s.stores.running))) s
  device_step s session CloseSession = done (ended m s session)
  device_step s session (OpenSession user) = refuse s OperationFailed
  device_step s session (PartialLock select) = part_locked m s session (slice_get tables.selects select.0)
  device_step s session (PartialUnlock id) = part_unlocked s session id
  device_step s session (CancelCommit persist_id) = cancel_by m s session persist_id
  device_step s session (Kill other) = kill_by m s session other

-- ---- words on requests and replies

-- the answer to the request needs no memory
abbrev pub takes_no_memory : Request → Bool
takes_no_memory (OpenSession user) = false
takes_no_memory (PartialLock select) = false
takes_no_memory (Edit edit operation marks) = false
takes_no_memory Validate = false
takes_no_memory (Commit confirmed timeout persist persist_id) = false
takes_no_memory (Lock store) = true
takes_no_memory (Unlock store) = true
takes_no_memory (PartialUnlock id) = true
takes_no_memory (CancelCommit persist_id) = true
takes_no_memory Discard = true
takes_no_memory (HasMark change) = true
takes_no_memory GetConfig = true
takes_no_memory (Kill session) = true
takes_no_memory CloseSession = true

-- the user who asks for a session
abbrev pub opening_user : Request → Option (List ℕ)
opening_user (OpenSession user) = Some user
opening_user (Lock store) = None
opening_user (Unlock store) = None
opening_user (PartialLock select) = None
opening_user (PartialUnlock id) = None
opening_user (Edit edit operation marks) = None
opening_user Validate = None
opening_user (Commit confirmed timeout persist persist_id) = None
opening_user (CancelCommit persist_id) = None
opening_user Discard = None
opening_user (HasMark change) = None
opening_user GetConfig = None
opening_user (Kill session) = None
opening_user CloseSession = None

-- a request that opens a session
abbrev pub is_opening : Request → Bool
is_opening request = is_some (opening_user request)

-- a commit, of either kind
abbrev pub is_commit : Request → Bool
is_commit (Commit confirmed timeout persist persist_id) = true
is_commit (OpenSession user) = false
is_commit (Lock store) = false
is_commit (Unlock store) = false
is_commit (PartialLock select) = false
is_commit (PartialUnlock id) = false
is_commit (Edit edit operation marks) = false
is_commit Validate = false
is_commit (CancelCommit persist_id) = false
is_commit Discard = false
is_commit (HasMark change) = false
is_commit GetConfig = false
is_commit (Kill session) = false
is_commit CloseSession = false

-- a commit or a cancel: what ends a pending commit as it is asked to
abbrev pub asks_for_end : Request → Bool
asks_for_end (Commit confirmed timeout persist persist_id) = true
asks_for_end (CancelCommit persist_id) = true
asks_for_end (OpenSession user) = false
asks_for_end (Lock store) = false
asks_for_end (Unlock store) = false
asks_for_end (PartialLock select) = false
asks_for_end (PartialUnlock id) = false
asks_for_end (Edit edit operation marks) = false
asks_for_end Validate = false
asks_for_end Discard = false
asks_for_end (HasMark change) = false
asks_for_end GetConfig = false
asks_for_end (Kill session) = false
asks_for_end CloseSession = false

-- a request undid a pending commit, other than by a cancel: one was pending before it and none is after it
abbrev pub undid : {Config Node : Type 0} → Request → DeviceState Config Node → DeviceState Config Node → Bool
undid request old new = is_dropped old new && not (asks_for_end request)

-- a reply that refuses
abbrev pub is_error : Reply → Bool
is_error Done = false
is_error (Opened session) = false
is_error (LockId id) = false
is_error (Mark there) = false
is_error (Rows count) = false
is_error (Error tag session path) = true

-- a reply that tells no more than that the request was done
abbrev pub is_done : Reply → Bool
is_done Done = true
is_done (Opened session) = false
is_done (LockId id) = false
is_done (Mark there) = false
is_done (Rows count) = false
is_done (Error tag session path) = false

-- what a request does to running: a commit that was done makes it what candidate was just before, an undoing what it was
-- before the commit that began what is undone, and nothing else changes it (RFC 6241 sections 8.3 and 8.4)
pub record Moves {Config Node : Type 0} (request : Request) (reply : Reply) (old new : DeviceState Config Node) : Type 0 where
  pub committed : is_commit request ≡ true → is_done reply ≡ true → new.stores.running ≡ candidate_of old.stores
  pub undone : is_commit request ≡ false → is_dropped old new ≡ true → IfSome old.pending (λ p. new.stores.running ≡ p.before)
  pub stays : (is_commit request && is_done reply) ≡ false → is_dropped old new ≡ false → new.stores.running ≡ old.stores.running
