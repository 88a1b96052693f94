-- What each request leaves so, where the few changes that requests are made of leave it so.
use Rattle.std.proofs.Common.{◌≡◌, ℕ, ◌==◌, List, filter, length, false, if◌then◌else◌, Option, Some, None, Result, Ok, Err, slice_get, refl}
use Rattle.std.proofs.lemmas.Bool.{cond_both}
use Rattle.nm_base.specs.declared.tag.Tag.{Tag}
use Rattle.nm_base.specs.declared.tag.Tag.TheVariants.{InUse, InvalidValue, OperationFailed}
use Rattle.nm_proto.specs.declared.message.Store.{Store}
use Rattle.nm_proto.specs.declared.message.Store.TheVariants.{Running, Candidate}
use Rattle.nm_proto.specs.declared.message.DefaultOperation.{DefaultOperation}
use Rattle.nm_proto.specs.declared.message.Marks.{Marks}
use Rattle.nm_proto.specs.declared.message.Request.{Request}
use Rattle.nm_proto.specs.declared.message.Request.TheVariants.{OpenSession, Lock, Unlock, PartialLock, PartialUnlock, Edit, Validate, Commit, CancelCommit, Discard, HasMark, GetConfig, Kill, CloseSession}
use Rattle.nm_proto.specs.Content.{Meaning, Refusal, TablesState}
use Rattle.nm_sessions.specs.Sessions.{is_open}
use Rattle.nm_locks.specs.Locks.{owner_of, is_owner, with_owner}
use Rattle.nm_partial.specs.Partial.{next_id, granted, holds, released, least_owner, overlap_with}
use Rattle.nm_stores.specs.Stores.{candidate_of, is_modified, with_candidate, discarded}
use Rattle.nm_pending.specs.Pending.{is_stranger, deadline_of}
use Rattle.nm_device.specs.Device.{DeviceState, Stepped, done, refuse, deny_lock, is_held_by_other, with_stores}
use Rattle.nm_device.specs.Commit.{CommitForm, commit_tag, commit_done, commit_unless, commit_from, violation_of}
use Rattle.nm_device.specs.Undoing.{undone, ended}
use Rattle.nm_device.specs.Cancel.{cancel_tag, cancel_from, kill_by}
use Rattle.nm_device.specs.Part.{part_granted, part_unlocked, nodes_named, existing_locked, nodes_locked, named_locked, part_locked}
use Rattle.nm_device.specs.Table.{with_lock, lock_running, lock_candidate, locked, stores_unlocked, unlocked, edit_gives, edit_at, edit_by, validated, discard_by, device_step}

module _ {Config TheEdit Node : Type 0} (m : Meaning Config TheEdit Node) (tables : TablesState TheEdit) (s : DeviceState Config Node) where
  -- what holds of a device, and of each device that one change of it makes
  pub record Closed (P : DeviceState Config Node → Type 0) : Type 0 where
    pub same : P s
    pub taken : (session : ℕ) → is_stranger s.pending session ≡ false → P (with_lock s Running session)
    pub candidate_taken : (session : ℕ) → P (with_lock s Candidate session)
    pub freed : (store : Store) → P (record s { locks = with_owner s.locks store None; stores = stores_unlocked s.stores store })
    pub parts_taken : (session : ℕ) (nodes : List Node) → is_stranger s.pending session ≡ false → P (record s { partials = granted s.partials session nodes })
    pub parts_freed : (session id : ℕ) → P (record s { partials = released s.partials session id })
    pub edited : (place : ℕ) (edit : TheEdit) (operation : DefaultOperation) (marks : Option Marks) (config : Config) → slice_get tables.edits place ≡ Some edit
        → m.edited (candidate_of s.stores) edit operation marks ≡ Ok config → P (with_stores s (with_candidate s.stores config))
    pub dropped : P (with_stores s (discarded s.stores))
    pub session_ended : (session : ℕ) → P (ended m s session)
    pub taken_back : P (undone m s)
    pub committed : (session : ℕ) (form : CommitForm) → commit_tag m s session form ≡ None → violation_of m s.stores.candidate ≡ None
        → P (commit_done m s session form.confirmed form.persist (deadline_of s.clock form.timeout)).after

  module _ (P : DeviceState Config Node → Type 0) (c : Closed P) where
    abbrev After : Stepped Config Node → Type 0
    After stepped = P stepped.after

    running_locked : (session : ℕ) (holder owner : Option ℕ) → After (lock_running s session holder owner)
    running_locked session (Some holder) owner = c.same
    running_locked session None (Some owner) = c.same
    running_locked session None None = cond_both (is_stranger s.pending session) (deny_lock s 0) (done (with_lock s Running session)) After (λ _. c.same) (c.taken session)

    candidate_locked : (session : ℕ) (holder : Option ℕ) → After (lock_candidate s session holder)
    candidate_locked session (Some holder) = c.same
    candidate_locked session None = cond_both (is_modified s.stores) (deny_lock s 0) (done (with_lock s Candidate session)) After (λ _. c.same) (λ _. c.candidate_taken session)

    store_locked : (session : ℕ) (store : Store) → After (locked s session store)
    store_locked session Running = running_locked session (owner_of s.locks Running) (least_owner s.partials)
    store_locked session Candidate = candidate_locked session (owner_of s.locks Candidate)

    store_unlocked : (session : ℕ) (store : Store) → After (unlocked s session store)
    store_unlocked session store = cond_both (is_owner (owner_of s.locks store) session)
        (done (record s { locks = with_owner s.locks store None; stores = stores_unlocked s.stores store })) (refuse s OperationFailed) After
        (λ _. c.freed store) (λ _. c.same)

    granted_to : (session : ℕ) (nodes : List Node) (owner id : Option ℕ) → is_stranger s.pending session ≡ false → After (part_granted s session nodes owner id)
    granted_to session nodes (Some owner) id free = c.same
    granted_to session nodes None None free = c.same
    granted_to session nodes None (Some id) free = c.parts_taken session nodes free

    nodes_granted : (session : ℕ) (nodes : List Node) → is_stranger s.pending session ≡ false → After (existing_locked m s session nodes)
    nodes_granted session nodes free = cond_both (length nodes == 0) (refuse s OperationFailed)
        (part_granted s session nodes (overlap_with m s.partials session nodes) (next_id s.partials)) After
        (λ _. c.same) (λ _. granted_to session nodes (overlap_with m s.partials session nodes) (next_id s.partials) free)

    unheld_granted : (session : ℕ) (nodes : List Node) (holder : Option ℕ) → After (nodes_locked m s session nodes holder)
    unheld_granted session nodes (Some holder) = c.same
    unheld_granted session nodes None = cond_both (is_stranger s.pending session) (deny_lock s 0)
        (existing_locked m s session (filter (m.exists s.stores.running) nodes)) After
        (λ _. c.same) (nodes_granted session (filter (m.exists s.stores.running) nodes))

    named_granted : (session : ℕ) (nodes : Option (List Node)) → After (named_locked m s session nodes)
    named_granted session None = c.same
    named_granted session (Some nodes) = unheld_granted session nodes (owner_of s.locks Running)

    part_taken : (session : ℕ) (texts : Option (List (List ℕ))) → After (part_locked m s session texts)
    part_taken session None = c.same
    part_taken session (Some texts) = named_granted session (nodes_named m texts)

    part_freed : (session id : ℕ) → After (part_unlocked s session id)
    part_freed session id = cond_both (holds s.partials session id) (done (record s { partials = released s.partials session id })) (refuse s InvalidValue) After
        (λ _. c.parts_freed session id) (λ _. c.same)

    edit_given : (place : ℕ) (edit : TheEdit) (operation : DefaultOperation) (marks : Option Marks) (given : Result Config Refusal) → slice_get tables.edits place ≡ Some edit
        → m.edited (candidate_of s.stores) edit operation marks ≡ given → After (edit_gives s given)
    edit_given place edit operation marks (Ok config) there e = c.edited place edit operation marks config there e
    edit_given place edit operation marks (Err refusal) there e = c.same

    edit_found : (place : ℕ) (edit : Option TheEdit) (operation : DefaultOperation) (marks : Option Marks) → slice_get tables.edits place ≡ edit → After (edit_at m tables s edit operation marks)
    edit_found place None operation marks there = c.same
    edit_found place (Some edit) operation marks there = edit_given place edit operation marks (m.edited (candidate_of s.stores) edit operation marks) there refl

    edit_done : (session place : ℕ) (operation : DefaultOperation) (marks : Option Marks) → After (edit_by m tables s session place operation marks)
    edit_done session place operation marks = cond_both (is_held_by_other s Candidate session) (refuse s InUse) (edit_at m tables s (slice_get tables.edits place) operation marks) After
        (λ _. c.same) (λ _. edit_found place (slice_get tables.edits place) operation marks refl)

    validation : (violation : Option Refusal) → After (validated s violation)
    validation None = c.same
    validation (Some refusal) = c.same

    discard_done : (session : ℕ) → After (discard_by s session)
    discard_done session = cond_both (is_held_by_other s Candidate session) (refuse s InUse) (done (with_stores s (discarded s.stores))) After (λ _. c.same) (λ _. c.dropped)

    checked : (session : ℕ) (form : CommitForm) (violation : Option Refusal) → commit_tag m s session form ≡ None → violation_of m s.stores.candidate ≡ violation
        → After (commit_unless m s session violation form.confirmed form.persist (deadline_of s.clock form.timeout))
    checked session form (Some refusal) passed e = c.same
    checked session form None passed e = c.committed session form passed e

    tested : (session : ℕ) (form : CommitForm) (refusal : Option Tag) → commit_tag m s session form ≡ refusal
        → After (commit_from m s session refusal form.confirmed form.persist (deadline_of s.clock form.timeout))
    tested session form (Some tag) e = c.same
    tested session form None e = checked session form (violation_of m s.stores.candidate) e refl

    cancelled : (refusal : Option Tag) → After (cancel_from m s refusal)
    cancelled (Some tag) = c.same
    cancelled None = c.taken_back

    killed : (session other : ℕ) → After (kill_by m s session other)
    killed session other = cond_both (other == session) (refuse s InvalidValue)
        (if is_open s.sessions other then done (ended m s other) else refuse s InvalidValue) After
        (λ _. c.same)
        (λ _. cond_both (is_open s.sessions other) (done (ended m s other)) (refuse s InvalidValue) After (λ _. c.session_ended other) (λ _. c.same))

    -- it holds after each request
    pub step_closed : (session : ℕ) (request : Request) → After (device_step m tables s session request)
    step_closed session (Lock store) = store_locked session store
    step_closed session (Unlock store) = store_unlocked session store
    step_closed session (PartialLock select) = part_taken session (slice_get tables.selects select.0)
    step_closed session (PartialUnlock id) = part_freed session id
    step_closed session (Edit edit operation marks) = edit_done session edit.0 operation marks
    step_closed session Validate = validation (m.violation (candidate_of s.stores))
    step_closed session (Commit confirmed timeout persist persist_id) =
        let form : CommitForm = record { confirmed = confirmed; timeout = timeout; persist = persist; persist_id = persist_id } in
        tested session form (commit_tag m s session form) refl
    step_closed session (CancelCommit persist_id) = cancelled (cancel_tag m s session persist_id)
    step_closed session Discard = discard_done session
    step_closed session (HasMark change) = c.same
    step_closed session GetConfig = c.same
    step_closed session (Kill other) = killed session other
    step_closed session CloseSession = c.session_ended session
    step_closed session (OpenSession user) = c.same
