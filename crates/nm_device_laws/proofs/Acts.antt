-- What each request of a session leaves so, where the changes that requests are made of leave it so: each change with the
-- tests that it passed.
use Rattle.std.proofs.Common.{◌≡◌, ℕ, ◌==◌, List, filter, length, true, false, if◌then◌else◌, Option, Some, None, Result, Ok, Err, slice_get, refl, ap}
use Rattle.std.proofs.lemmas.Bool.{cond_both}
use Rattle.nm_base.specs.declared.tag.Tag.{Tag}
use Rattle.nm_base.specs.declared.tag.Tag.TheVariants.{InUse, InvalidValue, OperationFailed}
use Rattle.nm_proto.specs.declared.message.Store.{Store}
use Rattle.nm_proto.specs.declared.message.Store.TheVariants.{Running, Candidate}
use Rattle.nm_proto.specs.declared.message.DefaultOperation.{DefaultOperation}
use Rattle.nm_proto.specs.declared.message.Marks.{Marks}
use Rattle.nm_proto.specs.declared.message.Request.{Request}
use Rattle.nm_proto.specs.declared.message.Request.TheVariants.{OpenSession, Lock, Unlock, PartialLock, PartialUnlock, Edit, Validate, Commit, CancelCommit, Discard, HasMark, GetConfig, Kill, CloseSession}
use Rattle.nm_proto.specs.declared.message.Reply.{Reply}
use Rattle.nm_proto.specs.declared.message.Reply.TheVariants.{LockId}
use Rattle.nm_proto.specs.Content.{Meaning, Refusal, TablesState}
use Rattle.nm_sessions.specs.Sessions.{is_open}
use Rattle.nm_locks.specs.Locks.{owner_of, is_owner, with_owner}
use Rattle.nm_partial.specs.Partial.{next_id, granted, holds, released, least_owner, overlap_with}
use Rattle.nm_stores.specs.Stores.{candidate_of, is_modified, with_candidate, discarded}
use Rattle.nm_pending.specs.Pending.{is_stranger, deadline_of}
use Rattle.nm_device.specs.Device.{DeviceState, Stepped, answer, done, refuse, deny_lock, is_held_by_other, with_stores}
use Rattle.nm_device.specs.Commit.{CommitForm, is_locked_out, commit_tag, commit_done, commit_unless, commit_from, violation_of}
use Rattle.nm_device.specs.Undoing.{undone, ended}
use Rattle.nm_device.specs.Cancel.{cancel_tag, cancel_from, kill_by}
use Rattle.nm_device.specs.Part.{part_granted, part_unlocked, nodes_named, existing_locked, nodes_locked, named_locked, part_locked}
use Rattle.nm_device.specs.Table.{with_lock, lock_running, lock_candidate, locked, stores_unlocked, unlocked, edit_gives, edit_at, edit_by, validated, discard_by, device_step, is_done, is_error}
use Rattle.nm_device.proofs.Passing.{tests_pass, cancel_passes}

module _ {Config TheEdit Node : Type 0} (m : Meaning Config TheEdit Node) (tables : TablesState TheEdit) (s : DeviceState Config Node) (session : ℕ) where
  -- what holds of every answer that changes nothing, and of each that one change by this session goes with
  pub record Acts (P : Stepped Config Node → Type 0) : Type 0 where
    pub same : (reply : Reply) → P (answer reply s)
    pub taken : owner_of s.locks Running ≡ None → least_owner s.partials ≡ None → is_stranger s.pending session ≡ false → P (done (with_lock s Running session))
    pub candidate_taken : owner_of s.locks Candidate ≡ None → is_modified s.stores ≡ false → P (done (with_lock s Candidate session))
    pub freed : (store : Store) → is_owner (owner_of s.locks store) session ≡ true → P (done (record s { locks = with_owner s.locks store None; stores = stores_unlocked s.stores store }))
    pub parts_taken : (id : ℕ) (nodes : List Node) → owner_of s.locks Running ≡ None → is_stranger s.pending session ≡ false → P (answer (LockId id) (record s { partials = granted s.partials session nodes }))
    pub parts_freed : (id : ℕ) → P (done (record s { partials = released s.partials session id }))
    pub edited : (config : Config) → is_held_by_other s Candidate session ≡ false → P (done (with_stores s (with_candidate s.stores config)))
    pub dropped : is_held_by_other s Candidate session ≡ false → P (done (with_stores s (discarded s.stores)))
    pub left : (other : ℕ) → P (done (ended m s other))
    pub taken_back : is_locked_out s session ≡ false → P (done (undone m s))
    pub committed : (form : CommitForm) → commit_tag m s session form ≡ None → is_locked_out s session ≡ false → P (commit_done m s session form.confirmed form.persist (deadline_of s.clock form.timeout))

  module _ (P : Stepped Config Node → Type 0) (c : Acts P) where
    running_locked : (holder owner : Option ℕ) → owner_of s.locks Running ≡ holder → least_owner s.partials ≡ owner → P (lock_running s session holder owner)
    running_locked (Some holder) owner held least = c.same _
    running_locked None (Some owner) held least = c.same _
    running_locked None None held least = cond_both (is_stranger s.pending session) (deny_lock s 0) (done (with_lock s Running session)) P (λ _. c.same _) (c.taken held least)

    candidate_locked : (holder : Option ℕ) → owner_of s.locks Candidate ≡ holder → P (lock_candidate s session holder)
    candidate_locked (Some holder) held = c.same _
    candidate_locked None held = cond_both (is_modified s.stores) (deny_lock s 0) (done (with_lock s Candidate session)) P (λ _. c.same _) (c.candidate_taken held)

    store_locked : (store : Store) → P (locked s session store)
    store_locked Running = running_locked (owner_of s.locks Running) (least_owner s.partials) refl refl
    store_locked Candidate = candidate_locked (owner_of s.locks Candidate) refl

    store_unlocked : (store : Store) → P (unlocked s session store)
    store_unlocked store = cond_both (is_owner (owner_of s.locks store) session)
        (done (record s { locks = with_owner s.locks store None; stores = stores_unlocked s.stores store })) (refuse s OperationFailed) P
        (c.freed store) (λ _. c.same _)

    nodes_granted : (nodes : List Node) (owner id : Option ℕ) → owner_of s.locks Running ≡ None → is_stranger s.pending session ≡ false → P (part_granted s session nodes owner id)
    nodes_granted nodes (Some owner) id held free = c.same _
    nodes_granted nodes None None held free = c.same _
    nodes_granted nodes None (Some id) held free = c.parts_taken id nodes held free

    existing_granted : (nodes : List Node) → owner_of s.locks Running ≡ None → is_stranger s.pending session ≡ false → P (existing_locked m s session nodes)
    existing_granted nodes held free = cond_both (length nodes == 0) (refuse s OperationFailed)
        (part_granted s session nodes (overlap_with m s.partials session nodes) (next_id s.partials)) P
        (λ _. c.same _) (λ _. nodes_granted nodes (overlap_with m s.partials session nodes) (next_id s.partials) held free)

    unheld_granted : (nodes : List Node) (holder : Option ℕ) → owner_of s.locks Running ≡ holder → P (nodes_locked m s session nodes holder)
    unheld_granted nodes (Some holder) held = c.same _
    unheld_granted nodes None held = cond_both (is_stranger s.pending session) (deny_lock s 0)
        (existing_locked m s session (filter (m.exists s.stores.running) nodes)) P
        (λ _. c.same _) (existing_granted (filter (m.exists s.stores.running) nodes) held)

    named_granted : (nodes : Option (List Node)) → P (named_locked m s session nodes)
    named_granted None = c.same _
    named_granted (Some nodes) = unheld_granted nodes (owner_of s.locks Running) refl

    part_taken : (texts : Option (List (List ℕ))) → P (part_locked m s session texts)
    part_taken None = c.same _
    part_taken (Some texts) = named_granted (nodes_named m texts)

    part_freed : (id : ℕ) → P (part_unlocked s session id)
    part_freed id = cond_both (holds s.partials session id) (done (record s { partials = released s.partials session id })) (refuse s InvalidValue) P
        (λ _. c.parts_freed id) (λ _. c.same _)

    edit_given : (given : Result Config Refusal) → is_held_by_other s Candidate session ≡ false → P (edit_gives s given)
    edit_given (Ok config) free = c.edited config free
    edit_given (Err refusal) free = c.same _

    edit_found : (edit : Option TheEdit) (operation : DefaultOperation) (marks : Option Marks) → is_held_by_other s Candidate session ≡ false → P (edit_at m tables s edit operation marks)
    edit_found None operation marks free = c.same _
    edit_found (Some edit) operation marks free = edit_given (m.edited (candidate_of s.stores) edit operation marks) free

    edit_done : (number : ℕ) (operation : DefaultOperation) (marks : Option Marks) → P (edit_by m tables s session number operation marks)
    edit_done number operation marks = cond_both (is_held_by_other s Candidate session) (refuse s InUse) (edit_at m tables s (slice_get tables.edits number) operation marks) P
        (λ _. c.same _) (edit_found (slice_get tables.edits number) operation marks)

    validation : (violation : Option Refusal) → P (validated s violation)
    validation None = c.same _
    validation (Some refusal) = c.same _

    discard_done : P (discard_by s session)
    discard_done = cond_both (is_held_by_other s Candidate session) (refuse s InUse) (done (with_stores s (discarded s.stores))) P (λ _. c.same _) c.dropped

    checked : (form : CommitForm) (violation : Option Refusal) → commit_tag m s session form ≡ None
        → P (commit_unless m s session violation form.confirmed form.persist (deadline_of s.clock form.timeout))
    checked form (Some refusal) passed = c.same _
    checked form None passed = c.committed form passed (tests_pass m s session form passed).free

    tested : (form : CommitForm) (refusal : Option Tag) → commit_tag m s session form ≡ refusal
        → P (commit_from m s session refusal form.confirmed form.persist (deadline_of s.clock form.timeout))
    tested form (Some tag) e = c.same _
    tested form None e = checked form (violation_of m s.stores.candidate) e

    cancelled : (named : Option (List ℕ)) (refusal : Option Tag) → cancel_tag m s session named ≡ refusal → P (cancel_from m s refusal)
    cancelled named (Some tag) e = c.same _
    cancelled named None e = c.taken_back (cancel_passes m s session named (ap (λ (o : Option Tag). is_done (cancel_from m s o).reply) e)).free

    killed : (other : ℕ) → P (kill_by m s session other)
    killed other = cond_both (other == session) (refuse s InvalidValue)
        (if is_open s.sessions other then done (ended m s other) else refuse s InvalidValue) P
        (λ _. c.same _)
        (λ _. cond_both (is_open s.sessions other) (done (ended m s other)) (refuse s InvalidValue) P (λ _. c.left other) (λ _. c.same _))

    -- it holds after each request
    pub step_acts : (request : Request) → P (device_step m tables s session request)
    step_acts (Lock store) = store_locked store
    step_acts (Unlock store) = store_unlocked store
    step_acts (PartialLock select) = part_taken (slice_get tables.selects select.0)
    step_acts (PartialUnlock id) = part_freed id
    step_acts (Edit edit operation marks) = edit_done edit.0 operation marks
    step_acts Validate = validation (m.violation (candidate_of s.stores))
    step_acts (Commit confirmed timeout persist persist_id) =
        let form : CommitForm = record { confirmed = confirmed; timeout = timeout; persist = persist; persist_id = persist_id } in
        tested form (commit_tag m s session form) refl
    step_acts (CancelCommit persist_id) = cancelled persist_id (cancel_tag m s session persist_id) refl
    step_acts Discard = discard_done
    step_acts (HasMark change) = c.same _
    step_acts GetConfig = c.same _
    step_acts (Kill other) = killed other
    step_acts CloseSession = c.left session
    step_acts (OpenSession user) = c.same _

-- ---- refusals

module _ {Config TheEdit Node : Type 0} (m : Meaning Config TheEdit Node) (tables : TablesState TheEdit) (s : DeviceState Config Node) where
  refused_acts : (session : ℕ) → Acts m tables s session (λ (stepped : Stepped Config Node). is_error stepped.reply ≡ true → stepped.after ≡ s)
  refused_acts session = record {
    same = λ reply _. refl;
    taken = λ held least free e. cc;
    candidate_taken = λ held same e. cc;
    freed = λ store own e. cc;
    parts_taken = λ id nodes held free e. cc;
    parts_freed = λ id e. cc;
    edited = λ config free e. cc;
    dropped = λ free e. cc;
    left = λ other e. cc;
    taken_back = λ free e. cc;
    committed = λ form passed free e. cc;
  }

  -- an error leaves the device as it was
  pub refused_stays : (session : ℕ) (request : Request) → is_error (device_step m tables s session request).reply ≡ true → (device_step m tables s session request).after ≡ s
  refused_stays session request = step_acts m tables s session (λ (stepped : Stepped Config Node). is_error stepped.reply ≡ true → stepped.after ≡ s) (refused_acts session) request
