-- Only edits make configurations: what they keep so, every event keeps so.
use Rattle.std.proofs.Common.{◌≡◌, ◌+◌, ℕ, List, [], ◌∷◌, filter, length, ◌==◌, Bool, true, false, Option, None, Some, IfSome, Result, Ok, Err, slice_get, refl, sym, ap, subst, if◌then◌else◌}
use Rattle.std.proofs.lemmas.Bool.{cond_both}
use Rattle.std.proofs.lemmas.Option.{none-some, same_Some}
use Rattle.nm_base.specs.declared.tag.Tag.{Tag}
use Rattle.nm_base.specs.declared.tag.Tag.TheVariants.{InUse, InvalidValue, OperationFailed}
use Rattle.nm_base.specs.declared.number.EditNo.{EditNo}
use Rattle.nm_proto.specs.declared.message.Store.{Store}
use Rattle.nm_proto.specs.declared.message.Store.TheVariants.{Running, Candidate}
use Rattle.nm_proto.specs.declared.message.DefaultOperation.{DefaultOperation}
use Rattle.nm_proto.specs.declared.message.Marks.{Marks}
use Rattle.nm_proto.specs.declared.message.Request.{Request}
use Rattle.nm_proto.specs.declared.message.Request.TheVariants.{OpenSession, Lock, Unlock, PartialLock, PartialUnlock, Edit, Validate, Commit, CancelCommit, Discard, HasMark, GetConfig, Kill, CloseSession}
use Rattle.nm_proto.specs.Content.{Meaning, Refusal, TablesState}
use Rattle.nm_sessions.specs.Sessions.{is_open}
use Rattle.nm_locks.specs.Locks.{owner_of, is_owner, with_owner}
use Rattle.nm_partial.specs.Partial.{next_id, holds, released, least_owner, overlap_with}
use Rattle.nm_stores.specs.Stores.{StoresState, candidate_of, is_modified, with_candidate, discarded}
use Rattle.nm_pending.specs.Pending.{PendingState, is_stranger, ends_with, ends_at, deadline_of}
use Rattle.nm_device.specs.Device.{DeviceState, Stepped, done, refuse, deny_lock, is_held_by_other, with_stores}
use Rattle.nm_device.specs.Commit.{CommitForm, commit_tag, commit_done, commit_unless, commit_from, pending_after, violation_of}
use Rattle.nm_device.specs.Undoing.{emptied, ended, later, left_by, undone, undone_by, undone_if}
use Rattle.nm_device.specs.Cancel.{cancel_tag, cancel_from, kill_by}
use Rattle.nm_device.specs.Part.{part_granted, part_unlocked, nodes_named, existing_locked, nodes_locked, named_locked, part_locked}
use Rattle.nm_device.specs.Table.{with_lock, lock_running, lock_candidate, locked, stores_unlocked, unlocked, edit_gives, edit_at, edit_by, validated, discard_by, device_step}
use Rattle.nm_history.specs.declared.event.DeviceEvent.{DeviceEvent}
use Rattle.nm_history.specs.declared.event.DeviceEvent.TheVariants.{Asked}
use Rattle.nm_history.specs.declared.event.Noted.{Noted}
use Rattle.nm_history.specs.History.{Happened, after_or, device_event, replay, replayed}
use Rattle.nm_device_laws.specs.Moment.{Happens}
use Rattle.nm_device_laws.proofs.Events.{event_moves}
use Rattle.nm_safety.specs.Along.{Along}
use Rattle.nm_access_laws.specs.Configs.{AllAre, EditsKeep, KeepsAt}

module _ {Config TheEdit Node : Type 0} (m : Meaning Config TheEdit Node) (tables : TablesState TheEdit) (Q : Config → Type 0) where
  abbrev All : DeviceState Config Node → Type 0
  All s = AllAre Q s

  -- ---- what brings no other configuration

  -- candidate, also where it is unmodified
  candidate_by : (running : Config) (candidate : Option Config) → Q running → IfSome candidate Q → Q (candidate_of (record { running = running; candidate = candidate }))
  candidate_by running None now other = now
  candidate_by running (Some config) now other = other

  candidate_is : (s : DeviceState Config Node) → All s → Q (candidate_of s.stores)
  candidate_is s k = candidate_by s.stores.running s.stores.candidate k.running k.candidate

  undone_is : (s : DeviceState Config Node) (pending : Option (PendingState Config)) → s.pending ≡ pending → All s → All (undone_by m s pending)
  undone_is s None is k = k
  undone_is s (Some p) is k = record { running = subst (λ o. IfSome o (λ q. Q q.before)) is k.before; candidate = k.candidate; before = tt }

  undone_keeps : (s : DeviceState Config Node) → All s → All (undone m s)
  undone_keeps s k = undone_is s s.pending refl k

  undone_if_keeps : (s : DeviceState Config Node) (undoes : Bool) → All s → All (undone_if m s undoes)
  undone_if_keeps s undoes k = cond_both undoes (undone m s) s All (λ _. undone_keeps s k) (λ _. k)

  discarded_keeps : (s : DeviceState Config Node) → All s → All (record s { stores = discarded s.stores })
  discarded_keeps s k = record { running = k.running; candidate = tt; before = k.before }

  -- the stores of a session that goes
  stores_keep : (s : DeviceState Config Node) (held : Bool) → All s → All (record s { stores = if held then discarded s.stores else s.stores })
  stores_keep s true k = discarded_keeps s k
  stores_keep s false k = k

  left_keeps : (s : DeviceState Config Node) (session : ℕ) → All s → All (left_by s session)
  left_keeps s session k =
      let now = stores_keep s (is_owner (owner_of s.locks Candidate) session) k in
      record { running = now.running; candidate = now.candidate; before = now.before }

  ended_keeps : (s : DeviceState Config Node) (session : ℕ) → All s → All (ended m s session)
  ended_keeps s session k = undone_if_keeps (left_by s session) (ends_with s.pending session) (left_keeps s session k)

  -- ---- requests

  module _ (s : DeviceState Config Node) (session : ℕ) (k : All s) where
    abbrev P : Stepped Config Node → Type 0
    P stepped = All stepped.after

    with_lock_keeps : (store : Store) → All (with_lock s store session)
    with_lock_keeps store = record { running = k.running; candidate = k.candidate; before = k.before }

    running_locked : (holder owner : Option ℕ) → P (lock_running s session holder owner)
    running_locked (Some holder) owner = k
    running_locked None (Some owner) = k
    running_locked None None = cond_both (is_stranger s.pending session) (deny_lock s 0) (done (with_lock s Running session)) P (λ _. k) (λ _. with_lock_keeps Running)

    candidate_locked : (holder : Option ℕ) → P (lock_candidate s session holder)
    candidate_locked (Some holder) = k
    candidate_locked None = cond_both (is_modified s.stores) (deny_lock s 0) (done (with_lock s Candidate session)) P (λ _. k) (λ _. with_lock_keeps Candidate)

    store_locked : (store : Store) → P (locked s session store)
    store_locked Running = running_locked (owner_of s.locks Running) (least_owner s.partials)
    store_locked Candidate = candidate_locked (owner_of s.locks Candidate)

    freed : (store : Store) → All (record s { locks = with_owner s.locks store None; stores = stores_unlocked s.stores store })
    freed Running = record { running = k.running; candidate = k.candidate; before = k.before }
    freed Candidate = record { running = k.running; candidate = tt; before = k.before }

    store_unlocked : (store : Store) → P (unlocked s session store)
    store_unlocked store = cond_both (is_owner (owner_of s.locks store) session)
        (done (record s { locks = with_owner s.locks store None; stores = stores_unlocked s.stores store })) (refuse s OperationFailed) P (λ _. freed store) (λ _. k)

    nodes_granted : (nodes : List Node) (owner id : Option ℕ) → P (part_granted s session nodes owner id)
    nodes_granted nodes (Some owner) id = k
    nodes_granted nodes None None = k
    nodes_granted nodes None (Some id) = record { running = k.running; candidate = k.candidate; before = k.before }

    existing_granted : (nodes : List Node) → P (existing_locked m s session nodes)
    existing_granted nodes = cond_both (length nodes == 0) (refuse s OperationFailed)
        (part_granted s session nodes (overlap_with m s.partials session nodes) (next_id s.partials)) P
        (λ _. k) (λ _. nodes_granted nodes (overlap_with m s.partials session nodes) (next_id s.partials))

    unheld_granted : (nodes : List Node) (holder : Option ℕ) → P (nodes_locked m s session nodes holder)
    unheld_granted nodes (Some holder) = k
    unheld_granted nodes None = cond_both (is_stranger s.pending session) (deny_lock s 0)
        (existing_locked m s session (filter (m.exists s.stores.running) nodes)) P (λ _. k) (λ _. existing_granted (filter (m.exists s.stores.running) nodes))

    named_granted : (nodes : Option (List Node)) → P (named_locked m s session nodes)
    named_granted None = k
    named_granted (Some nodes) = unheld_granted nodes (owner_of s.locks Running)

    part_taken : (texts : Option (List (List ℕ))) → P (part_locked m s session texts)
    part_taken None = k
    part_taken (Some texts) = named_granted (nodes_named m texts)

    part_freed : (id : ℕ) → P (part_unlocked s session id)
    part_freed id = cond_both (holds s.partials session id) (done (record s { partials = released s.partials session id })) (refuse s InvalidValue) P
        (λ _. record { running = k.running; candidate = k.candidate; before = k.before }) (λ _. k)

    validation : (violation : Option Refusal) → P (validated s violation)
    validation None = k
    validation (Some refusal) = k

    discard_done : P (discard_by s session)
    discard_done = cond_both (is_held_by_other s Candidate session) (refuse s InUse) (done (with_stores s (discarded s.stores))) P (λ _. k)
        (λ _. record { running = k.running; candidate = tt; before = k.before })

    pending_keeps : (confirmed : Bool) (persist : Option (List ℕ)) (deadline : ℕ) (pending : Option (PendingState Config)) → IfSome pending (λ p. Q p.before)
        → IfSome (pending_after s session confirmed persist deadline pending) (λ p. Q p.before)
    pending_keeps false persist deadline pending before = tt
    pending_keeps true persist deadline None before = k.running
    pending_keeps true persist deadline (Some p) before = before

    committed_keeps : (confirmed : Bool) (persist : Option (List ℕ)) (deadline : ℕ) → P (commit_done m s session confirmed persist deadline)
    committed_keeps confirmed persist deadline =
        record { running = candidate_is s k; candidate = tt; before = pending_keeps confirmed persist deadline s.pending k.before }

    checked : (violation : Option Refusal) (confirmed : Bool) (persist : Option (List ℕ)) (deadline : ℕ) → P (commit_unless m s session violation confirmed persist deadline)
    checked (Some refusal) confirmed persist deadline = k
    checked None confirmed persist deadline = committed_keeps confirmed persist deadline

    tested : (refusal : Option Tag) (confirmed : Bool) (persist : Option (List ℕ)) (deadline : ℕ) → P (commit_from m s session refusal confirmed persist deadline)
    tested (Some tag) confirmed persist deadline = k
    tested None confirmed persist deadline = checked (violation_of m s.stores.candidate) confirmed persist deadline

    cancelled : (refusal : Option Tag) → P (cancel_from m s refusal)
    cancelled (Some tag) = k
    cancelled None = undone_keeps s k

    killed : (other : ℕ) → P (kill_by m s session other)
    killed other = cond_both (other == session) (refuse s InvalidValue)
        (if is_open s.sessions other then done (ended m s other) else refuse s InvalidValue) P (λ _. k)
        (λ _. cond_both (is_open s.sessions other) (done (ended m s other)) (refuse s InvalidValue) P (λ _. ended_keeps s other k) (λ _. k))

    -- an edit, whose configuration is so
    module _ (operation : DefaultOperation) (marks : Option Marks) where
      edit_given : (given : Result Config Refusal) → ((made : Config) → given ≡ Ok made → Q made) → P (edit_gives s given)
      edit_given (Ok config) makes = record { running = k.running; candidate = makes config refl; before = k.before }
      edit_given (Err refusal) makes = k

      edit_found : (edit : Option TheEdit) → ((nodes : TheEdit) (made : Config) → edit ≡ Some nodes → m.edited (candidate_of s.stores) nodes operation marks ≡ Ok made → Q made)
          → P (edit_at m tables s edit operation marks)
      edit_found None makes = k
      edit_found (Some nodes) makes = edit_given (m.edited (candidate_of s.stores) nodes operation marks) (λ made is. makes nodes made refl is)

      edit_done : (number : ℕ) → ((nodes : TheEdit) (made : Config) → slice_get tables.edits number ≡ Some nodes → m.edited (candidate_of s.stores) nodes operation marks ≡ Ok made → Q made)
          → P (edit_by m tables s session number operation marks)
      edit_done number makes = cond_both (is_held_by_other s Candidate session) (refuse s InUse) (edit_at m tables s (slice_get tables.edits number) operation marks) P
          (λ _. k) (λ _. edit_found (slice_get tables.edits number) makes)

    step_keeps : (request : Request) → EditsKeep m tables Q s (Asked session request) → P (device_step m tables s session request)
    step_keeps (Lock store) e = store_locked store
    step_keeps (Unlock store) e = store_unlocked store
    step_keeps (PartialLock select) e = part_taken (slice_get tables.selects select.0)
    step_keeps (PartialUnlock id) e = part_freed id
    step_keeps (Edit edit operation marks) e =
        edit_done operation marks edit.0 (λ nodes made found is. e.makes session edit operation marks nodes made refl found (candidate_is s k) is)
    step_keeps Validate e = validation (m.violation (candidate_of s.stores))
    step_keeps (Commit confirmed timeout persist persist_id) e =
        let form : CommitForm = record { confirmed = confirmed; timeout = timeout; persist = persist; persist_id = persist_id } in
        tested (commit_tag m s session form) confirmed persist (deadline_of s.clock timeout)
    step_keeps (CancelCommit persist_id) e = cancelled (cancel_tag m s session persist_id)
    step_keeps Discard e = discard_done
    step_keeps (HasMark change) e = k
    step_keeps GetConfig e = k
    step_keeps (Kill other) e = killed other
    step_keeps CloseSession e = ended_keeps s session k
    step_keeps (OpenSession user) e = k

  -- ---- events

  pub event_keeps : (s : DeviceState Config Node) (event : DeviceEvent) (h : Happened Config Node) → Happens m tables s event h → EditsKeep m tables Q s event → All s → All h.after
  event_keeps s event h happens e k =
      event_moves m tables s All
      (record {
        same = k;
        entered_by = λ user. record { running = k.running; candidate = k.candidate; before = k.before };
        left = λ other. ended_keeps s other k;
        risen = λ seconds. undone_if_keeps (later s seconds) (ends_at s.pending (s.clock + seconds)) (record { running = k.running; candidate = k.candidate; before = k.before });
        started = undone_keeps (emptied s) (record { running = k.running; candidate = tt; before = k.before });
      })
      event h happens
      (λ session request asked is. step_keeps s session k request (subst (EditsKeep m tables Q s) asked e))

  -- ---- along a history

  replayed_by : (s : DeviceState Config Node) (event : DeviceEvent) (done_so : Option (Happened Config Node)) → device_event m tables s event ≡ done_so
      → ((h : Happened Config Node) → Happens m tables s event h → EditsKeep m tables Q s event) → All s → All (after_or s done_so)
  replayed_by s event None happens e k = k
  replayed_by s event (Some h) happens e k = event_keeps s event h happens (e h happens) k

  pub replay_keeps : (s : DeviceState Config Node) (history : List Noted) → Along (replayed m tables) (KeepsAt m tables Q) s history → All s → All (replay m tables s history)
  replay_keeps s [] along k = k
  replay_keeps s (entry ∷ history) along k =
      replay_keeps (replayed m tables s entry) history along.1 (replayed_by s entry.event (device_event m tables s entry.event) refl along.0 k)
