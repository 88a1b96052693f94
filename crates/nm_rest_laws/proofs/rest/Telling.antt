-- What a device tells the manager, and what it leaves of its sessions and of candidate.
use Rattle.std.proofs.Common.{◌≡◌, ℕ, Bool, true, false, ◌||◌, List, Option, Some, None, is_some, slice_get, Result, Ok, Err, refl, ap, arith}
use Rattle.std.proofs.lemmas.Bool.{cond_both}
use Rattle.nm_base.specs.declared.tag.Tag.{Tag}
use Rattle.nm_base.specs.declared.tag.Tag.TheVariants.{InUse}
use Rattle.nm_proto.specs.declared.ask.Ask.{Ask}
use Rattle.nm_proto.specs.declared.ask.Ask.TheVariants as ask
use Rattle.nm_proto.specs.declared.message.Store.TheVariants.{Running, Candidate}
use Rattle.nm_proto.specs.declared.message.DefaultOperation.{DefaultOperation}
use Rattle.nm_proto.specs.declared.message.Marks.{Marks}
use Rattle.nm_proto.specs.declared.message.Request.{Request}
use Rattle.nm_proto.specs.declared.message.Request.TheVariants.{OpenSession, Lock, Unlock, PartialLock, PartialUnlock, Edit, Validate, Commit, CancelCommit, Discard, HasMark, GetConfig, Kill, CloseSession}
use Rattle.nm_proto.specs.declared.message.Reply.{Reply}
use Rattle.nm_proto.specs.Content.{Meaning, Refusal, TablesState}
use Rattle.nm_locks.specs.Locks.{owner_of}
use Rattle.nm_partial.specs.Partial.{least_owner}
use Rattle.nm_stores.specs.Stores.{candidate_of, is_modified, discarded}
use Rattle.nm_pending.specs.Pending.{PendingState, is_stranger}
use Rattle.nm_device.specs.Device.{DeviceState, Stepped, deny_lock, done, refuse, is_held_by_other, with_stores}
use Rattle.nm_device.specs.Commit.{commit_tag, commit_from, commit_unless, violation_of}
use Rattle.nm_device.specs.Cancel.{cancel_tag, cancel_from}
use Rattle.nm_device.specs.Undoing.{undone_by}
use Rattle.nm_device.specs.Table.{with_lock, lock_running, lock_candidate, edit_gives, edit_at, validated, discard_by, device_step, is_opening}
use Rattle.nm_pending.specs.Pending.{deadline_of}
use Rattle.nm_wire.specs.Asks.{ask_of, same_ask, commit_ask, cancel_ask}
use Rattle.nm_rest_laws.proofs.rest.Ranks.{tells_well}

abbrev pub is_closing : Request → Bool
is_closing CloseSession = true
is_closing _ = false

abbrev is_plain_ask : Ask → Bool
is_plain_ask ask.OpenSession = false
is_plain_ask ask.Discard = false
is_plain_ask ask.LockCandidate = false
is_plain_ask ask.HasMark = false
is_plain_ask _ = true

module _ {Config TheEdit Node : Type 0} (m : Meaning Config TheEdit Node) (tables : TablesState TheEdit) (s : DeviceState Config Node) (session : ℕ) where
  abbrev Same : Stepped Config Node → Type 0
  Same stepped = stepped.after.sessions ≡ s.sessions

  running_same : (holder owner : Option ℕ) → Same (lock_running s session holder owner)
  running_same (Some holder) owner = refl
  running_same None (Some owner) = refl
  running_same None None = cond_both (is_stranger s.pending session) (deny_lock s 0) (done (with_lock s Running session)) Same (λ _. refl) (λ _. refl)

  candidate_same : (holder : Option ℕ) → Same (lock_candidate s session holder)
  candidate_same (Some holder) = refl
  candidate_same None = cond_both (is_modified s.stores) (deny_lock s 0) (done (with_lock s Candidate session)) Same (λ _. refl) (λ _. refl)

  given_same : (given : Result Config Refusal) → Same (edit_gives s given)
  given_same (Ok config) = refl
  given_same (Err refusal) = refl

  edit_same : (edit : Option TheEdit) (operation : DefaultOperation) (marks : Option Marks) → Same (edit_at m tables s edit operation marks)
  edit_same None operation marks = refl
  edit_same (Some edit) operation marks = given_same (m.edited (candidate_of s.stores) edit operation marks)

  valid_same : (violation : Option Refusal) → Same (validated s violation)
  valid_same None = refl
  valid_same (Some refusal) = refl

  unless_same : (violation : Option Refusal) (confirmed : Bool) (persist : Option (List ℕ)) (deadline : ℕ) → Same (commit_unless m s session violation confirmed persist deadline)
  unless_same None confirmed persist deadline = refl
  unless_same (Some refusal) confirmed persist deadline = refl

  commit_same : (refusal : Option Tag) (confirmed : Bool) (persist : Option (List ℕ)) (deadline : ℕ) → Same (commit_from m s session refusal confirmed persist deadline)
  commit_same None confirmed persist deadline = unless_same (violation_of m s.stores.candidate) confirmed persist deadline
  commit_same (Some tag) confirmed persist deadline = refl

  undone_same : (p : Option (PendingState Config)) → (undone_by m s p).sessions ≡ s.sessions
  undone_same None = refl
  undone_same (Some p) = refl

  cancel_same : (refusal : Option Tag) → Same (cancel_from m s refusal)
  cancel_same None = undone_same s.pending
  cancel_same (Some tag) = refl

  -- what the manager asks, but for the end of its session, leaves the sessions as they were
  pub sessions_same : (request : Request) → is_opening request ≡ false → same_ask (ask_of request) ask.Resync ≡ false → is_closing request ≡ false → Same (device_step m tables s session request)
  sessions_same (OpenSession user) o k c = absurd (let f : true ≡ false = o in cc)
  sessions_same (Lock Running) o k c = running_same (owner_of s.locks Running) (least_owner s.partials)
  sessions_same (Lock Candidate) o k c = candidate_same (owner_of s.locks Candidate)
  sessions_same (Edit edit operation marks) o k c =
      cond_both (is_held_by_other s Candidate session) (refuse s InUse) (edit_at m tables s (slice_get tables.edits edit.0) operation marks) Same (λ _. refl) (λ _. edit_same (slice_get tables.edits edit.0) operation marks)
  sessions_same Validate o k c = valid_same (m.violation (candidate_of s.stores))
  sessions_same (Commit confirmed timeout persist persist_id) o k c =
      commit_same (commit_tag m s session (record { confirmed = confirmed; timeout = timeout; persist = persist; persist_id = persist_id })) confirmed persist (deadline_of s.clock timeout)
  sessions_same (CancelCommit persist_id) o k c = cancel_same (cancel_tag m s session persist_id)
  sessions_same Discard o k c = cond_both (is_held_by_other s Candidate session) (refuse s InUse) (done (with_stores s (discarded s.stores))) Same (λ _. refl) (λ _. refl)
  sessions_same (HasMark change) o k c = refl
  sessions_same CloseSession o k c = absurd (let f : true ≡ false = c in cc)
  sessions_same (Unlock store) o k c = absurd (let f : true ≡ false = k in cc)
  sessions_same (PartialLock select) o k c = absurd (let f : true ≡ false = k in cc)
  sessions_same (PartialUnlock id) o k c = absurd (let f : true ≡ false = k in cc)
  sessions_same GetConfig o k c = absurd (let f : true ≡ false = k in cc)
  sessions_same (Kill other) o k c = absurd (let f : true ≡ false = k in cc)

  -- ---- what is told

  abbrev Tells : Ask → Stepped Config Node → Type 0
  Tells what stepped = tells_well (is_some (owner_of s.locks Candidate)) (is_modified s.stores) (is_some (owner_of stepped.after.locks Candidate)) (is_modified stepped.after.stores) what stepped.reply ≡ true

  discard_tells : (holder : Option ℕ) → owner_of s.locks Candidate ≡ holder → Tells ask.Discard (discard_by s session)
  discard_tells (Some holder) e = or_it (is_some (owner_of s.locks Candidate)) _ (ap is_some e)
    where
      or_it : (a b : Bool) → a ≡ true → (a || b) ≡ true
      or_it true b e = refl
      or_it false b e = absurd (let f : false ≡ true = e in cc)
  discard_tells None e = rw e refl

  candidate_tells : (holder : Option ℕ) → owner_of s.locks Candidate ≡ holder → (modified : Bool) → is_modified s.stores ≡ modified → Tells ask.LockCandidate (lock_candidate s session (owner_of s.locks Candidate))
  candidate_tells (Some holder) e modified f = rw e refl
  candidate_tells None e true f = rw e (rw f refl)
  candidate_tells None e false f = rw e (rw f refl)

  plain_tells : (what : Ask) (h b i c : Bool) (told : Reply) → is_plain_ask what ≡ true → tells_well h b i c what told ≡ true
  plain_tells what h b i c told p = grind arith

  commit_plain : (x y z : Bool) → is_plain_ask (commit_ask x y z) ≡ true
  commit_plain x y z = grind arith

  cancel_plain : (x : Bool) → is_plain_ask (cancel_ask x) ≡ true
  cancel_plain x = grind arith

  pub step_tells : (request : Request) → is_opening request ≡ false → Tells (ask_of request) (device_step m tables s session request)
  step_tells (OpenSession user) o = absurd (let f : true ≡ false = o in cc)
  step_tells (Lock Running) o = refl
  step_tells (Lock Candidate) o = candidate_tells (owner_of s.locks Candidate) refl (is_modified s.stores) refl
  step_tells (Edit edit operation marks) o = refl
  step_tells Validate o = refl
  step_tells (Commit confirmed timeout persist persist_id) o = plain_tells (commit_ask confirmed (is_some persist) (is_some persist_id)) (is_some (owner_of s.locks Candidate)) (is_modified s.stores) (is_some (owner_of (device_step m tables s session (Commit confirmed timeout persist persist_id)).after.locks Candidate)) (is_modified (device_step m tables s session (Commit confirmed timeout persist persist_id)).after.stores) (device_step m tables s session (Commit confirmed timeout persist persist_id)).reply (commit_plain confirmed (is_some persist) (is_some persist_id))
  step_tells (CancelCommit persist_id) o = plain_tells (cancel_ask (is_some persist_id)) (is_some (owner_of s.locks Candidate)) (is_modified s.stores) (is_some (owner_of (device_step m tables s session (CancelCommit persist_id)).after.locks Candidate)) (is_modified (device_step m tables s session (CancelCommit persist_id)).after.stores) (device_step m tables s session (CancelCommit persist_id)).reply (cancel_plain (is_some persist_id))
  step_tells Discard o = discard_tells (owner_of s.locks Candidate) refl
  step_tells (HasMark change) o = refl
  step_tells CloseSession o = refl
  step_tells (Unlock store) o = refl
  step_tells (PartialLock select) o = refl
  step_tells (PartialUnlock id) o = refl
  step_tells GetConfig o = refl
  step_tells (Kill other) o = refl
