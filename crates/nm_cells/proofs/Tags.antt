-- Every error that a device answers has a tag that a journal can record, whatever is asked.
use Rattle.std.proofs.Common.{Option, Some, None, Result, Ok, Err, ◌≡◌, ℕ, ◌≤◌, ◌==◌, ◌&&◌, ◌||◌, Bool, true, false, not, nat_lt, List, filter, length, slice_get, refl, sym, subst, arith, if◌then◌else◌}
use Rattle.std.specs.Option.{IfSome}
use Rattle.std.specs.List.{All}
use Rattle.std.specs.Str.{bytes_eq}
use Rattle.std.proofs.lemmas.Bool.Decides.{nat_tests}
use Rattle.std.proofs.lemmas.Option.{get_or_from_slice_get, slice_get_within}
use Rattle.std.proofs.lemmas.List.Elements.{All-get_or}
use Rattle.nm_base.specs.declared.tag.Tag.{Tag}
use Rattle.nm_base.specs.declared.tag.Tag.TheVariants as tag
use Rattle.nm_base.specs.Tag.{tag_number}
use Rattle.nm_proto.specs.declared.message.DefaultOperation.{DefaultOperation}
use Rattle.nm_proto.specs.declared.message.Marks.{Marks}
use Rattle.nm_proto.specs.declared.message.Store.TheVariants.{Running, Candidate}
use Rattle.nm_proto.specs.declared.message.Request.{Request}
use Rattle.nm_proto.specs.declared.message.Request.TheVariants.{OpenSession, Lock, Unlock, PartialLock, PartialUnlock, Edit, Validate, Commit, CancelCommit, Discard, HasMark, GetConfig, Kill, CloseSession}
use Rattle.nm_proto.specs.Content.{Meaning, Laws, Refusal, TablesState}
use Rattle.nm_locks.specs.Locks.{owner_of, is_owner, with_owner}
use Rattle.nm_partial.specs.Partial.{least_owner, guards, holds, released, overlap_with, next_id as next_partial}
use Rattle.nm_pending.specs.Pending.{PendingState, is_stranger, deadline_of}
use Rattle.nm_pending.specs.Fits.{token_refusal, issuer_refusal, refusal_by, commit_refusal as misfit, cancel_refusal as misfit_cancel}
use Rattle.nm_stores.specs.Stores.{Belong, candidate_of, discarded, is_modified}
use Rattle.nm_sessions.specs.Sessions.{is_open, next_id, user_of}
use Rattle.nm_device.specs.Device.{DeviceState, Stepped, IsSound, deny_lock, done, is_held_by_other, is_manager, refuse, with_stores}
use Rattle.nm_device.specs.Commit.{CommitForm, or_else, refused_if, commit_refusal, candidate_refusal, commit_tag, commit_from, commit_unless, violation_of, is_locked_out, names_reserved, is_zero}
use Rattle.nm_device.specs.Cancel.{cancel_tag, cancel_from, is_kept_from_undoing}
use Rattle.nm_device.specs.Undoing.{ended}
use Rattle.nm_device.specs.Part.{part_granted, existing_locked, nodes_locked, named_locked, nodes_named, part_locked}
use Rattle.nm_device.specs.Table.{device_step, edit_at, edit_gives, lock_candidate, lock_running, open_with, opened, stores_unlocked, validated, with_lock}
use Rattle.nm_cells.specs.Asking.{has_plain_tag}

-- ---- tags

abbrev is_small : Option Tag → Bool
is_small None = true
is_small (Some one) = nat_lt (tag_number one) 9

small_or : (one other : Option Tag) → is_small one ≡ true → is_small other ≡ true → is_small (or_else one other) ≡ true
small_or None other a b = b
small_or (Some one) other a b = a

small_if : (refused : Bool) (one : Tag) → nat_lt (tag_number one) 9 ≡ true → is_small (refused_if refused one) ≡ true
small_if true one s = s
small_if false one s = refl

small_cond : (b : Bool) (one : Tag) → nat_lt (tag_number one) 9 ≡ true → is_small (if b then None else Some one) ≡ true
small_cond true one s = refl
small_cond false one s = s

small_token : (token : List ℕ) (named : Option (List ℕ)) → is_small (token_refusal token named) ≡ true
small_token token None = refl
small_token token (Some named) = small_cond (bytes_eq token named) tag.InvalidValue refl

small_issuer : (issuer session : ℕ) (named : Option (List ℕ)) (other : Tag) → nat_lt (tag_number other) 9 ≡ true → is_small (issuer_refusal issuer session named other) ≡ true
small_issuer issuer session (Some named) other s = refl
small_issuer issuer session None other s = small_cond (issuer == session) other s

small_by : (token : Option (List ℕ)) (issuer session : ℕ) (named : Option (List ℕ)) (other : Tag) → nat_lt (tag_number other) 9 ≡ true → is_small (refusal_by token issuer session named other) ≡ true
small_by None issuer session named other s = small_issuer issuer session named other s
small_by (Some token) issuer session named other s = small_token token named

module _ {Config : Type 0} where
  small_misfit : (pending : Option (PendingState Config)) (session : ℕ) (named : Option (List ℕ)) → is_small (misfit pending session named) ≡ true
  small_misfit None session None = refl
  small_misfit None session (Some named) = refl
  small_misfit (Some p) session named = small_by p.token p.issuer session named tag.InUse refl

  small_misfit_cancel : (pending : Option (PendingState Config)) (session : ℕ) (named : Option (List ℕ)) → is_small (misfit_cancel pending session named) ≡ true
  small_misfit_cancel None session None = refl
  small_misfit_cancel None session (Some named) = refl
  small_misfit_cancel (Some p) session named = small_by p.token p.issuer session named tag.OperationFailed refl

below_nine : (n : ℕ) → n ≤ 8 → nat_lt n 9 ≡ true
below_nine n h = grind (arith, nat_tests)

there_all : {A : Type 0} (P : A → Type 0) (xs : List A) (place : ℕ) → All P xs → (found : Option A) → slice_get xs place ≡ found → IfSome found P
there_all P xs place all None e = search
there_all P xs place all (Some x) e = subst P (get_or_from_slice_get xs place x x e) (All-get_or P xs place x (slice_get_within xs place x e) all)

-- ---- rows

module _ {Config Node : Type 0} where
  abbrev IsPlain : Stepped Config Node → Type 0
  IsPlain stepped = has_plain_tag stepped.reply ≡ true

  either : (b : Bool) (one other : Stepped Config Node) → IsPlain one → IsPlain other → IsPlain (if b then one else other)
  either true one other p q = p
  either false one other p q = q

  -- who asks for a session
  open_plain : (s : DeviceState Config Node) (id : Option ℕ) (user : List ℕ) → IsPlain (open_with s id user)
  open_plain s None user = refl
  open_plain s (Some id) user = refl

  pub opened_plain : (s : DeviceState Config Node) (user : List ℕ) → has_plain_tag (opened s user).reply ≡ true
  opened_plain s user = open_plain s (next_id s.sessions) user

  granted_plain : (s : DeviceState Config Node) (session : ℕ) (nodes : List Node) (owner id : Option ℕ) → IsPlain (part_granted s session nodes owner id)
  granted_plain s session nodes (Some owner) id = refl
  granted_plain s session nodes None None = refl
  granted_plain s session nodes None (Some id) = refl

module _ {Config TheEdit Node : Type 0} (m : Meaning Config TheEdit Node) (laws : Laws m) (tables : TablesState TheEdit) (s : DeviceState Config Node) (session : ℕ) (belong : Belong {Node = Node} m s.stores)
    (edits_belong : All m.edit_belongs tables.edits) where
  candidate_belongs : m.belongs (candidate_of s.stores)
  candidate_belongs = by_candidate s.stores.candidate refl
    where
      by_candidate : (candidate : Option Config) → s.stores.candidate ≡ candidate → m.belongs (candidate_of s.stores)
      by_candidate None e = subst (λ c. m.belongs (candidate_of (record s.stores { candidate = c }))) (sym e) belong.running
      by_candidate (Some config) e =
          subst (λ c. m.belongs (candidate_of (record s.stores { candidate = c }))) (sym e) (subst (λ c. IfSome c m.belongs) e belong.candidate)

  running_plain : (holder partial : Option ℕ) → IsPlain (lock_running s session holder partial)
  running_plain (Some holder) partial = refl
  running_plain None (Some owner) = refl
  running_plain None None = either (is_stranger s.pending session) (deny_lock s 0) (done (with_lock s Running session)) refl refl

  candidate_plain : (holder : Option ℕ) → IsPlain (lock_candidate s session holder)
  candidate_plain (Some holder) = refl
  candidate_plain None = either (is_modified s.stores) (deny_lock s 0) (done (with_lock s Candidate session)) refl refl

  gives_plain : (given : Result Config Refusal) → ((refusal : Refusal) → given ≡ Err refusal → tag_number refusal.tag ≤ 8) → IsPlain (edit_gives s given)
  gives_plain (Ok config) small = refl
  gives_plain (Err refusal) small = below_nine (tag_number refusal.tag) (small refusal refl)

  edit_plain : (edit : Option TheEdit) (operation : DefaultOperation) (marks : Option Marks) → IfSome edit m.edit_belongs → IsPlain (edit_at m tables s edit operation marks)
  edit_plain None operation marks b = refl
  edit_plain (Some edit) operation marks b =
      gives_plain (m.edited (candidate_of s.stores) edit operation marks) (λ refusal e. laws.refusals (candidate_of s.stores) edit operation marks refusal candidate_belongs b e)

  valid_plain : (violation : Option Refusal) → m.violation (candidate_of s.stores) ≡ violation → IsPlain (validated s violation)
  valid_plain None e = refl
  valid_plain (Some refusal) e = below_nine (tag_number refusal.tag) (laws.violations (candidate_of s.stores) refusal candidate_belongs e)

  candidate_small : (candidate : Option Config) → is_small (candidate_refusal m s session candidate) ≡ true
  candidate_small None = refl
  candidate_small (Some candidate) =
      small_or (refused_if (guards m s.partials session s.stores.running candidate) tag.InUse)
      (refused_if (not (is_manager (user_of s.sessions session)) && not (m.same_marks s.stores.running candidate)) tag.AccessDenied)
      (small_if (guards m s.partials session s.stores.running candidate) tag.InUse refl)
      (small_if (not (is_manager (user_of s.sessions session)) && not (m.same_marks s.stores.running candidate)) tag.AccessDenied refl)

  refusal_small : (form : CommitForm) → is_small (commit_refusal s session form) ≡ true
  refusal_small form =
      let stranger : Bool = (names_reserved form.persist || names_reserved form.persist_id) && not (is_manager (user_of s.sessions session)) in
      let no_time : Bool = form.confirmed && is_zero form.timeout in
      let last : Option Tag = refused_if (is_locked_out s session) tag.InUse in
      small_or (refused_if stranger tag.AccessDenied) (or_else (refused_if no_time tag.InvalidValue) (or_else (misfit s.pending session form.persist_id) last)) (small_if stranger tag.AccessDenied refl)
      (small_or (refused_if no_time tag.InvalidValue) (or_else (misfit s.pending session form.persist_id) last) (small_if no_time tag.InvalidValue refl)
      (small_or (misfit s.pending session form.persist_id) last (small_misfit s.pending session form.persist_id) (small_if (is_locked_out s session) tag.InUse refl)))

  commit_small : (form : CommitForm) → is_small (commit_tag m s session form) ≡ true
  commit_small form = small_or (commit_refusal s session form) (candidate_refusal m s session s.stores.candidate) (refusal_small form) (candidate_small s.stores.candidate)

  unless_plain : (violation : Option Refusal) → ((refusal : Refusal) → violation ≡ Some refusal → tag_number refusal.tag ≤ 8) → (confirmed : Bool) (persist : Option (List ℕ)) (deadline : ℕ)
      → IsPlain (commit_unless m s session violation confirmed persist deadline)
  unless_plain (Some refusal) small confirmed persist deadline = below_nine (tag_number refusal.tag) (small refusal refl)
  unless_plain None small confirmed persist deadline = refl

  violation_small : (candidate : Option Config) → IfSome candidate m.belongs → (refusal : Refusal) → violation_of m candidate ≡ Some refusal → tag_number refusal.tag ≤ 8
  violation_small None b refusal e = absurd (let g : None ≡ Some refusal = e in cc)
  violation_small (Some candidate) b refusal e = laws.violations candidate refusal b e

  from_plain : (refusal : Option Tag) → is_small refusal ≡ true → (confirmed : Bool) (persist : Option (List ℕ)) (deadline : ℕ) → IsPlain (commit_from m s session refusal confirmed persist deadline)
  from_plain (Some one) small confirmed persist deadline = small
  from_plain None small confirmed persist deadline = unless_plain (violation_of m s.stores.candidate) (violation_small s.stores.candidate belong.candidate) confirmed persist deadline

  cancel_small : (named : Option (List ℕ)) → is_small (cancel_tag m s session named) ≡ true
  cancel_small named =
      let stranger : Bool = names_reserved named && not (is_manager (user_of s.sessions session)) in
      let third : Option Tag = refused_if (is_locked_out s session) tag.InUse in
      let last : Option Tag = refused_if (is_kept_from_undoing m s session s.pending) tag.InUse in
      small_or (refused_if stranger tag.AccessDenied) (or_else (misfit_cancel s.pending session named) (or_else third last)) (small_if stranger tag.AccessDenied refl)
      (small_or (misfit_cancel s.pending session named) (or_else third last) (small_misfit_cancel s.pending session named)
      (small_or third last (small_if (is_locked_out s session) tag.InUse refl) (small_if (is_kept_from_undoing m s session s.pending) tag.InUse refl)))

  cancel_plain : (refusal : Option Tag) → is_small refusal ≡ true → IsPlain (cancel_from m s refusal)
  cancel_plain (Some one) small = small
  cancel_plain None small = refl

  existing_plain : (nodes : List Node) → IsPlain (existing_locked m s session nodes)
  existing_plain nodes =
      either (length nodes == 0) (refuse s tag.OperationFailed) (part_granted s session nodes (overlap_with m s.partials session nodes) (next_partial s.partials)) refl
      (granted_plain s session nodes (overlap_with m s.partials session nodes) (next_partial s.partials))

  nodes_plain : (nodes : List Node) (holder : Option ℕ) → IsPlain (nodes_locked m s session nodes holder)
  nodes_plain nodes (Some holder) = refl
  nodes_plain nodes None =
      either (is_stranger s.pending session) (deny_lock s 0) (existing_locked m s session (filter (m.exists s.stores.running) nodes)) refl (existing_plain (filter (m.exists s.stores.running) nodes))

  named_plain : (nodes : Option (List Node)) → IsPlain (named_locked m s session nodes)
  named_plain None = refl
  named_plain (Some nodes) = nodes_plain nodes (owner_of s.locks Running)

  part_plain : (texts : Option (List (List ℕ))) → IsPlain (part_locked m s session texts)
  part_plain None = refl
  part_plain (Some texts) = named_plain (nodes_named m texts)

  step_plain : (request : Request) → IsPlain (device_step m tables s session request)
  step_plain (OpenSession user) = refl
  step_plain (Lock Running) = running_plain (owner_of s.locks Running) (least_owner s.partials)
  step_plain (Lock Candidate) = candidate_plain (owner_of s.locks Candidate)
  step_plain (Unlock store) = either (is_owner (owner_of s.locks store) session) (done (record s { locks = with_owner s.locks store None; stores = stores_unlocked s.stores store })) (refuse s tag.OperationFailed) refl refl
  step_plain (PartialLock select) = part_plain (slice_get tables.selects select.0)
  step_plain (PartialUnlock id) = either (holds s.partials session id) (done (record s { partials = released s.partials session id })) (refuse s tag.InvalidValue) refl refl
  step_plain (Edit edit operation marks) =
      either (is_held_by_other s Candidate session) (refuse s tag.InUse) (edit_at m tables s (slice_get tables.edits edit.0) operation marks) refl
      (edit_plain (slice_get tables.edits edit.0) operation marks (there_all m.edit_belongs tables.edits edit.0 edits_belong (slice_get tables.edits edit.0) refl))
  step_plain Validate = valid_plain (m.violation (candidate_of s.stores)) refl
  step_plain (Commit confirmed timeout persist persist_id) =
      from_plain (commit_tag m s session (record { confirmed = confirmed; timeout = timeout; persist = persist; persist_id = persist_id })) (commit_small (record { confirmed = confirmed; timeout = timeout; persist = persist; persist_id = persist_id }))
      confirmed persist (deadline_of s.clock timeout)
  step_plain (CancelCommit persist_id) = cancel_plain (cancel_tag m s session persist_id) (cancel_small persist_id)
  step_plain Discard = either (is_held_by_other s Candidate session) (refuse s tag.InUse) (done (with_stores s (discarded s.stores))) refl refl
  step_plain (HasMark change) = refl
  step_plain GetConfig = refl
  step_plain (Kill other) =
      either (other == session) (refuse s tag.InvalidValue) (if is_open s.sessions other then done (ended m s other) else refuse s tag.InvalidValue) refl
      (either (is_open s.sessions other) (done (ended m s other)) (refuse s tag.InvalidValue) refl refl)
  step_plain CloseSession = refl

-- whatever a sound device answers
pub asked_plain : {Config TheEdit Node : Type 0} (m : Meaning Config TheEdit Node) (laws : Laws m) (tables : TablesState TheEdit) (s : DeviceState Config Node) (session : ℕ) (request : Request) → IsSound m s → All m.edit_belongs tables.edits
    → has_plain_tag (device_step m tables s session request).reply ≡ true
asked_plain m laws tables s session request sound edits = step_plain m laws tables s session sound.belong.stores_belong edits request
