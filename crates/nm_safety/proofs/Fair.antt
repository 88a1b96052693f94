-- How a device answers what the manager asks.
use Rattle.std.proofs.Common.{◌≡◌, ◌≤◌, ◌∙◌, ℕ, ◌==◌, nat_lt, Bool, true, false, not, ◌&&◌, ◌||◌, cond, List, Option, Some, None, IfSome, is_some, slice_get, Result, Ok, Err, refl, sym, ap, subst, arith}
use Rattle.std.specs.List.{All}
use Rattle.std.specs.Str.{bytes_eq}
use Rattle.std.proofs.lemmas.Bool.{cond_both}
use Rattle.std.proofs.lemmas.Option.{cond_some, same_Some, get_or_from_slice_get, slice_get_within}
use Rattle.std.proofs.lemmas.List.Elements.{All-get_or}
use Rattle.std.proofs.lemmas.Bool.Decides.{nat_tests}
use Rattle.nm_base.specs.declared.tag.Tag.{Tag}
use Rattle.nm_base.specs.declared.tag.Tag.TheVariants as tag
use Rattle.nm_base.specs.Tag.{tag_number}
use Rattle.nm_proto.specs.declared.ask.Ask.{Ask}
use Rattle.nm_proto.specs.declared.ask.Ask.TheVariants as ask
use Rattle.nm_proto.specs.declared.message.DefaultOperation.{DefaultOperation}
use Rattle.nm_proto.specs.declared.message.Marks.{Marks}
use Rattle.nm_proto.specs.declared.message.Store.TheVariants.{Running, Candidate}
use Rattle.nm_proto.specs.declared.message.Request.{Request}
use Rattle.nm_proto.specs.declared.message.Request.TheVariants.{OpenSession, Lock, Unlock, PartialLock, PartialUnlock, Edit, Validate, Commit, CancelCommit, Discard, HasMark, GetConfig, Kill, CloseSession}
use Rattle.nm_proto.specs.declared.message.Reply.{Reply}
use Rattle.nm_proto.specs.declared.message.Reply.TheVariants.{Done}
use Rattle.nm_proto.specs.Content.{Meaning, Laws, Refusal, TablesState}
use Rattle.nm_locks.specs.Locks.{owner_of}
use Rattle.nm_partial.specs.Partial.{least_owner, guards}
use Rattle.nm_pending.specs.Pending.{PendingState, is_stranger, deadline_of}
use Rattle.nm_pending.specs.Fits.{token_refusal, issuer_refusal, refusal_by, commit_refusal as misfit, cancel_refusal as misfit_cancel}
use Rattle.nm_stores.specs.Stores.{Belong, candidate_of, discarded, is_modified}
use Rattle.nm_device.specs.Device.{DeviceState, Stepped, deny_lock, done, is_held_by_other, is_manager, refuse, refuse_at, with_stores}
use Rattle.nm_device.specs.Commit.{CommitForm, or_else, refused_if, commit_refusal, candidate_refusal, commit_tag, commit_from, commit_unless, violation_of, is_locked_out, names_reserved, is_zero}
use Rattle.nm_device.specs.Cancel.{cancel_tag, cancel_from, is_kept_from_undoing}
use Rattle.nm_device.specs.Table.{device_step, edit_at, edit_gives, is_opening, lock_candidate, lock_running, open_with, opened, validated, with_lock}
use Rattle.nm_sessions.specs.Sessions.{is_open, next_id, user_of}
use Rattle.nm_history.specs.declared.event.DeviceEvent.TheVariants.{Entered, Asked}
use Rattle.nm_history.specs.History.{Happened, answered, entering}
use Rattle.nm_device_laws.specs.Moment.{Happens}
use Rattle.nm_wire.specs.Asks.{ask_of, same_ask, commit_ask, cancel_ask}
use Rattle.nm_safety.specs.Step.{has_number, answers_ask}
use Rattle.nm_safety.specs.Delivered.{is_answer}

-- a reply of the form that fits what was asked, whose tag, where it has one, has its number in a journal
abbrev pub is_fair_to : Ask → Reply → Bool
is_fair_to what reply = is_answer what reply && has_number reply

-- ---- tags

abbrev is_small : Option Tag → Bool
is_small None = true
is_small (Some one) = nat_lt (tag_number one) 9

small_or : (one other : Option Tag) → is_small one ≡ true → is_small other ≡ true → is_small (or_else one other) ≡ true
small_or None other a b = b
small_or (Some one) other a b = a

small_if : (refused : Bool) (one : Tag) → nat_lt (tag_number one) 9 ≡ true → is_small (refused_if refused one) ≡ true
small_if true one s = s
small_if false one s = refl

four_small : (a : Bool) (first : Tag) (b : Bool) (second : Tag) (third fourth : Option Tag) → nat_lt (tag_number first) 9 ≡ true → nat_lt (tag_number second) 9 ≡ true → is_small third ≡ true → is_small fourth ≡ true
    → is_small (or_else (refused_if a first) (or_else (refused_if b second) (or_else third fourth))) ≡ true
four_small a first b second third fourth f s t u =
    small_or (refused_if a first) (or_else (refused_if b second) (or_else third fourth)) (small_if a first f)
    (small_or (refused_if b second) (or_else third fourth) (small_if b second s) (small_or third fourth t u))

small_cond : (b : Bool) (one : Tag) → nat_lt (tag_number one) 9 ≡ true → is_small (cond b None (Some one)) ≡ true
small_cond true one s = refl
small_cond false one s = s

small_token : (token : List ℕ) (named : Option (List ℕ)) → is_small (token_refusal token named) ≡ true
small_token token None = refl
small_token token (Some named) = small_cond (bytes_eq token named) tag.InvalidValue refl

small_issuer : (issuer session : ℕ) (named : Option (List ℕ)) (other : Tag) → nat_lt (tag_number other) 9 ≡ true → is_small (issuer_refusal issuer session named other) ≡ true
small_issuer issuer session (Some named) other s = refl
small_issuer issuer session None other s = small_cond (issuer == session) other s

small_by : (token : Option (List ℕ)) (issuer session : ℕ) (named : Option (List ℕ)) (other : Tag) → nat_lt (tag_number other) 9 ≡ true → is_small (refusal_by token issuer session named other) ≡ true
small_by None issuer session named other s = small_issuer issuer session named other s
small_by (Some token) issuer session named other s = small_token token named

module _ {Config : Type 0} where
  small_misfit : (pending : Option (PendingState Config)) (session : ℕ) (named : Option (List ℕ)) → is_small (misfit pending session named) ≡ true
  small_misfit None session None = refl
  small_misfit None session (Some named) = refl
  small_misfit (Some p) session named = small_by p.token p.issuer session named tag.InUse refl

  small_misfit_cancel : (pending : Option (PendingState Config)) (session : ℕ) (named : Option (List ℕ)) → is_small (misfit_cancel pending session named) ≡ true
  small_misfit_cancel None session None = refl
  small_misfit_cancel None session (Some named) = refl
  small_misfit_cancel (Some p) session named = small_by p.token p.issuer session named tag.OperationFailed refl

below_nine : (n : ℕ) → n ≤ 8 → nat_lt n 9 ≡ true
below_nine n h = grind (arith, nat_tests)

there_all : {A : Type 0} (P : A → Type 0) (xs : List A) (place : ℕ) → All P xs → (found : Option A) → slice_get xs place ≡ found → IfSome found P
there_all P xs place all None e = search
there_all P xs place all (Some x) e = subst P (get_or_from_slice_get xs place x x e) (All-get_or P xs place x (slice_get_within xs place x e) all)

-- ---- what is asked

done_commit : (confirmed persists names : Bool) → same_ask (commit_ask confirmed persists names) ask.Resync ≡ false → is_fair_to (commit_ask confirmed persists names) Done ≡ true
done_commit confirmed persists names k = grind (arith, nat_tests)

done_cancel : (names : Bool) → is_fair_to (cancel_ask names) Done ≡ true
done_cancel names = grind (arith, nat_tests)

-- ---- rows

module _ {Config TheEdit Node : Type 0} (m : Meaning Config TheEdit Node) (laws : Laws m) (tables : TablesState TheEdit) (s : DeviceState Config Node) (session : ℕ) (belong : Belong {Node = Node} m s.stores)
    (edits_belong : All m.edit_belongs tables.edits) where
  candidate_belongs : m.belongs (candidate_of s.stores)
  candidate_belongs = by_candidate s.stores.candidate refl
    where
      by_candidate : (candidate : Option Config) → s.stores.candidate ≡ candidate → m.belongs (candidate_of s.stores)
      by_candidate None e = subst (λ c. m.belongs (candidate_of (record s.stores { candidate = c }))) (sym e) belong.running
      by_candidate (Some config) e =
          subst (λ c. m.belongs (candidate_of (record s.stores { candidate = c }))) (sym e) (subst (λ c. IfSome c m.belongs) e belong.candidate)

  running_fair : (holder partial : Option ℕ) → is_fair_to ask.LockRunning (lock_running s session holder partial).reply ≡ true
  running_fair (Some holder) partial = refl
  running_fair None (Some owner) = refl
  running_fair None None = cond_both (is_stranger s.pending session) (deny_lock s 0) (done (with_lock s Running session)) (λ (stepped : Stepped Config Node). is_fair_to ask.LockRunning stepped.reply ≡ true) (λ _. refl) (λ _. refl)

  candidate_fair : (holder : Option ℕ) → is_fair_to ask.LockCandidate (lock_candidate s session holder).reply ≡ true
  candidate_fair (Some holder) = refl
  candidate_fair None = cond_both (is_modified s.stores) (deny_lock s 0) (done (with_lock s Candidate session)) (λ (stepped : Stepped Config Node). is_fair_to ask.LockCandidate stepped.reply ≡ true) (λ _. refl) (λ _. refl)

  refusal_fair : (what : Ask) (refusal : Refusal) → tag_number refusal.tag ≤ 8 → is_fair_to what (refuse_at s refusal).reply ≡ true
  refusal_fair what refusal small = below_nine (tag_number refusal.tag) small

  gives_fair : (given : Result Config Refusal) → ((refusal : Refusal) → given ≡ Err refusal → tag_number refusal.tag ≤ 8) → is_fair_to ask.Edit (edit_gives s given).reply ≡ true
  gives_fair (Ok config) small = refl
  gives_fair (Err refusal) small = refusal_fair ask.Edit refusal (small refusal refl)

  edit_fair : (edit : Option TheEdit) (operation : DefaultOperation) (marks : Option Marks) → IfSome edit m.edit_belongs → is_fair_to ask.Edit (edit_at m tables s edit operation marks).reply ≡ true
  edit_fair None operation marks b = refl
  edit_fair (Some edit) operation marks b =
      gives_fair (m.edited (candidate_of s.stores) edit operation marks) (λ refusal e. laws.refusals (candidate_of s.stores) edit operation marks refusal candidate_belongs b e)

  valid_fair : (violation : Option Refusal) → m.violation (candidate_of s.stores) ≡ violation → is_fair_to ask.Validate (validated s violation).reply ≡ true
  valid_fair None e = refl
  valid_fair (Some refusal) e = refusal_fair ask.Validate refusal (laws.violations (candidate_of s.stores) refusal candidate_belongs e)

  candidate_small : (candidate : Option Config) → is_small (candidate_refusal m s session candidate) ≡ true
  candidate_small None = refl
  candidate_small (Some candidate) =
      small_or (refused_if (guards m s.partials session s.stores.running candidate) tag.InUse)
      (refused_if (not (is_manager (user_of s.sessions session)) && not (m.same_marks s.stores.running candidate)) tag.AccessDenied)
      (small_if (guards m s.partials session s.stores.running candidate) tag.InUse refl)
      (small_if (not (is_manager (user_of s.sessions session)) && not (m.same_marks s.stores.running candidate)) tag.AccessDenied refl)

  commit_small : (form : CommitForm) → is_small (commit_tag m s session form) ≡ true
  commit_small form =
      let stranger : Bool = (names_reserved form.persist || names_reserved form.persist_id) && not (is_manager (user_of s.sessions session)) in
      let no_time : Bool = form.confirmed && is_zero form.timeout in
      small_or (commit_refusal s session form) (candidate_refusal m s session s.stores.candidate)
      (four_small stranger tag.AccessDenied no_time tag.InvalidValue (misfit s.pending session form.persist_id) (refused_if (is_locked_out s session) tag.InUse) refl refl
      (small_misfit s.pending session form.persist_id) (small_if (is_locked_out s session) tag.InUse refl))
      (candidate_small s.stores.candidate)

  unless_fair : (what : Ask) → is_fair_to what Done ≡ true → (violation : Option Refusal) → ((refusal : Refusal) → violation ≡ Some refusal → tag_number refusal.tag ≤ 8) → (confirmed : Bool) (persist : Option (List ℕ)) (deadline : ℕ)
      → is_fair_to what (commit_unless m s session violation confirmed persist deadline).reply ≡ true
  unless_fair what d (Some refusal) small confirmed persist deadline = refusal_fair what refusal (small refusal refl)
  unless_fair what d None small confirmed persist deadline = d

  violation_small : (candidate : Option Config) → IfSome candidate m.belongs → (refusal : Refusal) → violation_of m candidate ≡ Some refusal → tag_number refusal.tag ≤ 8
  violation_small None b refusal e = absurd (let g : None ≡ Some refusal = e in cc)
  violation_small (Some candidate) b refusal e = laws.violations candidate refusal b e

  from_fair : (what : Ask) → is_fair_to what Done ≡ true → (refusal : Option Tag) → is_small refusal ≡ true → (confirmed : Bool) (persist : Option (List ℕ)) (deadline : ℕ)
      → is_fair_to what (commit_from m s session refusal confirmed persist deadline).reply ≡ true
  from_fair what d (Some one) small confirmed persist deadline = small
  from_fair what d None small confirmed persist deadline = unless_fair what d (violation_of m s.stores.candidate) (violation_small s.stores.candidate belong.candidate) confirmed persist deadline

  cancel_small : (named : Option (List ℕ)) → is_small (cancel_tag m s session named) ≡ true
  cancel_small named =
      small_or (refused_if (names_reserved named && not (is_manager (user_of s.sessions session))) tag.AccessDenied)
      (or_else (misfit_cancel s.pending session named) (or_else (refused_if (is_locked_out s session) tag.InUse) (refused_if (is_kept_from_undoing m s session s.pending) tag.InUse)))
      (small_if (names_reserved named && not (is_manager (user_of s.sessions session))) tag.AccessDenied refl)
      (small_or (misfit_cancel s.pending session named) (or_else (refused_if (is_locked_out s session) tag.InUse) (refused_if (is_kept_from_undoing m s session s.pending) tag.InUse))
      (small_misfit_cancel s.pending session named)
      (small_or (refused_if (is_locked_out s session) tag.InUse) (refused_if (is_kept_from_undoing m s session s.pending) tag.InUse)
      (small_if (is_locked_out s session) tag.InUse refl) (small_if (is_kept_from_undoing m s session s.pending) tag.InUse refl)))

  cancel_fair : (what : Ask) → is_fair_to what Done ≡ true → (refusal : Option Tag) → is_small refusal ≡ true → is_fair_to what (cancel_from m s refusal).reply ≡ true
  cancel_fair what d (Some one) small = small
  cancel_fair what d None small = d

  -- ---- any request of the manager's

  edit_there : (number : ℕ) → IfSome (slice_get tables.edits number) m.edit_belongs
  edit_there number = there_all m.edit_belongs tables.edits number edits_belong (slice_get tables.edits number) refl

  pub step_fair : (request : Request) → same_ask (ask_of request) ask.Resync ≡ false → is_opening request ≡ false → is_fair_to (ask_of request) (device_step m tables s session request).reply ≡ true
  step_fair (OpenSession user) k o = absurd (let g : true ≡ false = o in cc)
  step_fair (Lock Running) k o = running_fair (owner_of s.locks Running) (least_owner s.partials)
  step_fair (Lock Candidate) k o = candidate_fair (owner_of s.locks Candidate)
  step_fair (Edit edit operation marks) k o =
      cond_both (is_held_by_other s Candidate session) (refuse s tag.InUse) (edit_at m tables s (slice_get tables.edits edit.0) operation marks) (λ (stepped : Stepped Config Node). is_fair_to ask.Edit stepped.reply ≡ true) (λ _. refl)
      (λ _. edit_fair (slice_get tables.edits edit.0) operation marks (edit_there edit.0))
  step_fair Validate k o = valid_fair (m.violation (candidate_of s.stores)) refl
  step_fair (Commit confirmed timeout persist persist_id) k o =
      let form : CommitForm = record { confirmed = confirmed; timeout = timeout; persist = persist; persist_id = persist_id } in
      from_fair (ask_of (Commit confirmed timeout persist persist_id)) (done_commit confirmed (is_some persist) (is_some persist_id) k) (commit_tag m s session form) (commit_small form) confirmed persist (deadline_of s.clock timeout)
  step_fair (CancelCommit persist_id) k o = cancel_fair (cancel_ask (is_some persist_id)) (done_cancel (is_some persist_id)) (cancel_tag m s session persist_id) (cancel_small persist_id)
  step_fair Discard k o = cond_both (is_held_by_other s Candidate session) (refuse s tag.InUse) (done (with_stores s (discarded s.stores))) (λ (stepped : Stepped Config Node). is_fair_to ask.Discard stepped.reply ≡ true) (λ _. refl) (λ _. refl)
  step_fair (HasMark change) k o = refl
  step_fair CloseSession k o = refl
  step_fair (Unlock store) k o = absurd (let g : true ≡ false = k in cc)
  step_fair (PartialLock select) k o = absurd (let g : true ≡ false = k in cc)
  step_fair (PartialUnlock id) k o = absurd (let g : true ≡ false = k in cc)
  step_fair GetConfig k o = absurd (let g : true ≡ false = k in cc)
  step_fair (Kill other) k o = absurd (let g : true ≡ false = k in cc)

-- what an answer is, in the words of links
pub fair_answers : (what : Ask) (reply : Reply) → is_fair_to what reply ≡ true → (answers_ask what reply && has_number reply) ≡ true
fair_answers what reply f = grind (arith, nat_tests)

pub fair_is : (what : Ask) (reply : Reply) → is_fair_to what reply ≡ true → is_answer what reply ≡ true
fair_is what reply f = grind (arith, nat_tests)

module _ {Config TheEdit Node : Type 0} (m : Meaning Config TheEdit Node) (laws : Laws m) (tables : TablesState TheEdit) (s : DeviceState Config Node) where
  -- a request that happens is answered so
  pub asked_fair : (session : ℕ) (request : Request) (h : Happened Config Node) (reply : Reply) → Belong {Node = Node} m s.stores → All m.edit_belongs tables.edits → Happens m tables s (Asked session request) h
      → h.reply ≡ Some reply → same_ask (ask_of request) ask.Resync ≡ false → is_fair_to (ask_of request) reply ≡ true
  asked_fair session request h reply belong edits e told known =
      let c = cond_some (is_open s.sessions session && not (is_opening request)) (answered s request (device_step m tables s session request)) h e in
      let is : Some (device_step m tables s session request).reply ≡ Some reply = ap (λ one. one.reply) c.1 ∙ told in
      let same : (device_step m tables s session request).reply ≡ reply = cc in
      ap (is_fair_to (ask_of request)) (sym same)
      ∙ step_fair m laws tables s session belong edits request known (other_not (is_open s.sessions session) (is_opening request) c.0)
    where
      other_not : (a b : Bool) → (a && not b) ≡ true → b ≡ false
      other_not a b h = grind (arith, nat_tests)

  opened_fair : (id : Option ℕ) (user : List ℕ) → is_fair_to ask.OpenSession (open_with s id user).reply ≡ true
  opened_fair None user = refl
  opened_fair (Some id) user = refl

  -- and so is a request for a session
  pub entered_fair : (user : List ℕ) (h : Happened Config Node) (reply : Reply) → Happens m tables s (Entered user) h → h.reply ≡ Some reply → is_fair_to ask.OpenSession reply ≡ true
  entered_fair user h reply e told =
      let does : entering s user ≡ h = same_Some (entering s user) h e in
      let is : Some (opened s user).reply ≡ Some reply = ap (λ one. one.reply) does ∙ told in
      let same : (opened s user).reply ≡ reply = cc in
      ap (is_fair_to ask.OpenSession) (sym same) ∙ opened_fair (next_id s.sessions) user
