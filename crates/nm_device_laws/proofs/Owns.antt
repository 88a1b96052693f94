-- What a session's own request found and leaves, row by row.
use Rattle.std.proofs.Common.{◌≡◌, ℕ, ◌+◌, ◌==◌, List, [], ◌∷◌, length, Bool, true, false, cond, not, is_some, slice_get, unwrap_or, Option, Some, None, Result, Ok, Err, refl, sym, ap, ◌∙◌, subst, if◌then◌else◌}
use Rattle.std.specs.Str.{bytes_eq}
use Rattle.std.proofs.lemmas.Bool.{cond_both}
use Rattle.std.proofs.lemmas.Bool.Decides.{Decides-eqb}
use Rattle.std.proofs.lemmas.Option.{same_Some}
use Rattle.std.proofs.lemmas.Slice.Eq.{bytes_eq-Decides}
use Rattle.nm_base.specs.declared.number.EditNo.{EditNo}
use Rattle.nm_base.specs.declared.tag.Tag.{Tag}
use Rattle.nm_base.specs.declared.tag.Tag.TheVariants.{InUse, InvalidValue}
use Rattle.nm_proto.specs.declared.message.Store.TheVariants.{Running, Candidate}
use Rattle.nm_proto.specs.declared.message.DefaultOperation.{DefaultOperation}
use Rattle.nm_proto.specs.declared.message.Marks.{Marks}
use Rattle.nm_proto.specs.declared.message.Reply.TheVariants.{Opened}
use Rattle.nm_proto.specs.declared.message.Request.{Request}
use Rattle.nm_proto.specs.declared.message.Request.TheVariants.{Lock, Edit, Validate, Commit, CancelCommit, Discard, HasMark, Kill, CloseSession}
use Rattle.nm_proto.specs.Content.{Meaning, Refusal, Laws, TablesState}
use Rattle.nm_sessions.specs.Sessions.{user_of, is_open, next_id}
use Rattle.nm_sessions.proofs.SessionLemmas.{user_of-entered}
use Rattle.nm_sessions.proofs.Tables.{next_is}
use Rattle.nm_locks.specs.Locks.{owner_of}
use Rattle.nm_partial.specs.Partial.{PartialLock, first_owner, least_owner}
use Rattle.nm_stores.specs.Stores.{candidate_of, is_modified, discarded}
use Rattle.nm_pending.specs.Pending.{PendingState, is_stranger, ends_with, deadline_of}
use Rattle.nm_pending.specs.Fits.{refusal_by, commit_refusal as pending_refusal, MayCommit}
use Rattle.nm_device.specs.Device.{DeviceState, Stepped, done, refuse, deny_lock, is_held_by_other, with_stores}
use Rattle.nm_device.specs.Commit.{CommitForm, commit_tag, commit_unless, commit_from, pending_after, violation_of}
use Rattle.nm_device.specs.Undoing.{undone_by, undone, undone_if, left_by, emptied, ended}
use Rattle.nm_device.specs.Cancel.{cancel_tag, cancel_from}
use Rattle.nm_device.specs.Table.{open_with, opened, with_lock, lock_running, lock_candidate, edit_gives, edit_at, edit_by, validated, device_step, is_done}
use Rattle.nm_device.proofs.Passing.{tests_pass, cancel_passes}
use Rattle.nm_history.specs.declared.event.DeviceEvent.TheVariants.{Entered, Asked, Lost, Restarted}
use Rattle.nm_history.specs.History.{Happened, entering, restarting}
use Rattle.nm_history.specs.Effect.{is_done_reply}
use Rattle.nm_device_laws.specs.Moment.{is_refused, Happens}
use Rattle.nm_device_laws.specs.Numbered.{has_author, IsNumbered}
use Rattle.nm_device_laws.specs.Own.{TellsMark, Opens, TakesRunning, TakesCandidate, Discards, EditsCandidate, Validates, Commits, Begins, Renews, Confirms, Cancels, Closes, Kills}
use Rattle.nm_device_laws.proofs.Acts.{refused_stays}
use Rattle.nm_device_laws.proofs.Events.{IsDone, is_asked, lost_does}
use Rattle.nm_device_laws.proofs.Marked.{same_candidate, candidate_passed}
use Rattle.nm_device_laws.proofs.Named.{Waits, cancel_named}
use Rattle.nm_device_laws.proofs.Numbers.{fresh_number, open_left}

not_false : (b : Bool) → not b ≡ false → b ≡ true
not_false true e = refl
not_false false e = cc

no_first : {Node : Type 0} (locks : List (PartialLock Node)) → first_owner locks ≡ None → locks ≡ []
no_first [] e = refl
no_first (lock ∷ locks) e = cc

only_author : {Config : Type 0} (pending : Option (PendingState Config)) (session : ℕ) → is_stranger pending session ≡ false → has_author pending session ≡ false → pending ≡ None
only_author None session free other = refl
only_author (Some p) session free other = absurd (let never : true ≡ false = sym (ap not other) ∙ free in cc)

unmodified_by : {Config : Type 0} (candidate : Option Config) → is_some candidate ≡ false → candidate ≡ None
unmodified_by None e = refl
unmodified_by (Some config) e = cc

undone_sessions : {Config TheEdit Node : Type 0} (m : Meaning Config TheEdit Node) (t : DeviceState Config Node) (pending : Option (PendingState Config)) → (undone_by m t pending).sessions ≡ t.sessions
undone_sessions m t None = refl
undone_sessions m t (Some p) = refl

module _ {Config TheEdit Node : Type 0} (m : Meaning Config TheEdit Node) (tables : TablesState TheEdit) (s : DeviceState Config Node) (session : ℕ) where
  -- what holds of the row's answer, where that is Done, holds of what happened
  own : (P : DeviceState Config Node → Type 0) (request : Request) (h : Happened Config Node) → IsDone m tables s session request h
      → (is_done (device_step m tables s session request).reply ≡ true → P (device_step m tables s session request).after) → P h.after
  own P request h d row =
      let is = is_asked m tables s session request h d.happens in
      subst (λ (one : Happened Config Node). P one.after) is.does (row (ap (λ (one : Happened Config Node). is_done_reply one.reply) is.does ∙ d.done))

  abbrev Does : (DeviceState Config Node → Type 0) → Stepped Config Node → Type 0
  Does P stepped = is_done stepped.reply ≡ true → P stepped.after

  -- ---- locks

  running_row : (holder owner : Option ℕ) → owner_of s.locks Running ≡ holder → least_owner s.partials ≡ owner → Does (TakesRunning session s) (lock_running s session holder owner)
  running_row (Some holder) owner held least e = cc
  running_row None (Some owner) held least e = cc
  running_row None None held least e = cond_both (is_stranger s.pending session) (deny_lock s 0) (done (with_lock s Running session)) (Does (TakesRunning session s)) (λ _ e. cc)
      (λ free _. record { was_free = held; whole = no_first s.partials.locks least; alone = only_author s.pending session free; after = refl }) e

  pub takes_running : (h : Happened Config Node) → IsDone m tables s session (Lock Running) h → TakesRunning session s h.after
  takes_running h d = own (TakesRunning session s) (Lock Running) h d (running_row (owner_of s.locks Running) (least_owner s.partials) refl refl)

  candidate_row : (holder : Option ℕ) → owner_of s.locks Candidate ≡ holder → Does (TakesCandidate session s) (lock_candidate s session holder)
  candidate_row (Some holder) held e = cc
  candidate_row None held e = cond_both (is_modified s.stores) (deny_lock s 0) (done (with_lock s Candidate session)) (Does (TakesCandidate session s)) (λ _ e. cc)
      (λ same _. record { was_free = held; unmodified = unmodified_by s.stores.candidate same; after = refl }) e

  pub takes_candidate : (h : Happened Config Node) → IsDone m tables s session (Lock Candidate) h → TakesCandidate session s h.after
  takes_candidate h d = own (TakesCandidate session s) (Lock Candidate) h d (candidate_row (owner_of s.locks Candidate) refl)

  -- ---- candidate

  pub discards : (h : Happened Config Node) → IsDone m tables s session Discard h → Discards session s h.after
  discards h d = own (Discards session s) Discard h d (cond_both (is_held_by_other s Candidate session) (refuse s InUse) (done (with_stores s (discarded s.stores))) (Does (Discards session s))
      (λ _ e. cc) (λ free _. record { unheld = free; after = refl }))

  module _ (number : ℕ) (operation : DefaultOperation) (marks : Option Marks) where
    abbrev Edits : DeviceState Config Node → Type 0
    Edits = EditsCandidate m tables session number operation marks s

    given_row : (edit : TheEdit) (given : Result Config Refusal) → is_held_by_other s Candidate session ≡ false → slice_get tables.edits number ≡ Some edit
        → m.edited (candidate_of s.stores) edit operation marks ≡ given → Does Edits (edit_gives s given)
    given_row edit (Err refusal) free there e done_so = cc
    given_row edit (Ok config) free there e done_so = record {
      edit = edit;
      config = config;
      unheld = free;
      found = there;
      edits = e;
      edits_running = λ none. ap (λ (o : Option Config). m.edited (unwrap_or o s.stores.running) edit operation marks) (sym none) ∙ e;
      after = refl;
    }

    found_row : (edit : Option TheEdit) → is_held_by_other s Candidate session ≡ false → slice_get tables.edits number ≡ edit → Does Edits (edit_at m tables s edit operation marks)
    found_row None free there e = cc
    found_row (Some edit) free there e = given_row edit (m.edited (candidate_of s.stores) edit operation marks) free there refl e

    edit_row : Does Edits (edit_by m tables s session number operation marks)
    edit_row = cond_both (is_held_by_other s Candidate session) (refuse s InUse) (edit_at m tables s (slice_get tables.edits number) operation marks) (Does Edits)
        (λ _ e. cc) (λ free. found_row (slice_get tables.edits number) free refl)

  pub edits : (number : EditNo) (operation : DefaultOperation) (marks : Option Marks) (h : Happened Config Node) → IsDone m tables s session (Edit number operation marks) h
      → EditsCandidate m tables session number.0 operation marks s h.after
  edits number operation marks h d = own (Edits number.0 operation marks) (Edit number operation marks) h d (edit_row number.0 operation marks)

  valid_row : (violation : Option Refusal) → m.violation (candidate_of s.stores) ≡ violation → Does (Validates m s) (validated s violation)
  valid_row None valid e = record { valid = valid; after = refl }
  valid_row (Some refusal) valid e = cc

  pub validates : (h : Happened Config Node) → IsDone m tables s session Validate h → Validates m s h.after
  validates h d = own (Validates m s) Validate h d (valid_row (m.violation (candidate_of s.stores)) refl)

  -- ---- what changes nothing

  pub tells_mark : (change : ℕ) (h : Happened Config Node) → Happens m tables s (Asked session (HasMark change)) h → TellsMark m change s h
  tells_mark change h e = subst (TellsMark m change s) (is_asked m tables s session (HasMark change) h e).does (record { reply = refl; after = refl })

  pub refused_same : (request : Request) (h : Happened Config Node) → Happens m tables s (Asked session request) h → is_refused h.reply ≡ true → h.after ≡ s
  refused_same request h e refused =
      let is = is_asked m tables s session request h e in
      subst (λ (one : Happened Config Node). one.after ≡ s) is.does (refused_stays m tables s session request (ap (λ (one : Happened Config Node). is_refused one.reply) is.does ∙ refused))

  -- ---- ends

  closed_by : (t : DeviceState Config Node) (undoes : Bool) → (undone_if m t undoes).sessions ≡ t.sessions
  closed_by t undoes = cond_both undoes (undone m t) t (λ (one : DeviceState Config Node). one.sessions ≡ t.sessions) (λ _. undone_sessions m t t.pending) (λ _. refl)

  ended_closed : (other : ℕ) → is_open (ended m s other).sessions other ≡ false
  ended_closed other = ap (λ sessions. is_open sessions other) (closed_by (left_by s other) (ends_with s.pending other))
      ∙ open_left s.sessions other other ∙ ap (λ (b : Bool). if b then false else is_open s.sessions other) ((Decides-eqb other other).1 refl)

  pub closes : (h : Happened Config Node) → IsDone m tables s session CloseSession h → Closes m session s h.after
  closes h d = own (Closes m session s) CloseSession h d (λ _. record { closed = ended_closed session; after = refl })

  pub kills : (other : ℕ) (h : Happened Config Node) → IsDone m tables s session (Kill other) h → Kills m session other s h.after
  kills other h d = own (Kills m session other s) (Kill other) h d
      (cond_both (other == session) (refuse s InvalidValue) (if is_open s.sessions other then done (ended m s other) else refuse s InvalidValue) (Does (Kills m session other s))
      (λ _ e. cc)
      (λ another. cond_both (is_open s.sessions other) (done (ended m s other)) (refuse s InvalidValue) (Does (Kills m session other s))
      (λ is _. record { another = another; was_open = is; closed = ended_closed other; after = refl }) (λ _ e. cc)))

  pub loses : (h : Happened Config Node) → Happens m tables s (Lost session) h → Closes m session s h.after
  loses h e = subst (λ (one : Happened Config Node). Closes m session s one.after) (lost_does m tables s session h e) (record { closed = ended_closed session; after = refl })

module _ {Config TheEdit Node : Type 0} (m : Meaning Config TheEdit Node) (tables : TablesState TheEdit) (s : DeviceState Config Node) where
  pub restart_closes : (h : Happened Config Node) → Happens m tables s Restarted h → (t : ℕ) → is_open h.after.sessions t ≡ false
  restart_closes h e t = subst (λ (one : Happened Config Node). is_open one.after.sessions t ≡ false) (same_Some (restarting m s) h e)
      (ap (λ sessions. is_open sessions t) (undone_sessions m (emptied s) (emptied s).pending))

-- ---- openings

module _ {Config TheEdit Node : Type 0} (m : Meaning Config TheEdit Node) (tables : TablesState TheEdit) (s : DeviceState Config Node) (n : IsNumbered s) (user : List ℕ) (id : ℕ) where
  opens_row : (next : Option ℕ) → next_id s.sessions ≡ next → (open_with s next user).reply ≡ Opened id → Opens user id s (open_with s next user).after
  opens_row None next e = cc
  opens_row (Some given) next e =
      let is : id ≡ s.sessions.last + 1 = sym (same_id given id e) ∙ (next_is (length s.sessions.users) s.sessions.last given (sym next)).0 in
      record {
        next = is;
        fresh = ap (user_of s.sessions) is ∙ fresh_number s n;
        user_is = user_of-entered s.sessions user id (fresh_number s n) ∙ ap (λ (b : Bool). cond b (Some user) (user_of s.sessions id)) ((Decides-eqb id (s.sessions.last + 1)).1 is);
        after = refl;
      }
    where
      same_id : (one other : ℕ) → Opened one ≡ Opened other → one ≡ other
      same_id one other e = cc

  pub opens : (h : Happened Config Node) → Happens m tables s (Entered user) h → h.reply ≡ Some (Opened id) → Opens user id s h.after
  opens h e replies =
      let is = same_Some (entering s user) h e in
      subst (λ (one : Happened Config Node). Opens user id s one.after) is
      (opens_row (next_id s.sessions) refl (same_Some (opened s user).reply (Opened id) (ap (λ (one : Happened Config Node). one.reply) is ∙ replies)))

-- ---- commits and cancels

may_goes : (given : Option (List ℕ)) (issuer session : ℕ) (named : Option (List ℕ)) (tag : Tag) → refusal_by given issuer session named tag ≡ None
    → (named ≡ given) × (given ≡ None → issuer ≡ session)
may_goes None issuer session (Some named) tag fits = cc
may_goes None issuer session None tag fits = (refl, λ _. by_test (issuer == session) refl)
  where
    by_test : (b : Bool) → (issuer == session) ≡ b → issuer ≡ session
    by_test true e = (Decides-eqb issuer session).0 e
    by_test false e = absurd (let never : Some tag ≡ None = sym (ap (λ (b : Bool). if b then None else Some tag) e) ∙ fits in cc)
may_goes (Some given) issuer session None tag fits = cc
may_goes (Some given) issuer session (Some named) tag fits = (by_test (bytes_eq given named) refl, λ none. absurd (cc))
  where
    by_test : (b : Bool) → bytes_eq given named ≡ b → Some named ≡ Some given
    by_test true e = ap Some (sym ((bytes_eq-Decides given named).0 e))
    by_test false e = absurd (let never : Some InvalidValue ≡ None = sym (ap (λ (b : Bool). if b then None else Some InvalidValue) e) ∙ fits in cc)

may_commit : {Config : Type 0} (pending : Option (PendingState Config)) (session : ℕ) (named : Option (List ℕ)) → pending_refusal pending session named ≡ None → MayCommit pending session named
may_commit None session None fits = refl
may_commit None session (Some named) fits = cc
may_commit (Some p) session named fits = may_goes p.token p.issuer session named InUse fits

module _ {Config TheEdit Node : Type 0} (m : Meaning Config TheEdit Node) (laws : Laws m) (tables : TablesState TheEdit) (s : DeviceState Config Node) (session : ℕ) where
  abbrev pub After : Bool → Option ℕ → Option (List ℕ) → Option (PendingState Config)
  After confirmed timeout persist = pending_after s session confirmed persist (deadline_of s.clock timeout) s.pending

  module _ (form : CommitForm) where
    abbrev Made : DeviceState Config Node → Type 0
    Made = Commits m session form.persist_id (After form.confirmed form.timeout form.persist) s

    checked_row : (violation : Option Refusal) → commit_tag m s session form ≡ None
        → Does m tables s session Made (commit_unless m s session violation form.confirmed form.persist (deadline_of s.clock form.timeout))
    checked_row (Some refusal) passed e = cc
    checked_row None passed e =
        let passes = tests_pass m s session form passed in
        record {
          unlocked = passes.free;
          fits = may_commit s.pending session form.persist_id passes.fits;
          marks = same_candidate m laws s session s.stores.candidate (candidate_passed m laws s session form passed);
          after = refl;
        }

    tested_row : (refusal : Option Tag) → commit_tag m s session form ≡ refusal
        → Does m tables s session Made (commit_from m s session refusal form.confirmed form.persist (deadline_of s.clock form.timeout))
    tested_row (Some tag) passed e = cc
    tested_row None passed e = checked_row (violation_of m s.stores.candidate) passed e

  pub commits : (confirmed : Bool) (timeout : Option ℕ) (persist persist_id : Option (List ℕ)) (h : Happened Config Node) → IsDone m tables s session (Commit confirmed timeout persist persist_id) h
      → Commits m session persist_id (After confirmed timeout persist) s h.after
  commits confirmed timeout persist persist_id h d =
      let form : CommitForm = record { confirmed = confirmed; timeout = timeout; persist = persist; persist_id = persist_id } in
      own m tables s session (Made form) (Commit confirmed timeout persist persist_id) h d (tested_row form (commit_tag m s session form) refl)

  pub begins : (timeout : Option ℕ) (token : List ℕ) (h : Happened Config Node) → s.pending ≡ None → IsDone m tables s session (Commit true timeout (Some token) None) h
      → Begins m session timeout token s h.after
  begins timeout token h none d = subst (λ (pending : Option (PendingState Config)). Commits m session None pending s h.after)
      (ap (pending_after s session true (Some token) (deadline_of s.clock timeout)) none) (commits true timeout (Some token) None h d)

  goes_on : (token : List ℕ) (pending : Option (PendingState Config)) → MayCommit pending session (Some token) → Waits token pending
  goes_on token None fits = cc
  goes_on token (Some p) fits = record { p = p; is = refl; named = sym fits.0 }

  pub renews : (timeout : Option ℕ) (token : List ℕ) (h : Happened Config Node) → IsDone m tables s session (Commit true timeout None (Some token)) h → Renews m session timeout token s h.after
  renews timeout token h d =
      let done_so = commits true timeout None (Some token) h d in
      let w = goes_on token s.pending done_so.fits in
      record {
        p = w.p;
        waits = w.is;
        named = w.named;
        commits = subst (λ (pending : Option (PendingState Config)). Commits m session (Some token) pending s h.after)
            (ap (pending_after s session true None (deadline_of s.clock timeout)) w.is) done_so;
      }

  pub confirms : (timeout : Option ℕ) (token : List ℕ) (h : Happened Config Node) → IsDone m tables s session (Commit false timeout None (Some token)) h → Confirms m session token s h.after
  confirms timeout token h d =
      let done_so = commits false timeout None (Some token) h d in
      let w = goes_on token s.pending done_so.fits in
      record { p = w.p; waits = w.is; named = w.named; commits = done_so }

  cancel_row : (token : List ℕ) (refusal : Option Tag) → cancel_tag m s session (Some token) ≡ refusal → Does m tables s session (Cancels m session token s) (cancel_from m s refusal)
  cancel_row token (Some tag) passed e = cc
  cancel_row token None passed e =
      let passes = cancel_passes m s session (Some token) (ap (λ (o : Option Tag). is_done (cancel_from m s o).reply) passed) in
      let w = cancel_named token s.pending session passes.fits in
      record { p = w.p; waits = w.is; named = w.named; unlocked = passes.free; after = ap (undone_by m s) w.is }

  pub cancels : (token : List ℕ) (h : Happened Config Node) → IsDone m tables s session (CancelCommit (Some token)) h → Cancels m session token s h.after
  cancels token h d = own m tables s session (Cancels m session token s) (CancelCommit (Some token)) h d (cancel_row token (cancel_tag m s session (Some token)) refl)
