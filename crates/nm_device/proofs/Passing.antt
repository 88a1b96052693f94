-- What stands where a commit or a cancel is answered Done.
use Rattle.std.proofs.Common.{◌≡◌, ℕ, List, Bool, true, false, not, ◌&&◌, ◌||◌, Option, Some, None, refl, sym, ap, ◌∙◌}
use Rattle.nm_base.specs.declared.tag.Tag.{Tag}
use Rattle.nm_base.specs.declared.tag.Tag.TheVariants.{InUse, InvalidValue, AccessDenied}
use Rattle.nm_proto.specs.Content.{Meaning}
use Rattle.nm_sessions.specs.Sessions.{user_of}
use Rattle.nm_partial.specs.Partial.{guards}
use Rattle.nm_pending.specs.Fits.{commit_refusal as pending_refusal, cancel_refusal as misfit}
use Rattle.nm_device.specs.Device.{DeviceState, is_manager}
use Rattle.nm_pending.specs.Pending.{deadline_of}
use Rattle.nm_device.specs.Cancel.{is_kept_from_undoing, cancel_tag, cancel_from, cancel_by}
use Rattle.nm_device.specs.Commit.{CommitForm, names_reserved, is_zero, or_else, refused_if, is_locked_out, commit_refusal, candidate_refusal, commit_tag, commit_from, commit_by}
use Rattle.nm_device.specs.Table.{is_done}

not_refused : (refused : Bool) (tag : Tag) → refused_if refused tag ≡ None → refused ≡ false
not_refused true tag e = cc
not_refused false tag e = refl

neither : (one other : Option Tag) → or_else one other ≡ None → (one ≡ None) × (other ≡ None)
neither (Some tag) other e = cc
neither None other e = (refl, e)

module _ {Config TheEdit Node : Type 0} (m : Meaning Config TheEdit Node) (s : DeviceState Config Node) (session : ℕ) where
  -- no test that answers a tag alone fails
  pub record Passes (form : CommitForm) : Type 0 where
    pub free : is_locked_out s session ≡ false
    pub fits : pending_refusal s.pending session form.persist_id ≡ None
    pub unguarded : (candidate : Config) → s.stores.candidate ≡ Some candidate → guards m s.partials session s.stores.running candidate ≡ false

  done_from : (refusal : Option Tag) (confirmed : Bool) (persist : Option (List ℕ)) (deadline : ℕ) → is_done (commit_from m s session refusal confirmed persist deadline).reply ≡ true → refusal ≡ None
  done_from (Some tag) confirmed persist deadline e = cc
  done_from None confirmed persist deadline e = refl

  unguarded_by : (candidate : Config) → candidate_refusal m s session (Some candidate) ≡ None → guards m s.partials session s.stores.running candidate ≡ false
  unguarded_by candidate e = not_refused (guards m s.partials session s.stores.running candidate) InUse
      (neither (refused_if (guards m s.partials session s.stores.running candidate) InUse)
      (refused_if (not (is_manager (user_of s.sessions session)) && not (m.same_marks s.stores.running candidate)) AccessDenied) e).0

  pub tests_pass : (form : CommitForm) → commit_tag m s session form ≡ None → Passes form
  tests_pass form passed =
      let tags = neither (commit_refusal s session form) (candidate_refusal m s session s.stores.candidate) passed in
      let locks = refused_if (is_locked_out s session) InUse in
      let fits = or_else (pending_refusal s.pending session form.persist_id) locks in
      let waits = or_else (refused_if (form.confirmed && is_zero form.timeout) InvalidValue) fits in
      let owned = (neither (refused_if ((names_reserved form.persist || names_reserved form.persist_id) && not (is_manager (user_of s.sessions session))) AccessDenied) waits tags.0).1 in
      let waited = (neither (refused_if (form.confirmed && is_zero form.timeout) InvalidValue) fits owned).1 in
      let fitting = neither (pending_refusal s.pending session form.persist_id) locks waited in
      record {
        free = not_refused (is_locked_out s session) InUse fitting.1;
        fits = fitting.0;
        unguarded = λ candidate there. unguarded_by candidate (sym (ap (candidate_refusal m s session) there) ∙ tags.1);
      }

  pub commit_passes : (form : CommitForm) → is_done (commit_by m s session form).reply ≡ true → Passes form
  commit_passes form done = tests_pass form (done_from (commit_tag m s session form) form.confirmed form.persist (deadline_of s.clock form.timeout) done)

  -- ---- a cancel that is answered Done

  pub record CancelPasses (named : Option (List ℕ)) : Type 0 where
    pub free : is_locked_out s session ≡ false
    pub fits : misfit s.pending session named ≡ None
    pub unguarded : is_kept_from_undoing m s session s.pending ≡ false

  cancel_done_from : (refusal : Option Tag) → is_done (cancel_from m s refusal).reply ≡ true → refusal ≡ None
  cancel_done_from (Some tag) e = cc
  cancel_done_from None e = refl

  pub cancel_passes : (named : Option (List ℕ)) → is_done (cancel_by m s session named).reply ≡ true → CancelPasses named
  cancel_passes named done =
      let passed = cancel_done_from (cancel_tag m s session named) done in
      let parts = refused_if (is_kept_from_undoing m s session s.pending) InUse in
      let locks = or_else (refused_if (is_locked_out s session) InUse) parts in
      let fits = or_else (misfit s.pending session named) locks in
      let owned = (neither (refused_if (names_reserved named && not (is_manager (user_of s.sessions session))) AccessDenied) fits passed).1 in
      let fitting = neither (misfit s.pending session named) locks owned in
      let free = neither (refused_if (is_locked_out s session) InUse) parts fitting.1 in
      record {
        free = not_refused (is_locked_out s session) InUse free.0;
        fits = fitting.0;
        unguarded = not_refused (is_kept_from_undoing m s session s.pending) InUse free.1;
      }
