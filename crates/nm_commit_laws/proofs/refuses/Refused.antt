-- What waits under a token of the manager's is confirmed, renewed or cancelled by who owns candidate.
use Rattle.std.proofs.Common.{◌≡◌, ◌∙◌, ℕ, Bool, true, false, not, ◌&&◌, ◌||◌, List, Option, Some, None, refl, sym, ap, arith, if◌then◌else◌}
use Rattle.std.proofs.lemmas.Bool.Decides.{nat_tests}
use Rattle.std.proofs.lemmas.Option.{same_Some}
use Rattle.nm_base.specs.declared.tag.Tag.{Tag}
use Rattle.nm_base.specs.declared.tag.Tag.TheVariants.{InUse, InvalidValue, AccessDenied, OperationFailed}
use Rattle.nm_proto.specs.declared.message.Request.TheVariants.{Commit, CancelCommit}
use Rattle.nm_proto.specs.declared.message.Reply.TheVariants.{Done}
use Rattle.nm_proto.specs.declared.message.Store.TheVariants.{Running, Candidate}
use Rattle.nm_proto.specs.Content.{Meaning, TablesState}
use Rattle.nm_sessions.specs.Sessions.{user_of}
use Rattle.nm_locks.specs.Locks.{owner_of, is_other_owner}
use Rattle.nm_partial.specs.Partial.{guards}
use Rattle.nm_pending.specs.Pending.{PendingState, deadline_of}
use Rattle.nm_pending.specs.Fits.{refusal_by, commit_refusal as pending_refusal, cancel_refusal as misfit}
use Rattle.nm_device.specs.Cancel.{cancel_from, cancel_tag, is_kept_from_undoing}
use Rattle.nm_device.specs.Commit.{CommitForm, candidate_refusal, commit_from, commit_refusal, commit_tag, commit_unless, is_locked_out, is_zero, names_reserved, or_else, refused_if, violation_of}
use Rattle.nm_device.specs.Device.{DeviceState, is_manager}
use Rattle.nm_device.specs.Table.{device_step}
use Rattle.nm_history.specs.declared.event.DeviceEvent.TheVariants.{Asked}
use Rattle.nm_history.specs.History.{Happened}
use Rattle.nm_device_laws.specs.Moment.{Happens, is_refused}
use Rattle.nm_device_laws.specs.Numbered.{IsNumbered}
use Rattle.nm_device_laws.proofs.Events.{is_asked}
use Rattle.nm_device_laws.proofs.Named.{token_same}
use Rattle.nm_commit_laws.specs.RefusesSupport.{IsApart}

both_none : (one other : Option Tag) → one ≡ None → other ≡ None → or_else one other ≡ None
both_none one other e f = ap (λ o. or_else o other) e ∙ f

unrefused : (refused : Bool) (tag : Tag) → refused ≡ false → refused_if refused tag ≡ None
unrefused refused tag e = ap (λ b. refused_if b tag) e

allowed : (names managed : Bool) → managed ≡ true → (names && not managed) ≡ false
allowed names managed e = grind (arith, nat_tests)

own_lock : (owner session : ℕ) → owner ≡ session → is_other_owner (Some owner) session ≡ false
own_lock owner session e = grind (arith, nat_tests)

both_free : (a b : Bool) → a ≡ false → b ≡ false → (a || b) ≡ false
both_free a b e f = grind (arith, nat_tests)

fits_own : (token : List ℕ) (given : Option (List ℕ)) (issuer session : ℕ) (tag : Tag) → given ≡ Some token
    → refusal_by given issuer session (Some token) tag ≡ None
fits_own token given issuer session tag e =
    ap (λ o. refusal_by o issuer session (Some token) tag) e ∙ ap (λ b. if b then None else Some InvalidValue) (token_same token)

module _ {Config TheEdit Node : Type 0} (m : Meaning Config TheEdit Node) (tables : TablesState TheEdit) (s : DeviceState Config Node)
    (n : IsNumbered s) (u : ℕ) (managed : is_manager (user_of s.sessions u) ≡ true)
    (owned : owner_of s.locks Candidate ≡ Some u) (token : List ℕ) (p : PendingState Config) (is : s.pending ≡ Some p)
    (named : p.token ≡ Some token) (a : IsApart s p) where
  -- nobody else holds a global lock: who holds running owns candidate too
  running_by : (owner : Option ℕ) → owner_of s.locks Running ≡ owner → is_other_owner owner u ≡ false
  running_by None e = refl
  running_by (Some owner) e =
      own_lock owner u (same_Some owner u (sym (a.owner owner (a.lock owner e) (n.owners Running owner e)) ∙ owned))

  unlocked : is_locked_out s u ≡ false
  unlocked =
      both_free (is_other_owner (owner_of s.locks Running) u) (is_other_owner (owner_of s.locks Candidate) u)
      (running_by (owner_of s.locks Running) refl) (ap (λ o. is_other_owner o u) owned ∙ own_lock u u refl)

  -- ---- a commit

  module _ (confirmed : Bool) (timeout : Option ℕ) (timed : (confirmed && is_zero timeout) ≡ false) (clean : s.stores.candidate ≡ None) where
    abbrev form : CommitForm
    form = record { confirmed = confirmed; timeout = timeout; persist = None; persist_id = Some token }

    passed : commit_tag m s u form ≡ None
    passed =
        both_none (commit_refusal s u form) (candidate_refusal m s u s.stores.candidate)
        (both_none _ _
        (unrefused ((names_reserved form.persist || names_reserved form.persist_id) && not (is_manager (user_of s.sessions u))) AccessDenied
        (allowed (names_reserved form.persist || names_reserved form.persist_id) (is_manager (user_of s.sessions u)) managed))
        (both_none _ _ (unrefused (confirmed && is_zero timeout) InvalidValue timed)
        (both_none _ _
        (ap (λ o. pending_refusal o u (Some token)) is ∙ fits_own token p.token p.issuer u InUse named)
        (unrefused (is_locked_out s u) InUse unlocked))))
        (ap (candidate_refusal m s u) clean)

    commit_done : (device_step m tables s u (Commit confirmed timeout None (Some token))).reply ≡ Done
    commit_done =
        ap (λ o. (commit_from m s u o confirmed None (deadline_of s.clock timeout)).reply) passed
        ∙ ap (λ o. (commit_unless m s u (violation_of m o) confirmed None (deadline_of s.clock timeout)).reply) clean

    -- so an error doesn't answer it
    pub commit_answers : (h : Happened Config Node) → Happens m tables s (Asked u (Commit confirmed timeout None (Some token))) h
        → is_refused h.reply ≡ true → ⊥
    commit_answers h happens refused =
        let does = (is_asked m tables s u (Commit confirmed timeout None (Some token)) h happens).does in
        let never : false ≡ true = sym (ap is_refused (sym (ap (λ one. one.reply) does) ∙ ap Some commit_done)) ∙ refused in
        absurd (cc)

  -- ---- a cancel

  unkept : is_kept_from_undoing m s u s.pending ≡ false
  unkept = ap (is_kept_from_undoing m s u) is ∙ ap (λ locks. guards m (record s.partials { locks = locks }) u s.stores.running p.before) a.whole

  cancelled : cancel_tag m s u (Some token) ≡ None
  cancelled =
      both_none _ _
      (unrefused (names_reserved (Some token) && not (is_manager (user_of s.sessions u))) AccessDenied
      (allowed (names_reserved (Some token)) (is_manager (user_of s.sessions u)) managed))
      (both_none _ _ (ap (λ o. misfit o u (Some token)) is ∙ fits_own token p.token p.issuer u OperationFailed named)
      (both_none _ _ (unrefused (is_locked_out s u) InUse unlocked)
      (unrefused (is_kept_from_undoing m s u s.pending) InUse unkept)))

  pub cancel_answers : (h : Happened Config Node) → Happens m tables s (Asked u (CancelCommit (Some token))) h → is_refused h.reply ≡ true → ⊥
  cancel_answers h happens refused =
      let does = (is_asked m tables s u (CancelCommit (Some token)) h happens).does in
      let never : false ≡ true =
      sym (ap is_refused (sym (ap (λ one. one.reply) does) ∙ ap (λ o. Some (cancel_from m s o).reply) cancelled)) ∙ refused in
      absurd (cc)
