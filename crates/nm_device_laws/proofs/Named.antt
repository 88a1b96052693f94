-- Tokens that nobody names, or who may not: the tests that keep them out.
use Rattle.std.proofs.Common.{◌≡◌, ℕ, ◌==◌, List, Bool, true, false, not, ◌&&◌, ◌||◌, is_some, Option, Some, None, refl, sym, ap, ◌∙◌, if◌then◌else◌}
use Rattle.std.specs.Str.{bytes_eq}
use Rattle.std.proofs.lemmas.Slice.Eq.{bytes_eq-Decides}
use Rattle.nm_base.specs.declared.tag.Tag.{Tag}
use Rattle.nm_base.specs.declared.tag.Tag.TheVariants.{InUse, InvalidValue, AccessDenied, OperationFailed}
use Rattle.nm_base.specs.Token.{is_reserved}
use Rattle.nm_proto.specs.Content.{Meaning}
use Rattle.nm_sessions.specs.Sessions.{user_of}
use Rattle.nm_pending.specs.Pending.{PendingState, ends_with}
use Rattle.nm_pending.specs.Fits.{refusal_by, commit_refusal as pending_refusal, cancel_refusal as misfit}
use Rattle.nm_device.specs.Device.{DeviceState, is_manager}
use Rattle.nm_device.specs.Commit.{CommitForm, names_reserved, or_else, refused_if, commit_refusal, candidate_refusal, commit_tag, pending_after}
use Rattle.nm_device.specs.Cancel.{cancel_tag}
use Rattle.nm_history.specs.Outcome.{is_token}
use Rattle.nm_device_laws.specs.Token.{may_name, waits_under}

-- ---- tests that passed

first_none : (one other : Option Tag) → or_else one other ≡ None → one ≡ None
first_none (Some tag) other e = cc
first_none None other e = refl

first_passed : (refused : Bool) (tag : Tag) (other : Option Tag) → or_else (refused_if refused tag) other ≡ None → refused ≡ false
first_passed true tag other e = cc
first_passed false tag other e = refl

-- ---- names

pub same_token : (token given : List ℕ) → is_token token (Some given) ≡ true → token ≡ given
same_token token given e = (bytes_eq-Decides token given).0 e

pub token_same : (token : List ℕ) → is_token token (Some token) ≡ true
token_same token = (bytes_eq-Decides token token).1 refl

reserved_by : (token : List ℕ) (given : Option (List ℕ)) → is_token token given ≡ true → names_reserved given ≡ is_reserved token
reserved_by token None e = cc
reserved_by token (Some given) e = ap is_reserved (sym (same_token token given e))

either_named : (token : List ℕ) (one other : Option (List ℕ)) → (is_token token one || is_token token other) ≡ true → is_reserved token ≡ true → (names_reserved one || names_reserved other) ≡ true
either_named token one other named reserved = by_one (is_token token one) refl
  where
    right : (a b : Bool) → b ≡ true → (a || b) ≡ true
    right true b e = refl
    right false b e = e

    by_one : (b : Bool) → is_token token one ≡ b → (names_reserved one || names_reserved other) ≡ true
    by_one true e = ap (λ (b : Bool). b || names_reserved other) (reserved_by token one e ∙ reserved)
    by_one false e = right (names_reserved one) (names_reserved other) (reserved_by token other (sym (ap (λ (b : Bool). b || is_token token other) e) ∙ named) ∙ reserved)

-- what passed the test of reserved tokens and leaves the token names none
unnamed_by : (named reserves reserved manages : Bool) → (named ≡ true → reserved ≡ true → reserves ≡ true) → (reserves && not manages) ≡ false
    → not (named && (not reserved || manages)) ≡ true → named ≡ false
unnamed_by false reserves reserved manages more passed leaves = refl
unnamed_by true reserves false manages more passed leaves = cc
unnamed_by true reserves true true more passed leaves = cc
unnamed_by true reserves true false more passed leaves = absurd (let r : reserves ≡ true = more refl refl in let never : true ≡ false = sym (ap (λ (b : Bool). b && true) r) ∙ passed in cc)

neither : (a b : Bool) → (a || b) ≡ false → (a ≡ false) × (b ≡ false)
neither true b e = cc
neither false b e = (refl, e)

or_false : (a : Bool) → (a || false) ≡ a
or_false true = refl
or_false false = refl

-- ---- what is pending under other tokens

-- where the given token isn't the one, what fits isn't pending under it
fits_token : (token : List ℕ) (given : Option (List ℕ)) (issuer session : ℕ) (named : Option (List ℕ)) (tag : Tag) → refusal_by given issuer session named tag ≡ None → is_token token named ≡ false → is_token token given ≡ false
fits_token token None issuer session named tag fits other = refl
fits_token token (Some given) issuer session None tag fits other = cc
fits_token token (Some given) issuer session (Some named) tag fits other = by_test (bytes_eq given named) refl
  where
    by_test : (b : Bool) → bytes_eq given named ≡ b → is_token token (Some given) ≡ false
    by_test true e = ap (bytes_eq token) ((bytes_eq-Decides given named).0 e) ∙ other
    by_test false e = absurd (let never : Some InvalidValue ≡ None = sym (ap (λ (b : Bool). if b then None else Some InvalidValue) e) ∙ fits in cc)

-- and where the given one is, it was named
named_by : (token : List ℕ) (given : Option (List ℕ)) (issuer session : ℕ) (tag : Tag) → refusal_by given issuer session (Some token) tag ≡ None → given ≡ Some token
named_by token None issuer session tag fits = cc
named_by token (Some given) issuer session tag fits = by_test (bytes_eq given token) refl
  where
    by_test : (b : Bool) → bytes_eq given token ≡ b → Some given ≡ Some token
    by_test true e = ap Some ((bytes_eq-Decides given token).0 e)
    by_test false e = absurd (let never : Some InvalidValue ≡ None = sym (ap (λ (b : Bool). if b then None else Some InvalidValue) e) ∙ fits in cc)

module _ {Config : Type 0} where
  pub commit_elsewhere : (token : List ℕ) (pending : Option (PendingState Config)) (session : ℕ) (named : Option (List ℕ)) → pending_refusal pending session named ≡ None → is_token token named ≡ false → waits_under token pending ≡ false
  commit_elsewhere token None session named fits other = refl
  commit_elsewhere token (Some p) session named fits other = fits_token token p.token p.issuer session named InUse fits other

  pub cancel_elsewhere : (token : List ℕ) (pending : Option (PendingState Config)) (session : ℕ) (named : Option (List ℕ)) → misfit pending session named ≡ None → is_token token named ≡ false → waits_under token pending ≡ false
  cancel_elsewhere token None session named fits other = refl
  cancel_elsewhere token (Some p) session named fits other = fits_token token p.token p.issuer session named OperationFailed fits other

  -- what is pending, and has the token
  pub record Waits (token : List ℕ) (pending : Option (PendingState Config)) : Type 0 where
    pub p : PendingState Config
    pub is : pending ≡ Some p
    pub named : p.token ≡ Some token

  pub commit_named : (token : List ℕ) (pending : Option (PendingState Config)) (session : ℕ) → pending_refusal pending session (Some token) ≡ None → Waits token pending
  commit_named token None session fits = cc
  commit_named token (Some p) session fits = record { p = p; is = refl; named = named_by token p.token p.issuer session InUse fits }

  pub cancel_named : (token : List ℕ) (pending : Option (PendingState Config)) (session : ℕ) → misfit pending session (Some token) ≡ None → Waits token pending
  cancel_named token None session fits = cc
  cancel_named token (Some p) session fits = record { p = p; is = refl; named = named_by token p.token p.issuer session OperationFailed fits }

  -- nothing comes to wait under a token that a commit doesn't give
  pub after_elsewhere : {Node : Type 0} (s : DeviceState Config Node) (session : ℕ) (token : List ℕ) (confirmed : Bool) (persist : Option (List ℕ)) (deadline : ℕ) (pending : Option (PendingState Config))
      → is_token token persist ≡ false → waits_under token pending ≡ false → waits_under token (pending_after s session confirmed persist deadline pending) ≡ false
  after_elsewhere s session token false persist deadline pending other none = refl
  after_elsewhere s session token true persist deadline None other none = other
  after_elsewhere s session token true None deadline (Some p) other none = none
  after_elsewhere s session token true (Some given) deadline (Some p) other none = other

  -- the end of a session leaves what has a token
  pub ends_unless : (token : List ℕ) (pending : Option (PendingState Config)) (session : ℕ) → waits_under token pending ≡ true → ends_with pending session ≡ false
  ends_unless token None session e = cc
  ends_unless token (Some p) session e = tied p.token e
    where
      tied : (given : Option (List ℕ)) → is_token token given ≡ true → (not (is_some given) && p.issuer == session) ≡ false
      tied None e = cc
      tied (Some given) e = refl

module _ {Config TheEdit Node : Type 0} (m : Meaning Config TheEdit Node) (s : DeviceState Config Node) (session : ℕ) where
  reserved_commit : (form : CommitForm) → commit_tag m s session form ≡ None → ((names_reserved form.persist || names_reserved form.persist_id) && not (is_manager (user_of s.sessions session))) ≡ false
  reserved_commit form passed = first_passed _ AccessDenied _ (first_none (commit_refusal s session form) (candidate_refusal m s session s.stores.candidate) passed)

  -- a commit that passed the tests and leaves the token names it nowhere
  pub commit_unnamed : (token : List ℕ) (form : CommitForm) → commit_tag m s session form ≡ None
      → not ((is_token token form.persist || is_token token form.persist_id) && may_name token (user_of s.sessions session)) ≡ true
      → (is_token token form.persist ≡ false) × (is_token token form.persist_id ≡ false)
  commit_unnamed token form passed leaves = neither (is_token token form.persist) (is_token token form.persist_id)
      (unnamed_by (is_token token form.persist || is_token token form.persist_id) (names_reserved form.persist || names_reserved form.persist_id) (is_reserved token) (is_manager (user_of s.sessions session))
      (either_named token form.persist form.persist_id) (reserved_commit form passed) leaves)

  pub cancel_unnamed : (token : List ℕ) (named : Option (List ℕ)) → cancel_tag m s session named ≡ None
      → not (is_token token named && may_name token (user_of s.sessions session)) ≡ true → is_token token named ≡ false
  cancel_unnamed token named passed leaves = unnamed_by (is_token token named) (names_reserved named) (is_reserved token) (is_manager (user_of s.sessions session))
      (λ is reserved. reserved_by token named is ∙ reserved) (first_passed _ AccessDenied _ passed) leaves
