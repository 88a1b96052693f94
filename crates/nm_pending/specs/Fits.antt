-- What a commit or a cancel must name where a commit is pending (RFC 6241 section 8.4).
use Rattle.std.specs.Prelude.{◌≡◌, ◌≢◌, ℕ, ◌==◌, List, Option, Some, None, if◌then◌else◌}
use Rattle.std.specs.Str.{bytes_eq}
use Rattle.nm_base.specs.declared.tag.Tag.{Tag}
use Rattle.nm_base.specs.declared.tag.Tag.TheVariants.{InvalidValue, InUse, OperationFailed}
use Rattle.nm_pending.specs.Pending.{PendingState}

-- a token is pending: it has to be named (RFC 6241 section 8.4.5.1)
abbrev pub token_refusal : List ℕ → Option (List ℕ) → Option Tag
token_refusal token None = Some InvalidValue
token_refusal token (Some named) = if bytes_eq token named then None else Some InvalidValue

-- what is pending has no token: there is none to name, and it is its issuer's alone (RFC 6241 section 8.4.1). A tag
-- answers anybody else
abbrev pub issuer_refusal : ℕ → ℕ → Option (List ℕ) → Tag → Option Tag
issuer_refusal issuer session (Some named) other = Some InvalidValue
issuer_refusal issuer session None other = if issuer == session then None else Some other

-- the same by what is pending: with a token that has to be named, and without one the session that issued it goes on
abbrev pub refusal_by : Option (List ℕ) → ℕ → ℕ → Option (List ℕ) → Tag → Option Tag
refusal_by None issuer session named other = issuer_refusal issuer session named other
refusal_by (Some token) issuer session named other = token_refusal token named

module _ {Before : Type 0} where
  -- why a commit that names this token doesn't fit what is pending. Where nothing is, it must name none
  -- (this project's own)
  abbrev pub commit_refusal : Option (PendingState Before) → ℕ → Option (List ℕ) → Option Tag
  commit_refusal None session None = None
  commit_refusal None session (Some named) = Some InvalidValue
  commit_refusal (Some pending) session named = refusal_by pending.token pending.issuer session named InUse

  -- why a cancel that names this token doesn't fit what is pending (RFC 6241 section 8.4.4.1; the tag where nothing is
  -- pending and that for another than the issuer are this project's own)
  abbrev pub cancel_refusal : Option (PendingState Before) → ℕ → Option (List ℕ) → Option Tag
  cancel_refusal None session None = Some OperationFailed
  cancel_refusal None session (Some named) = Some InvalidValue
  cancel_refusal (Some pending) session named = refusal_by pending.token pending.issuer session named OperationFailed

  -- ---- the same in other words

  -- the token is named that is pending, none where there is none, and without one the asker is the issuer
  abbrev pub GoesOn : PendingState Before → ℕ → Option (List ℕ) → Type 0
  GoesOn pending session named = (named ≡ pending.token) × (pending.token ≡ None → pending.issuer ≡ session)

  -- a commit may go on with what is pending, and begin where nothing is and none is named
  abbrev pub MayCommit : Option (PendingState Before) → ℕ → Option (List ℕ) → Type 0
  MayCommit None session named = named ≡ None
  MayCommit (Some pending) session named = GoesOn pending session named

  -- a cancel wants something that is pending
  abbrev pub MayCancel : Option (PendingState Before) → ℕ → Option (List ℕ) → Type 0
  MayCancel None session named = ⊥
  MayCancel (Some pending) session named = GoesOn pending session named

  -- what is pending has no token, none is named, and another session is the issuer
  abbrev pub IsAnothers : Option (PendingState Before) → ℕ → Option (List ℕ) → Type 0
  IsAnothers None session named = ⊥
  IsAnothers (Some pending) session named = (pending.token ≡ None) × (named ≡ None) × (pending.issuer ≢ session)

  -- the same, or nothing is pending and none is named
  abbrev pub IsNotToCancel : Option (PendingState Before) → ℕ → Option (List ℕ) → Type 0
  IsNotToCancel None session named = named ≡ None
  IsNotToCancel (Some pending) session named = IsAnothers (Some pending) session named
