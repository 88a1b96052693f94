-- A commit (RFC 6241 sections 8.3.4.1 and 8.4): its tests in order, and what it does.
use Rattle.std.specs.Prelude.{ℕ, ◌==◌, List, Bool, true, false, not, ◌&&◌, ◌||◌, Option, Some, None, if◌then◌else◌}
use Rattle.nm_base.specs.declared.tag.Tag.{Tag}
use Rattle.nm_base.specs.declared.tag.Tag.TheVariants.{InUse, InvalidValue, AccessDenied}
use Rattle.nm_base.specs.Token.{is_reserved}
use Rattle.nm_proto.specs.declared.message.Store.TheVariants.{Running, Candidate}
use Rattle.nm_proto.specs.Content.{Meaning, Refusal}
use Rattle.nm_sessions.specs.Sessions.{user_of}
use Rattle.nm_partial.specs.Partial.{guards, forgotten}
use Rattle.nm_stores.specs.Stores.{candidate_of, committed}
use Rattle.nm_pending.specs.Pending.{PendingState, begun, followed, deadline_of}
use Rattle.nm_pending.specs.Fits.{commit_refusal as pending_refusal}
use Rattle.nm_device.specs.Device.{DeviceState, Stepped, done, refuse, refuse_at, is_manager, is_held_by_other}

-- what a commit asks: whether it waits to be confirmed, how long in seconds, the token that it gives and the one that it
-- names
pub record CommitForm : Type 0 where
  pub confirmed : Bool
  pub timeout : Option ℕ
  pub persist : Option (List ℕ)
  pub persist_id : Option (List ℕ)

-- a token that only the manager may use
abbrev pub names_reserved : Option (List ℕ) → Bool
names_reserved None = false
names_reserved (Some token) = is_reserved token

-- the time to wait is 0 seconds
abbrev pub is_zero : Option ℕ → Bool
is_zero None = false
is_zero (Some seconds) = seconds == 0

-- the first refusal, else the second
abbrev pub or_else : Option Tag → Option Tag → Option Tag
or_else (Some tag) other = Some tag
or_else None other = other

-- one test of several: the tag where it finds something
abbrev pub refused_if : Bool → Tag → Option Tag
refused_if refused tag = if refused then Some tag else None

module _ {Config Node : Type 0} where
  -- another session holds one of the global locks (RFC 6241 section 8.3.4.1)
  abbrev pub is_locked_out : DeviceState Config Node → ℕ → Bool
  is_locked_out s session = is_held_by_other s Running session || is_held_by_other s Candidate session

  -- the tests before those of candidate, in order. A reserved token is the manager's alone (this project's own). A
  -- confirmed commit waits at least a second. What is pending must fit. No other session holds a lock
  abbrev pub commit_refusal : DeviceState Config Node → ℕ → CommitForm → Option Tag
  commit_refusal s session form =
      or_else (refused_if ((names_reserved form.persist || names_reserved form.persist_id) && not (is_manager (user_of s.sessions session))) AccessDenied)
      (or_else (refused_if (form.confirmed && is_zero form.timeout) InvalidValue)
      (or_else (pending_refusal s.pending session form.persist_id)
      (refused_if (is_locked_out s session) InUse)))

  -- what is pending after a commit, with this deadline where it is confirmed. One that isn't ends what is pending, and
  -- running stays. One that is begins or goes on, and then keeps what was before (RFC 6241 section 8.4.1)
  abbrev pub pending_after : DeviceState Config Node → ℕ → Bool → Option (List ℕ) → ℕ → Option (PendingState Config) → Option (PendingState Config)
  pending_after s session false persist deadline pending = None
  pending_after s session true persist deadline None = Some (begun s.stores.running session persist deadline)
  pending_after s session true persist deadline (Some p) = Some (followed p session persist deadline)

module _ {Config TheEdit Node : Type 0} (m : Meaning Config TheEdit Node) where
  -- the tests of a modified candidate that come before its validity, in order. No part that another session has locked
  -- changes (RFC 5717 section 2.5). Only the manager changes the marks of change sets (this project's own)
  abbrev pub candidate_refusal : DeviceState Config Node → ℕ → Option Config → Option Tag
  candidate_refusal s session None = None
  candidate_refusal s session (Some candidate) =
      or_else (refused_if (guards m s.partials session s.stores.running candidate) InUse)
      (refused_if (not (is_manager (user_of s.sessions session)) && not (m.same_marks s.stores.running candidate)) AccessDenied)

  -- all tests that answer a tag alone, in order
  abbrev pub commit_tag : DeviceState Config Node → ℕ → CommitForm → Option Tag
  commit_tag s session form = or_else (commit_refusal s session form) (candidate_refusal s session s.stores.candidate)

  -- the first violation of a modified candidate. Running is valid
  abbrev pub violation_of : Option Config → Option Refusal
  violation_of None = None
  violation_of (Some candidate) = m.violation candidate

  -- candidate becomes running, and a pending commit begins, goes on or ends (RFC 6241 sections 8.3.4.1 and 8.4.1). Locked
  -- nodes that are gone then leave their locks (this project's own)
  abbrev pub commit_done : DeviceState Config Node → ℕ → Bool → Option (List ℕ) → ℕ → Stepped Config Node
  commit_done s session confirmed persist deadline = done (record s {
    stores = committed s.stores;
    partials = forgotten m (candidate_of s.stores) s.partials;
    pending = pending_after s session confirmed persist deadline s.pending;
  })

  -- a candidate that isn't valid isn't committed
  abbrev pub commit_unless : DeviceState Config Node → ℕ → Option Refusal → Bool → Option (List ℕ) → ℕ → Stepped Config Node
  commit_unless s session (Some refusal) confirmed persist deadline = refuse_at s refusal
  commit_unless s session None confirmed persist deadline = commit_done s session confirmed persist deadline

  -- a commit whose tests have told their tag, or none: then candidate has to be valid
  abbrev pub commit_from : DeviceState Config Node → ℕ → Option Tag → Bool → Option (List ℕ) → ℕ → Stepped Config Node
  commit_from s session (Some tag) confirmed persist deadline = refuse s tag
  commit_from s session None confirmed persist deadline = commit_unless s session (violation_of s.stores.candidate) confirmed persist deadline

  -- what a commit of a session does: the tests of locks and tokens come before that of candidate (RFC 6241 sections 8.3.4.1 and 8.4.5)
  abbrev pub commit_by : DeviceState Config Node → ℕ → CommitForm → Stepped Config Node
  commit_by s session form = commit_from s session (commit_tag s session form) form.confirmed form.persist (deadline_of s.clock form.timeout)
