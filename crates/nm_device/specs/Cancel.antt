-- A cancel of the pending commit (RFC 6241 section 8.4.4.1), and the kill of a session (RFC 6241 section 7.9): their
-- tests in order, and what they do.
use Rattle.std.specs.Prelude.{ℕ, ◌==◌, List, Bool, false, not, ◌&&◌, Option, Some, None, if◌then◌else◌}
use Rattle.nm_base.specs.declared.tag.Tag.{Tag}
use Rattle.nm_base.specs.declared.tag.Tag.TheVariants.{InUse, InvalidValue, AccessDenied}
use Rattle.nm_proto.specs.Content.{Meaning}
use Rattle.nm_sessions.specs.Sessions.{user_of, is_open}
use Rattle.nm_partial.specs.Partial.{guards}
use Rattle.nm_pending.specs.Pending.{PendingState}
use Rattle.nm_pending.specs.Fits.{cancel_refusal as misfit}
use Rattle.nm_device.specs.Device.{DeviceState, Stepped, done, refuse, is_manager}
use Rattle.nm_device.specs.Commit.{names_reserved, or_else, refused_if, is_locked_out}
use Rattle.nm_device.specs.Undoing.{undone, ended}

module _ {Config TheEdit Node : Type 0} (m : Meaning Config TheEdit Node) where
  -- another session has a part locked that an undoing would change (RFC 5717 section 2.5)
  abbrev pub is_kept_from_undoing : DeviceState Config Node → ℕ → Option (PendingState Config) → Bool
  is_kept_from_undoing s session None = false
  is_kept_from_undoing s session (Some p) = guards m s.partials session s.stores.running p.before

  -- a reserved token is the manager's alone (this project's own). What is pending must fit. No other session holds a
  -- global lock, or a part that would change (this project's own)
  abbrev pub cancel_tag : DeviceState Config Node → ℕ → Option (List ℕ) → Option Tag
  cancel_tag s session named =
      or_else (refused_if (names_reserved named && not (is_manager (user_of s.sessions session))) AccessDenied)
      (or_else (misfit s.pending session named)
      (or_else (refused_if (is_locked_out s session) InUse)
      (refused_if (is_kept_from_undoing s session s.pending) InUse)))

  -- a cancel that isn't refused undoes what is pending (RFC 6241 section 8.4.4.1)
  abbrev pub cancel_from : DeviceState Config Node → Option Tag → Stepped Config Node
  cancel_from s (Some tag) = refuse s tag
  cancel_from s None = done (undone m s)

  -- what a cancel of a session does, and which token it names (RFC 6241 section 8.4.4.1)
  abbrev pub cancel_by : DeviceState Config Node → ℕ → Option (List ℕ) → Stepped Config Node
  cancel_by s session named = cancel_from s (cancel_tag s session named)

  -- a session that is open ends, but for the asker's own (RFC 6241 section 7.9)
  abbrev pub kill_by : DeviceState Config Node → ℕ → ℕ → Stepped Config Node
  kill_by s session other =
      if other == session then refuse s InvalidValue
      else if is_open s.sessions other then done (ended m s other)
      else refuse s InvalidValue
