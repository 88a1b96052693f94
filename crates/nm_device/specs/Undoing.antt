-- Undoing of a pending confirmed commit (RFC 6241 section 8.4.1): running becomes what it was before the commit that
-- began it. The code moves the configuration that it kept.
use Rattle.std.specs.Prelude.{ℕ, ◌+◌, Bool, Option, Some, None, if◌then◌else◌}
use Rattle.nm_proto.specs.Content.{Meaning}
use Rattle.nm_sessions.specs.Sessions.{left, cleared}
use Rattle.nm_locks.specs.Locks.{no_locks, owner_of, is_owner, without_session}
use Rattle.nm_proto.specs.declared.message.Store.TheVariants.{Candidate}
use Rattle.nm_partial.specs.Partial.{forgotten, without_session as without_partials, cleared as no_more_partials}
use Rattle.nm_stores.specs.Stores.{StoresState, discarded}
use Rattle.nm_pending.specs.Pending.{PendingState, ends_with, ends_at}
use Rattle.nm_device.specs.Device.{DeviceState}

module _ {Config TheEdit Node : Type 0} (m : Meaning Config TheEdit Node) where
  -- running becomes what it was before, and nothing is pending any more. A modified candidate is left alone, and one that
  -- isn't follows running. Locked nodes that are gone then leave their locks (this project's own)
  abbrev pub undone_to : DeviceState Config Node → Config → DeviceState Config Node
  undone_to s before = record s { stores = record s.stores { running = before }; partials = forgotten m before s.partials; pending = None }

  -- the same of this pending commit, or of none
  abbrev pub undone_by : DeviceState Config Node → Option (PendingState Config) → DeviceState Config Node
  undone_by s None = s
  undone_by s (Some p) = undone_to s p.before

  -- what is pending is undone, where anything is
  abbrev pub undone : DeviceState Config Node → DeviceState Config Node
  undone s = undone_by s s.pending

  -- the same where a test says so
  abbrev pub undone_if : DeviceState Config Node → Bool → DeviceState Config Node
  undone_if s undoes = if undoes then undone s else s

module _ {Config : Type 0} where
  -- the stores after the end of a session: with its lock of candidate go the changes (RFC 6241 section 8.3.5.2)
  abbrev pub stores_left : StoresState Config → Bool → StoresState Config
  stores_left stores held = if held then discarded stores else stores

module _ {Config Node : Type 0} where
  -- a session goes, and its locks with it (RFC 6241 sections 7.5 and 7.8), the partial ones too (RFC 5717 section 2.1)
  abbrev pub left_by : DeviceState Config Node → ℕ → DeviceState Config Node
  left_by s session = record s {
    sessions = left s.sessions session;
    locks = without_session s.locks session;
    partials = without_partials s.partials session;
    stores = stores_left s.stores (is_owner (owner_of s.locks Candidate) session);
  }

  -- the clock rises by some seconds
  abbrev pub later : DeviceState Config Node → ℕ → DeviceState Config Node
  later s seconds = record s { clock = s.clock + seconds }

  -- all sessions and locks go, and all changes of candidate. The clock and the last ids given stay (this project's own)
  abbrev pub emptied : DeviceState Config Node → DeviceState Config Node
  emptied s = record s { sessions = cleared s.sessions; locks = no_locks; partials = no_more_partials s.partials; stores = discarded s.stores }

module _ {Config TheEdit Node : Type 0} (m : Meaning Config TheEdit Node) where
  -- a session ends by a close, a kill or a loss. A pending commit that has a token stays (RFC 6241 section 8.4.1; after a
  -- kill too, which is this project's own)
  abbrev pub ended : DeviceState Config Node → ℕ → DeviceState Config Node
  ended s session = undone_if m (left_by s session) (ends_with s.pending session)

  -- the clock rises, and a pending commit is undone at its deadline (RFC 6241 section 8.4.1)
  abbrev pub advanced : DeviceState Config Node → ℕ → DeviceState Config Node
  advanced s seconds = undone_if m (later s seconds) (ends_at s.pending (s.clock + seconds))

  -- the device restarts, and any pending commit is undone (RFC 6241 section 8.4.1)
  abbrev pub restarted : DeviceState Config Node → DeviceState Config Node
  restarted s = undone m (emptied s)
