-- Sessions are counted up at a device, and nothing there is anybody's who never had one (RFC 6241 section 8.1).
use Rattle.std.specs.Prelude.{◌≡◌, ℕ, ◌≤◌, Bool, true, false, Option, Some, None}
use Rattle.nm_proto.specs.declared.message.Store.{Store}
use Rattle.nm_sessions.specs.Sessions.{is_open}
use Rattle.nm_locks.specs.Locks.{owner_of}
use Rattle.nm_pending.specs.Pending.{PendingState, is_author}
use Rattle.nm_device.specs.Device.{DeviceState}

-- the session committed under what is pending
abbrev pub has_author : {Config : Type 0} → Option (PendingState Config) → ℕ → Bool
has_author None session = false
has_author (Some p) session = is_author p session

-- no session is above the last one that was opened, who owns a global lock is open, and who committed under what is
-- pending was open once
pub record IsNumbered {Config Node : Type 0} (s : DeviceState Config Node) : Type 0 where
  pub opened : (session : ℕ) → is_open s.sessions session ≡ true → session ≤ s.sessions.last
  pub owners : (store : Store) (owner : ℕ) → owner_of s.locks store ≡ Some owner → is_open s.sessions owner ≡ true
  pub authors : (author : ℕ) → has_author s.pending author ≡ true → author ≤ s.sessions.last
