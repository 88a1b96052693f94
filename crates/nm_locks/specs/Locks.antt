-- The global locks of a device (RFC 6241 section 7.5): one for running, and one for candidate. Where the code changes
-- one lock in place, these are functions of both.
use Rattle.std.specs.Prelude.{ℕ, ◌==◌, Bool, false, not, Option, Some, None, if◌then◌else◌}
use Rattle.nm_proto.specs.declared.message.Store.{Store}
use Rattle.nm_proto.specs.declared.message.Store.TheVariants.{Running, Candidate}

-- the sessions that own the locks of the two datastores, None where nobody does (RFC 6241 section 7.5)
pub record LocksState : Type 0 where
  pub running : Option ℕ
  pub candidate : Option ℕ

-- nobody owns a lock (this project's own)
abbrev pub no_locks : LocksState
no_locks = record { running = None; candidate = None }

-- the session that owns the lock of a datastore
abbrev pub owner_of : LocksState → Store → Option ℕ
owner_of locks Running = locks.running
owner_of locks Candidate = locks.candidate

-- the locks where that of one datastore has this owner
abbrev pub with_owner : LocksState → Store → Option ℕ → LocksState
with_owner locks Running owner = record locks { running = owner }
with_owner locks Candidate owner = record locks { candidate = owner }

-- the owner after a session asked for a lock: who holds it keeps it, the asker included (RFC 6241 section 7.5)
abbrev pub taken : Option ℕ → ℕ → Option ℕ
taken None session = Some session
taken (Some holder) session = Some holder

-- the session is the owner
abbrev pub is_owner : Option ℕ → ℕ → Bool
is_owner None session = false
is_owner (Some owner) session = owner == session

-- somebody else is the owner
abbrev pub is_other_owner : Option ℕ → ℕ → Bool
is_other_owner None session = false
is_other_owner (Some owner) session = not (owner == session)

-- the owner after a session gave a lock back: only the owner can (RFC 6241 section 7.6)
abbrev pub given_back : Option ℕ → ℕ → Option ℕ
given_back owner session = if is_owner owner session then None else owner

-- the locks after the end of a session: its locks go with it (RFC 6241 section 7.5)
abbrev pub without_session : LocksState → ℕ → LocksState
without_session locks session = record { running = given_back locks.running session; candidate = given_back locks.candidate session }
