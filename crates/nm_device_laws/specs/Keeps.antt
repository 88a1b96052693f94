-- What a device keeps for a session while others act (RFC 6241 section 7.5): another's request, another's end, a timer,
-- a restart, an opening.
use Rattle.std.specs.Prelude.{◌≡◌, ℕ, ◌≤◌, ◌==◌, [], Bool, true, false, not, Some, None, IfSome}
use Rattle.nm_proto.specs.declared.message.Store.{Store}
use Rattle.nm_proto.specs.declared.message.Store.TheVariants.{Running, Candidate}
use Rattle.nm_proto.specs.Content.{Meaning}
use Rattle.nm_sessions.specs.Sessions.{is_open, user_of}
use Rattle.nm_locks.specs.Locks.{owner_of}
use Rattle.nm_pending.specs.Pending.{is_stranger}
use Rattle.nm_device.specs.Device.{DeviceState, is_manager}
use Rattle.nm_history.specs.declared.event.DeviceEvent.{DeviceEvent}
use Rattle.nm_history.specs.declared.event.DeviceEvent.TheVariants.{Asked}
use Rattle.nm_device_laws.specs.Numbered.{has_author}

-- the session asks for what happens
abbrev pub is_asker : DeviceEvent → ℕ → Bool
is_asker (Asked session request) t = session == t
is_asker _ t = false

module _ {Config Node : Type 0} where
  -- what is kept for a session that is open still
  pub record KeepsOpen (t : ℕ) (s now : DeviceState Config Node) : Type 0 where
    -- it was open, with the same user
    pub user : t ≤ s.sessions.last → user_of now.sessions t ≡ user_of s.sessions t
    -- its global locks are its own still
    pub owner : (store : Store) → owner_of s.locks store ≡ Some t → owner_of now.locks store ≡ Some t
    -- under its lock of running nobody else begins a commit, where none is pending, changes running then, or locks a part
    pub free : owner_of s.locks Running ≡ Some t → s.pending ≡ None → now.pending ≡ None
    pub running : owner_of s.locks Running ≡ Some t → s.pending ≡ None → now.stores.running ≡ s.stores.running
    pub whole : owner_of s.locks Running ≡ Some t → s.partials.locks ≡ [] → now.partials.locks ≡ []
    -- under its lock of candidate nobody else changes candidate
    pub candidate : owner_of s.locks Candidate ≡ Some t → now.stores.candidate ≡ s.stores.candidate

  -- what is kept for a session that doesn't ask: all that, where it is open still, and it commits nothing
  pub record KeepsFor (t : ℕ) (s now : DeviceState Config Node) : Type 0 where
    pub kept : is_open now.sessions t ≡ true → KeepsOpen t s now
    pub author : has_author now.pending t ≡ true → has_author s.pending t ≡ true

  -- who asks may take a lock of running or of its parts: nothing is pending, or it committed under what is
  abbrev pub may_take : DeviceState Config Node → DeviceEvent → Bool
  may_take s (Asked session request) = not (is_stranger s.pending session)
  may_take s _ = false

  -- who takes no part in what is pending is kept out while it is: it gets neither the lock of running nor one of a part
  -- (RFC 6241 section 7.5; of the parts this project's own)
  pub record KeepsOut (s now : DeviceState Config Node) : Type 0 where
    pub lock : (owner : ℕ) → owner_of now.locks Running ≡ Some owner → owner_of s.locks Running ≡ Some owner
    pub whole : s.partials.locks ≡ [] → now.partials.locks ≡ []

module _ {Config TheEdit Node : Type 0} (m : Meaning Config TheEdit Node) where
  -- what is pending has changed no mark
  abbrev pub IsUnmarked : DeviceState Config Node → Type 0
  IsUnmarked s = IfSome s.pending (λ p. m.same_marks p.before s.stores.running ≡ true)

  -- where what is pending has changed no mark, nothing does
  pub record KeepsMarks (s now : DeviceState Config Node) : Type 0 where
    pub unmarked : IsUnmarked now
    pub running : m.same_marks s.stores.running now.stores.running ≡ true

module _ {Config Node : Type 0} where
  -- the manager asks for what happens
  abbrev pub is_managed : DeviceState Config Node → DeviceEvent → Bool
  is_managed s (Asked session request) = is_manager (user_of s.sessions session)
  is_managed s _ = false
