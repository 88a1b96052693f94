-- A device as a plain value, and what a request answers and leaves (RFC 6241 sections 7 and 8). The code keeps slabs,
-- and moves configurations.
use Rattle.std.specs.Prelude.{◌≡◌, ◌≤◌, ◌^◌, ℕ, List, Bool, true, false, not, ◌&&◌, Option, Some, None, IfSome, is_some, Result, Ok, Err}
use Rattle.std.specs.List.{All}
use Rattle.std.specs.Str.{bytes_eq}
use Rattle.nm_base.specs.declared.fault.NoMemory.{NoMemory}
use Rattle.nm_base.specs.Words.{manager}
use Rattle.nm_base.specs.declared.tag.Tag.{Tag}
use Rattle.nm_base.specs.declared.tag.Tag.TheVariants.{InUse, InvalidValue, LockDenied, AccessDenied, DataExists, DataMissing, OperationFailed, ResourceDenied, UnknownElement, BadAttribute, MissingElement}
use Rattle.nm_proto.specs.declared.message.Store.{Store}
use Rattle.nm_proto.specs.declared.message.Store.TheVariants.{Running}
use Rattle.nm_proto.specs.declared.message.Reply.{Reply}
use Rattle.nm_proto.specs.declared.message.Reply.TheVariants.{Done, Error}
use Rattle.nm_proto.specs.Content.{Meaning, Refusal}
use Rattle.nm_sessions.specs.Sessions.{SessionsState, no_sessions}
use Rattle.nm_locks.specs.Locks.{LocksState, no_locks, owner_of, is_other_owner}
use Rattle.nm_partial.specs.Partial.{PartialState, PartialLock, no_partials}
use Rattle.nm_stores.specs.Stores.{StoresState, fresh_stores, Belong}
use Rattle.nm_pending.specs.Pending.{PendingState, is_author}

-- a device: its datastores (RFC 8342 section 5), its open sessions, the owners of its global locks, its partial locks
-- (RFC 5717), its pending confirmed commit with the whole configuration from before it, and its clock in seconds
pub record DeviceState (Config Node : Type 0) : Type 0 where
  pub stores : StoresState Config
  pub sessions : SessionsState
  pub locks : LocksState
  pub partials : PartialState Node
  pub pending : Option (PendingState Config)
  pub clock : ℕ

-- a device that has a running configuration and nothing else
abbrev pub fresh_device : {Config Node : Type 0} → Config → DeviceState Config Node
fresh_device running = record { stores = fresh_stores running; sessions = no_sessions; locks = no_locks; partials = no_partials; pending = None; clock = 0 }

-- a clock that is far from the end of its range, so that deadlines fit: at most 2 ^ 62 seconds (this project's own)
unfoldable pub IsInTime : ℕ → Type 0
IsInTime clock = clock ≤ 2 ^ 62

-- what a request answers and leaves
pub record Stepped (Config Node : Type 0) : Type 0 where
  pub reply : Reply
  pub after : DeviceState Config Node

module _ {Config Node : Type 0} where
  -- a reply, and the device after it
  abbrev pub answer : Reply → DeviceState Config Node → Stepped Config Node
  answer reply after = record { reply = reply; after = after }

  -- the request is done, and has nothing to tell
  abbrev pub done : DeviceState Config Node → Stepped Config Node
  done after = answer Done after

  -- a refusal leaves the device as it was
  abbrev pub refuse : DeviceState Config Node → Tag → Stepped Config Node
  refuse s tag = answer (Error tag None None) s

  -- a lock is denied, and its holder named, 0 where that is no session (RFC 6241 section 7.5)
  abbrev pub deny_lock : DeviceState Config Node → ℕ → Stepped Config Node
  deny_lock s holder = answer (Error LockDenied (Some holder) None) s

-- the path of a refusal: none goes with resource-denied (this project's own)
abbrev pub path_of : Tag → List ℕ → Option (List ℕ)
path_of InUse path = Some path
path_of InvalidValue path = Some path
path_of LockDenied path = Some path
path_of AccessDenied path = Some path
path_of DataExists path = Some path
path_of DataMissing path = Some path
path_of OperationFailed path = Some path
path_of ResourceDenied path = None
path_of UnknownElement path = Some path
path_of BadAttribute path = Some path
path_of MissingElement path = Some path

-- the user of the manager, whose edits alone may say which marks come and go (this project's own)
abbrev pub is_manager : Option (List ℕ) → Bool
is_manager None = false
is_manager (Some user) = bytes_eq user manager

module _ {Config Node : Type 0} where
  -- content says no, at a path (RFC 6241 section 4.3)
  abbrev pub refuse_at : DeviceState Config Node → Refusal → Stepped Config Node
  refuse_at s refusal = answer (Error refusal.tag None (path_of refusal.tag refusal.path)) s

  -- another session than the asker holds the lock of a datastore
  abbrev pub is_held_by_other : DeviceState Config Node → Store → ℕ → Bool
  is_held_by_other s store session = is_other_owner (owner_of s.locks store) session

  -- a commit was pending, and none is any more
  abbrev pub is_dropped : DeviceState Config Node → DeviceState Config Node → Bool
  is_dropped old new = is_some old.pending && not (is_some new.pending)

  -- the device with other datastores
  abbrev pub with_stores : DeviceState Config Node → StoresState Config → DeviceState Config Node
  with_stores s stores = record s { stores = stores }

  -- a call that does a request: it answers the reply and leaves the state after it. Where there is no memory, nothing
  -- changes
  abbrev pub Does : Result Reply NoMemory → DeviceState Config Node → DeviceState Config Node → Stepped Config Node → Type 0
  Does (Ok reply) old new stepped = (reply ≡ stepped.reply) × (new ≡ stepped.after)
  Does (Err fault) old new stepped = new ≡ old

  -- the same of a call that takes no memory
  pub record Answers (reply : Reply) (new : DeviceState Config Node) (stepped : Stepped Config Node) : Type 0 where
    pub reply_is : reply ≡ stepped.reply
    pub after_is : new ≡ stepped.after

module _ {Config TheEdit Node : Type 0} (m : Meaning Config TheEdit Node) where
  -- while a commit is pending, nobody but its authors holds the lock of running, and what anybody else has locked is in
  -- running as it was before (this project's own, over RFC 6241 section 8.4 and RFC 5717 section 2.5)
  pub record GuardedBy (running : Config) (holding : Option ℕ) (locks : List (PartialLock Node)) (p : PendingState Config) : Type 0 where
    pub lock : (holder : ℕ) → holding ≡ Some holder → is_author p holder ≡ true
    pub parts : All (λ lock. is_author p lock.session ≡ false → All (λ node. m.part p.before node ≡ m.part running node) lock.nodes) locks

  -- what is pending is guarded, where anything is
  abbrev pub IsGuarded : DeviceState Config Node → Type 0
  IsGuarded s = IfSome s.pending (GuardedBy s.stores.running (owner_of s.locks Running) s.partials.locks)

  -- running is valid, and would be where the pending commit is undone, and that commit is guarded
  pub record AreSteady (running : Config) (pending : Option (PendingState Config)) (holding : Option ℕ) (locks : List (PartialLock Node)) : Type 0 where
    pub valid : m.violation running ≡ None
    pub before_valid : IfSome pending (λ p. m.violation p.before ≡ None)
    pub guarded : IfSome pending (GuardedBy running holding locks)

  -- the same of a device
  abbrev pub IsSteady : DeviceState Config Node → Type 0
  IsSteady s = AreSteady s.stores.running s.pending (owner_of s.locks Running) s.partials.locks

  -- the configurations of a device belong to the content
  pub record AllBelong (stores : StoresState Config) (pending : Option (PendingState Config)) : Type 0 where
    pub stores_belong : Belong m stores
    pub before_belongs : IfSome pending (λ p. m.belongs p.before)

  -- a device with which a content may go on
  pub record IsSound (s : DeviceState Config Node) : Type 0 where
    pub belong : AllBelong s.stores s.pending
    pub steady : IsSteady s
