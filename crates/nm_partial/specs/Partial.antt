-- The partial locks of a device (RFC 5717 section 2.4): which session holds which nodes. The code changes its locks in
-- place; these are plain lists, in the order of the lock-ids.
use Rattle.std.specs.Prelude.{◌≡◌, ◌≢◌, ℕ, ◌+◌, ◌-◌, ◌^◌, ◌≤◌, ◌<◌, ◌==◌, Bool, true, not, ◌&&◌, ◌||◌, nat_le, List, [], ◌∷◌, ◌++◌, length, map, filter, find, Option, Some, None, Result, Ok, Err, if◌then◌else◌}
use Rattle.std.specs.List.{list_any, All, AllPairs}
use Rattle.std.specs.Option.{option_map}
use Rattle.nm_proto.specs.Content.{Meaning}
use Rattle.nm_partial.specs.declared.fault.GrantFault.{GrantFault}
use Rattle.nm_partial.specs.declared.fault.GrantFault.TheVariants as grant

-- a partial lock: its id, the session that holds it, and the nodes that it keeps, each with all below it
-- (RFC 5717 section 2.4.1)
pub record PartialLock (Node : Type 0) : Type 0 where
  pub id : ℕ
  pub session : ℕ
  pub nodes : List Node

-- the partial locks that stand, in ascending order of their ids, and the last id given, 0 before the first
-- (this project's own)
pub record PartialState (Node : Type 0) : Type 0 where
  pub locks : List (PartialLock Node)
  pub last : ℕ

-- how many partial locks may stand at once (this project's own)
abbrev pub lock_limit : ℕ
lock_limit = 64

-- the greatest lock-id: ids are numbers of 32 bits (this project's own)
abbrev pub greatest_id : ℕ
greatest_id = 2 ^ 32 - 1

-- the id of the next partial lock, one above the last. None where as many stand as may be, or the greatest id was given
-- (this project's own)
abbrev pub id_after : ℕ → ℕ → Option ℕ
id_after count last = if nat_le lock_limit count || last == greatest_id then None else Some (last + 1)

module _ {Node : Type 0} where
  -- no partial lock was granted yet
  abbrev pub no_partials : PartialState Node
  no_partials = record { locks = []; last = 0 }

  -- the id of the next partial lock (RFC 5717 section 2.1.3). None where as many are held as may be, or the greatest id was given
  abbrev pub next_id : PartialState Node → Option ℕ
  next_id partials = id_after (length partials.locks) partials.last

  -- a session gets a partial lock over nodes, under the next id (RFC 5717 section 2.4.1)
  abbrev pub granted : PartialState Node → ℕ → List Node → PartialState Node
  granted partials session nodes = record {
    locks = partials.locks ++ record { id = partials.last + 1; session = session; nodes = nodes } ∷ [];
    last = partials.last + 1;
  }

  -- the lock is a session's
  abbrev pub is_of : ℕ → PartialLock Node → Bool
  is_of session lock = lock.session == session

  -- the lock is a session's, and has this id
  abbrev pub is_held_as : ℕ → ℕ → PartialLock Node → Bool
  is_held_as session id lock = is_of session lock && lock.id == id

  -- the session holds a partial lock of this id
  abbrev pub holds : PartialState Node → ℕ → ℕ → Bool
  holds partials session id = list_any (is_held_as session id) partials.locks

  -- a session gives a partial lock back: only who holds it can (RFC 5717 section 2.4.2)
  abbrev pub released : PartialState Node → ℕ → ℕ → PartialState Node
  released partials session id = record partials { locks = filter (λ lock. not (is_held_as session id lock)) partials.locks }

  -- a session ends, and its partial locks go with it (RFC 5717 section 2.1)
  abbrev pub without_session : PartialState Node → ℕ → PartialState Node
  without_session partials session = record partials { locks = filter (λ lock. not (is_of session lock)) partials.locks }

  -- all partial locks go, and the last id given stays (this project's own)
  abbrev pub cleared : PartialState Node → PartialState Node
  cleared partials = record partials { locks = [] }

  -- the session that holds the first lock of a list
  abbrev pub first_owner : List (PartialLock Node) → Option ℕ
  first_owner [] = None
  first_owner (lock ∷ locks) = Some lock.session

  -- the session that holds the partial lock of the least id, None where none stands (this project's own)
  abbrev pub least_owner : PartialState Node → Option ℕ
  least_owner partials = first_owner partials.locks

module _ {Config TheEdit Node : Type 0} (m : Meaning Config TheEdit Node) where
  -- one of the nodes overlaps a locked one
  abbrev pub overlaps_any : List Node → Node → Bool
  overlaps_any nodes locked = list_any (m.overlaps locked) nodes

  -- the lock is another session's, and one of the nodes overlaps one of its own
  abbrev pub denies : ℕ → List Node → PartialLock Node → Bool
  denies session nodes lock = not (is_of session lock) && list_any (overlaps_any nodes) lock.nodes

  -- the session whose partial lock keeps another from locking the nodes: that of the least id, where there are several
  -- (RFC 5717 section 2.4.1; which of them is this project's own)
  abbrev pub overlap_with : PartialState Node → ℕ → List Node → Option ℕ
  overlap_with partials session nodes = option_map (λ lock. lock.session) (find (denies session nodes) partials.locks)

  -- two configurations differ at or below a node
  abbrev pub differs_at : Config → Config → Node → Bool
  differs_at old new node = not (m.same_at old new node)

  -- the lock is another session's, and the configurations differ at or below a node of it
  abbrev pub forbids : ℕ → Config → Config → PartialLock Node → Bool
  forbids session old new lock = not (is_of session lock) && list_any (differs_at old new) lock.nodes

  -- a session may not turn one configuration into the other: a partial lock of another session keeps a part in which
  -- they differ (RFC 5717 section 2.5)
  abbrev pub guards : PartialState Node → ℕ → Config → Config → Bool
  guards partials session old new = list_any (forbids session old new) partials.locks

  -- a lock without the nodes that a configuration lacks. The lock itself stands, also where no node is left
  -- (this project's own)
  abbrev pub without_absent : Config → PartialLock Node → PartialLock Node
  without_absent config lock = record lock { nodes = filter (m.exists config) lock.nodes }

  -- locked nodes that a configuration lacks leave their locks (this project's own)
  abbrev pub forgotten : Config → PartialState Node → PartialState Node
  forgotten config partials = record partials { locks = map (without_absent config) partials.locks }

  -- two configurations have equal parts at each node that another session has locked (this project's own)
  abbrev pub KeepsOthers : PartialState Node → ℕ → Config → Config → Type 0
  KeepsOthers partials session old new =
      All (λ lock. lock.session ≢ session → All (λ node. m.part old node ≡ m.part new node) lock.nodes) partials.locks

  -- each locked node exists in a configuration (this project's own)
  abbrev pub AllExist : Config → PartialState Node → Type 0
  AllExist config partials = All (λ lock. All (λ node. m.exists config node ≡ true) lock.nodes) partials.locks

-- what is answered to who asks for a partial lock, where this session's lock overlaps and this is the next id: the id, or
-- who denies it, or that none is left. Want of memory says nothing
abbrev pub Grants : Result ℕ GrantFault → Option ℕ → Option ℕ → Type 0
Grants (Ok id) owner next = (owner ≡ None) × (next ≡ Some id)
Grants (Err (grant.Overlap who)) owner next = owner ≡ Some who
Grants (Err grant.Full) owner next = (owner ≡ None) × (next ≡ None)
Grants (Err grant.NoMemory) owner next = Unit {0}

-- what is true of the partial locks of every device (this project's own)
pub record IsNumbered {Node : Type 0} (partials : PartialState Node) : Type 0 where
  -- the ids ascend strictly, so no two locks have one
  pub ascending : AllPairs (λ one other. one.id < other.id) partials.locks
  -- and none is above the last id given
  pub given : All (λ lock. (1 ≤ lock.id) × (lock.id ≤ partials.last)) partials.locks
  pub few : length partials.locks ≤ lock_limit
