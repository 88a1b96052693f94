-- Locks of parts of running (RFC 5717 section 2.4): their tests in order, and what they do.
use Rattle.std.specs.Prelude.{ℕ, ◌==◌, List, [], ◌∷◌, filter, length, Option, Some, None, if◌then◌else◌}
use Rattle.nm_base.specs.declared.tag.Tag.TheVariants.{InvalidValue, OperationFailed, ResourceDenied}
use Rattle.nm_proto.specs.declared.message.Store.TheVariants.{Running}
use Rattle.nm_proto.specs.declared.message.Reply.TheVariants.{LockId}
use Rattle.nm_proto.specs.Content.{Meaning}
use Rattle.nm_locks.specs.Locks.{owner_of}
use Rattle.nm_partial.specs.Partial.{next_id, granted, holds, released, overlap_with}
use Rattle.nm_pending.specs.Pending.{is_stranger}
use Rattle.nm_device.specs.Device.{DeviceState, Stepped, answer, done, refuse, deny_lock}

-- a node and others, where all are there
abbrev pub joined : {Node : Type 0} → Option Node → Option (List Node) → Option (List Node)
joined None nodes = None
joined (Some node) None = None
joined (Some node) (Some nodes) = Some (node ∷ nodes)

module _ {Config Node : Type 0} where
  -- a session locks these nodes, unless one of them overlaps what another has locked, or no lock is left
  -- (RFC 5717 section 2.4.1; how many locks there are is this project's own)
  abbrev pub part_granted : DeviceState Config Node → ℕ → List Node → Option ℕ → Option ℕ → Stepped Config Node
  part_granted s session nodes (Some owner) id = deny_lock s owner
  part_granted s session nodes None None = refuse s ResourceDenied
  part_granted s session nodes None (Some id) = answer (LockId id) (record s { partials = granted s.partials session nodes })

  -- only who holds a partial lock gives it back (RFC 5717 section 2.4.2)
  abbrev pub part_unlocked : DeviceState Config Node → ℕ → ℕ → Stepped Config Node
  part_unlocked s session id = if holds s.partials session id then done (record s { partials = released s.partials session id }) else refuse s InvalidValue

module _ {Config TheEdit Node : Type 0} (m : Meaning Config TheEdit Node) where
  -- the nodes that texts name, None where one of them names none
  abbrev pub nodes_named : List (List ℕ) → Option (List Node)
  nodes_named [] = Some []
  nodes_named (text ∷ texts) = joined (m.found text) (nodes_named texts)

  -- nodes that exist are locked, where there are any (RFC 5717 section 2.4.1)
  abbrev pub existing_locked : DeviceState Config Node → ℕ → List Node → Stepped Config Node
  existing_locked s session nodes =
      if length nodes == 0 then refuse s OperationFailed
      else part_granted s session nodes (overlap_with m s.partials session nodes) (next_id s.partials)

  -- no part of running is locked while anybody holds its lock (RFC 5717 section 2.4.1), or while a commit is pending of
  -- which the asker is no author (this project's own). Of the nodes only those that exist count (this project's own)
  abbrev pub nodes_locked : DeviceState Config Node → ℕ → List Node → Option ℕ → Stepped Config Node
  nodes_locked s session nodes (Some holder) = deny_lock s holder
  nodes_locked s session nodes None =
      if is_stranger s.pending session then deny_lock s 0 else existing_locked s session (filter (m.exists s.stores.running) nodes)

  -- each text must name a node (RFC 5717 section 2.4.1)
  abbrev pub named_locked : DeviceState Config Node → ℕ → Option (List Node) → Stepped Config Node
  named_locked s session None = refuse s InvalidValue
  named_locked s session (Some nodes) = nodes_locked s session nodes (owner_of s.locks Running)

  -- a selection of a number that the tables lack is refused (this project's own)
  abbrev pub part_locked : DeviceState Config Node → ℕ → Option (List (List ℕ)) → Stepped Config Node
  part_locked s session None = refuse s OperationFailed
  part_locked s session (Some texts) = named_locked s session (nodes_named texts)
