-- Running changes only by one commit whole, or by the exact undoing of one that was pending (RFC 6241 sections 8.3 and
-- 8.4). The definition looks along the history and counts follow-ups; the code keeps one configuration.
use Rattle.std.specs.Prelude.{◌≡◌, List, [], ◌∷◌, Option, Some, None, unwrap_or}
use Rattle.nm_proto.specs.Content.{Meaning, TablesState}
use Rattle.nm_stores.specs.Stores.{candidate_of}
use Rattle.nm_pending.specs.Pending.{PendingState}
use Rattle.nm_device.specs.Device.{DeviceState}
use Rattle.nm_history.specs.declared.event.Noted.{Noted}
use Rattle.nm_history.specs.Effect.{Effect, noted_effect}
use Rattle.nm_history.specs.Effect.Effect.{Begins, Ends, Undoes, Neither}
use Rattle.nm_history.specs.History.{replayed}

module _ {Config : Type 0} where
  -- running just before the commit that began what is pending, after something of this effect: a confirmed commit begins
  -- with running where nothing is pending, and goes on otherwise
  abbrev pub began_after : Config → Option Config → Effect → Option Config
  began_after running began (Begins token) = Some (unwrap_or began running)
  began_after running began Ends = None
  began_after running began (Undoes by) = None
  began_after running began Neither = began

  -- that of a device
  abbrev pub began_of : Option (PendingState Config) → Option Config
  began_of None = None
  began_of (Some p) = Some p.before

module _ {Config Node : Type 0} where
  -- what running becomes by something of this effect: a commit makes it what candidate was just before, an undoing what
  -- it was before the commit that began, and nothing else changes it
  abbrev pub Becomes : DeviceState Config Node → Option Config → Effect → Config → Type 0
  Becomes s began (Begins token) running = running ≡ candidate_of s.stores
  Becomes s began Ends running = running ≡ candidate_of s.stores
  Becomes s began (Undoes by) running = began ≡ Some running
  Becomes s began Neither running = running ≡ s.stores.running

module _ {Config TheEdit Node : Type 0} (m : Meaning Config TheEdit Node) (tables : TablesState TheEdit) where
  -- each running configuration is valid, and changes only so
  abbrev pub IsWhole : DeviceState Config Node → Option Config → List Noted → Type 0
  IsWhole s began [] = m.violation s.stores.running ≡ None
  IsWhole s began (entry ∷ history) =
      (m.violation s.stores.running ≡ None)
      × Becomes s began (noted_effect entry) (replayed m tables s entry).stores.running
      × IsWhole (replayed m tables s entry) (began_after s.stores.running began (noted_effect entry)) history
