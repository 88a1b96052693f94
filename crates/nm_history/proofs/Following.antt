-- What a call serves or loses is the event that is followed.
use Rattle.std.proofs.Common.{◌≡◌, ℕ, Bool, true, false, not, ◌&&◌, Option, Some, None, refl, sym}
use Rattle.std.proofs.lemmas.Bool.{false≢true}
use Rattle.nm_proto.specs.declared.message.Request.{Request}
use Rattle.nm_device.specs.Device.{DeviceState, Stepped}
use Rattle.nm_history.specs.declared.event.DeviceEvent.{DeviceEvent}
use Rattle.nm_history.specs.declared.recorded.Told.{Told}
use Rattle.nm_history.specs.History.{Happened, RecordedState, answered, happened_if, recorded_if, served_as, parted_as, Serves, Loses}

module _ {Config Node : Type 0} (old new : RecordedState Config Node) (event : DeviceEvent) where
  pub serves_so : (told : Option Told) (can : Bool) (s : DeviceState Config Node) (request : Request) (stepped : Stepped Config Node)
      → Serves told old new (served_as old event (happened_if can (answered s request stepped))) → new ≡ recorded_if old event (happened_if can (answered s request stepped))
  serves_so told true s request stepped h = h.1
  serves_so told false s request stepped h = h.1

  pub loses_so : (undone : Option Bool) (done : Option (Happened Config Node)) → Loses undone old new (parted_as old event done) → new ≡ recorded_if old event done
  loses_so undone None h = h.1
  loses_so undone (Some done) h = h.1

  -- what asks for a session on one changes nothing
  pub opens_nothing : (can opening : Bool) (done : Happened Config Node) → opening ≡ true → new ≡ old → new ≡ recorded_if old event (happened_if (can && not opening) done)
  opens_nothing true true done is same = same
  opens_nothing false true done is same = same
  opens_nothing can false done is same = absurd (false≢true is)
