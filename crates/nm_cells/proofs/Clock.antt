-- What an advance leaves of the clock and the sessions.
use Rattle.std.proofs.Common.{Option, Some, None, ◌≡◌, ℕ, ◌+◌, Bool, true, false, refl}
use Rattle.nm_proto.specs.Content.{Meaning}
use Rattle.nm_pending.specs.Pending.{PendingState, ends_at}
use Rattle.nm_device.specs.Device.{DeviceState}
use Rattle.nm_device.specs.Undoing.{later, undone_by, undone_if, advanced}

module _ {Config TheEdit Node : Type 0} (m : Meaning Config TheEdit Node) where
  by_clock : (s : DeviceState Config Node) (p : Option (PendingState Config)) → (undone_by m s p).clock ≡ s.clock
  by_clock s None = refl
  by_clock s (Some p) = refl

  by_sessions : (s : DeviceState Config Node) (p : Option (PendingState Config)) → (undone_by m s p).sessions ≡ s.sessions
  by_sessions s None = refl
  by_sessions s (Some p) = refl

  if_clock : (s : DeviceState Config Node) (b : Bool) → (undone_if m s b).clock ≡ s.clock
  if_clock s true = by_clock s s.pending
  if_clock s false = refl

  if_sessions : (s : DeviceState Config Node) (b : Bool) → (undone_if m s b).sessions ≡ s.sessions
  if_sessions s true = by_sessions s s.pending
  if_sessions s false = refl

  pub clock_rises : (s : DeviceState Config Node) (seconds : ℕ) → (advanced m s seconds).clock ≡ s.clock + seconds
  clock_rises s seconds = if_clock (later s seconds) (ends_at s.pending (s.clock + seconds))

  pub sessions_stay : (s : DeviceState Config Node) (seconds : ℕ) → (advanced m s seconds).sessions ≡ s.sessions
  sessions_stay s seconds = if_sessions (later s seconds) (ends_at s.pending (s.clock + seconds))
