-- Who asks for what happens at a device.
use Rattle.std.proofs.Common.{ℕ, ◌≡◌, ◌≤◌, Bool, true, false, Some, refl, ◌∙◌, arith}
use Rattle.nm_proto.specs.declared.message.Store.TheVariants.{Candidate}
use Rattle.nm_device.specs.Device.{DeviceState}
use Rattle.nm_history.specs.declared.event.DeviceEvent.{DeviceEvent}
use Rattle.nm_history.specs.declared.event.DeviceEvent.TheVariants.{Entered, Asked, Lost, Advanced, Restarted}
use Rattle.nm_device_laws.specs.Keeps.{KeepsOpen, is_asker}
use Rattle.nm_safety.specs.Support.{Owners}
use Rattle.nm_safety.specs.Keeping as keeping
use Rattle.nm_commit_laws.specs.LeavesSupport.{HoldsCandidate}

-- no link of the change set asks
abbrev pub AsksNone : ℕ → Owners → DeviceEvent → Type 0
AsksNone change owners event =
    (session place : ℕ) → owners session ≡ Some (record { change = change; place = place }) → is_asker event session ≡ false

-- no session asks
abbrev pub is_silent : DeviceEvent → Bool
is_silent (Asked session request) = false
is_silent _ = true

pub silent_asks : (owners : Owners) (event : DeviceEvent) → is_silent event ≡ true → (change : ℕ) → AsksNone change owners event
silent_asks owners (Asked session request) e change = absurd (let g : false ≡ true = e in cc)
silent_asks owners (Entered user) e change = λ session place own. refl
silent_asks owners (Lost session) e change = λ other place own. refl
silent_asks owners (Advanced seconds) e change = λ session place own. refl
silent_asks owners Restarted e change = λ session place own. refl

two_one : (n : ℕ) → 2 ≤ n → 1 ≤ n
two_one n h = omega (arith, h)

-- under its lock nobody else changes candidate
pub holds_kept : {Config Node : Type 0} (n session : ℕ) (s now : DeviceState Config Node) → KeepsOpen session s now → HoldsCandidate n session s
    → HoldsCandidate n session now
holds_kept n session s now keeps p = record {
  owner = λ one. keeps.owner Candidate (p.owner one);
  unmodified = λ two. keeps.candidate (p.owner (two_one n two)) ∙ p.unmodified two;
}

-- who neither opens a session nor asks is silent
pub quiet_silent : (event : DeviceEvent) → keeping.is_silent event ≡ true → is_silent event ≡ true
quiet_silent (Asked session request) e = absurd (let g : false ≡ true = e in cc)
quiet_silent (Entered user) e = refl
quiet_silent (Lost session) e = refl
quiet_silent (Advanced seconds) e = refl
quiet_silent Restarted e = refl
