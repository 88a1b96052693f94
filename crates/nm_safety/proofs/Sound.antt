-- Each device's history leads to it, whatever happens in the world.
use Rattle.std.proofs.Common.{◌≡◌, ℕ, zero, suc, List, [], ◌∷◌, map, Some, None, IfSome, slice_get, refl, sym, ◌∙◌, subst}
use Rattle.nm_proto.specs.Content.{Meaning, Laws}
use Rattle.nm_proto.specs.declared.plan.Event.{Event}
use Rattle.nm_device.specs.Device.{fresh_device}
use Rattle.nm_history.specs.declared.event.DeviceEvent.{DeviceEvent}
use Rattle.nm_history.specs.History.{Happened, RecordedState, recorded, recorded_with, recorded_if}
use Rattle.nm_history.specs.Leads.{Leads}
use Rattle.nm_history.proofs.Histories.{leads_none, leads_push}
use Rattle.nm_device_laws.specs.Moment.{Happens}
use Rattle.nm_world.specs.World.{Setting, run, start}
use Rattle.nm_safety.specs.Safe.{AreSoundFrom}
use Rattle.nm_safety.proofs.Lists.{some_is}
use Rattle.nm_safety.proofs.Devices.{run_keeps}

-- what stands at the places of the devices at the beginning
pub first_at : {Config Node : Type 0} (P : ℕ → RecordedState Config Node → Type 0) (running : List Config) → ((place : ℕ) (first : Config) → slice_get running place ≡ Some first → P place (recorded first))
    → (place : ℕ) → IfSome (slice_get (map (recorded {Node = Node}) running) place) (P place)
first_at P [] begins place = tt
first_at P (config ∷ running) begins zero = begins zero config refl
first_at P (config ∷ running) begins (suc place) = first_at (λ k. P (suc k)) running (λ k first there. begins (suc k) first there) place

module _ {Config TheEdit Node : Type 0} (m : Meaning Config TheEdit Node) (laws : Laws m) (setting : Setting TheEdit) (running : List Config) where
  abbrev pub IsSoundAt : ℕ → RecordedState Config Node → Type 0
  IsSoundAt place r = (first : Config) → slice_get running place ≡ Some first → m.violation first ≡ None → Leads m setting.tables (fresh_device first) r

  pub happened_sound : (place : ℕ) (r : RecordedState Config Node) (event : DeviceEvent) (h : Happened Config Node) → Happens m setting.tables r.device event h → IsSoundAt place r → IsSoundAt place (recorded_with r event h)
  happened_sound place r event h happens sound first begins valid =
      subst (λ done. Leads m setting.tables (fresh_device first) (recorded_if r event done)) happens (leads_push m laws setting.tables (fresh_device first) r event (sound first begins valid))

  pub first_sound : (place : ℕ) (first : Config) → slice_get running place ≡ Some first → IsSoundAt place (recorded first)
  first_sound place config here first begins valid =
      let is : Some config ≡ Some first = sym here ∙ begins in
      let same : first ≡ config = cc in
      subst (λ one. Leads m setting.tables (fresh_device first) (recorded one)) same (leads_none m laws setting.tables first valid)

  pub run_sound : (events : List Event) → AreSoundFrom m setting running (run m setting (start setting running) events)
  run_sound events place first r begins there valid =
      some_is r (IsSoundAt place) (slice_get (run m setting (start setting running) events).devices place) there
      (run_keeps m setting IsSoundAt happened_sound (start setting running) events (first_at IsSoundAt running first_sound) place) first begins valid
