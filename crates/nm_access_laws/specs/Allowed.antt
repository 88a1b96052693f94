-- What reaches devices, of all that operators ask (this project's own, over RFC 8341 section 3.4.4).
use Rattle.std.specs.Prelude.{◌≡◌, ℕ, ◌-◌, ◌≤◌, List, Bool, true, false, Option, None, Some, IfSome, slice_get}
use Rattle.nm_proto.specs.Content.{Meaning}
use Rattle.nm_proto.specs.declared.message.Request.{Request}
use Rattle.nm_proto.specs.declared.plan.Event.{Event}
use Rattle.nm_proto.specs.declared.plan.Event.TheVariants.{Foreign}
use Rattle.nm_sessions.specs.Sessions.{is_open, user_of}
use Rattle.nm_device.specs.Device.{DeviceState, is_manager}
use Rattle.nm_history.specs.declared.event.DeviceEvent.TheVariants.{Asked}
use Rattle.nm_history.specs.declared.event.Noted.{Noted}
use Rattle.nm_history.specs.History.{RecordedState}
use Rattle.nm_permitted.specs.declared.judge.Denial.{Denial}
use Rattle.nm_world.specs.World.{Setting, CoreState, WorldState, given_on}
use Rattle.nm_safety.specs.Along.{HistoryAt}
use Rattle.nm_safety.specs.Cases.{IsOperating}

module _ {Config Node : Type 0} (May : List ℕ → DeviceState Config Node → Request → Type 0) where
  -- an entry of a history isn't the request of an operator's session, or its user may ask for that, as the device stood then
  abbrev pub IsAllowed : DeviceState Config Node → Noted → Type 0
  IsAllowed s entry = (session : ℕ) (request : Request) (user : List ℕ) → entry.event ≡ Asked session request
      → user_of s.sessions session ≡ Some user → is_manager (Some user) ≡ false → May user s request

  -- a judge permits an operator with a session only what its user may
  pub record Permits {TheEdit : Type 0} (setting : Setting TheEdit) (judge : CoreState Config Node → Event → Option Denial) : Type 0 where
    pub asks : (w : CoreState Config Node) (number device : ℕ) (a : IsOperating w number device) (request : Request) (session : ℕ) (user : List ℕ)
        → 1 ≤ number → given_on a.operator (device - 1) ≡ Some session → is_open a.r.device.sessions session ≡ true
        → slice_get setting.users (number - 1) ≡ Some user → judge w (Foreign number device request) ≡ None → May user a.r.device request

-- an operator's session on a device is of its own user
abbrev pub IsOwn : {TheEdit Config Node : Type 0} → Setting TheEdit → ℕ → List (Option ℕ) → ℕ → RecordedState Config Node → Type 0
IsOwn setting place operator device r = (session : ℕ) → given_on operator device ≡ Some session → is_open r.device.sessions session ≡ true
    → user_of r.device.sessions session ≡ slice_get setting.users place

-- so is each of each operator, by their places from 0: nobody acts as another, and none as the manager
abbrev pub AreOwn : {TheEdit Config Node : Type 0} → Setting TheEdit → CoreState Config Node → Type 0
AreOwn setting w = (place : ℕ) → IfSome (slice_get w.operators place) (λ operator. (device : ℕ) → IfSome (slice_get w.devices device) (IsOwn setting place operator device))

-- each entry of each device's history is allowed
abbrev pub AreAllowed : {Config TheEdit Node : Type 0} → Meaning Config TheEdit Node → Setting TheEdit → (List ℕ → DeviceState Config Node → Request → Type 0)
    → List Config → CoreState Config Node → Type 0
AreAllowed m setting May running w = (place : ℕ) → IfSome (slice_get w.devices place) (HistoryAt m setting.tables (IsAllowed May) running place)
