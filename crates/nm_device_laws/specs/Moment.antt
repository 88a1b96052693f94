-- What happens at a device, as the laws speak of it.
use Rattle.std.specs.Prelude.{◌≡◌, ℕ, Bool, false, Option, Some, None}
use Rattle.nm_proto.specs.declared.message.Request.{Request}
use Rattle.nm_proto.specs.declared.message.Reply.{Reply}
use Rattle.nm_proto.specs.Content.{Meaning, TablesState}
use Rattle.nm_device.specs.Device.{DeviceState}
use Rattle.nm_device.specs.Table.{is_error}
use Rattle.nm_history.specs.declared.event.DeviceEvent.{DeviceEvent}
use Rattle.nm_history.specs.declared.event.DeviceEvent.TheVariants.{Asked}
use Rattle.nm_history.specs.History.{Happened, device_event}

-- an error answers
abbrev pub is_refused : Option Reply → Bool
is_refused None = false
is_refused (Some reply) = is_error reply

module _ {Config TheEdit Node : Type 0} (m : Meaning Config TheEdit Node) where
  -- the event can happen at the device, and this is what it does
  abbrev pub Happens : TablesState TheEdit → DeviceState Config Node → DeviceEvent → Happened Config Node → Type 0
  Happens tables s event h = device_event m tables s event ≡ Some h

  -- an event that happens at a device, by these tables, with what it does
  pub record Moment (s : DeviceState Config Node) : Type 0 where
    pub tables : TablesState TheEdit
    pub event : DeviceEvent
    pub h : Happened Config Node
    pub happens : Happens tables s event h

  -- a request that a session makes of it
  pub record Asking (s : DeviceState Config Node) (session : ℕ) (request : Request) : Type 0 where
    pub tables : TablesState TheEdit
    pub h : Happened Config Node
    pub happens : Happens tables s (Asked session request) h
