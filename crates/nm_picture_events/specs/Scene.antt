-- Where the rows of a picture stand, and what an event says of its place (this project's own).
use Rattle.std.specs.Prelude.{ℕ, Option, Some, None, if◌then◌else◌}
use Rattle.nm_proto.specs.declared.plan.Event.{Event}
use Rattle.nm_proto.specs.declared.plan.Event.TheVariants.{Submit, Turn, Deliver, Answer, Break, Lose, Advance, Restart, Forget, Crash, Renew, Foreign, Leave, Round}
use Rattle.nm_picture_frame.specs.Frame.{manager_x, device_x, line_y}
use Rattle.nm_picture_events.specs.declared.scene.Place.{Place}
use Rattle.nm_picture_events.specs.declared.scene.Scene.{Scene}

-- the change set that words name: only where a run has more than one
abbrev pub named : Scene → Option ℕ → Option ℕ
named scene change = if scene.names_changes then change else None

-- the lane of a device, and else the manager's
abbrev pub lane_x : Scene → Option ℕ → ℕ
lane_x scene None = manager_x scene.frame
lane_x scene (Some device) = device_x scene.frame device

-- the change set of an event
abbrev pub change_of : Event → Option ℕ
change_of (Submit change) = Some change
change_of (Turn change) = Some change
change_of (Deliver change device link) = Some change
change_of (Answer change device link number) = Some change
change_of (Break change device) = Some change
change_of (Lose change device link) = Some change
change_of (Forget change) = Some change
change_of (Renew change device) = Some change
change_of (Round change turns) = Some change
change_of _ = None

-- the device of an event
abbrev pub device_of : Event → Option ℕ
device_of (Deliver change device link) = Some device
device_of (Answer change device link number) = Some device
device_of (Break change device) = Some device
device_of (Lose change device link) = Some device
device_of (Advance device seconds) = Some device
device_of (Restart device) = Some device
device_of (Renew change device) = Some device
device_of (Foreign operator device request) = Some device
device_of (Leave operator device) = Some device
device_of _ = None

-- the place of a row, by its event and its line
abbrev pub place_of : Scene → ℕ → Event → Place
place_of scene line event = record { frame = scene.frame; y = line_y scene.frame line; named = named scene (change_of event) }
