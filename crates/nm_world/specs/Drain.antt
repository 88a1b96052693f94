-- How a world is brought to rest (this project's own): first each operator's session ends, then each link that isn't current,
-- and then the change sets go on, one after another. Each step is an event of the world.
use Rattle.std.specs.Prelude.{ℕ, zero, suc, ◌+◌, ◌-◌, Bool, true, false, ◌&&◌, not, nat_lt, List, length, Option, Some, None, is_some, slice_get, if◌then◌else◌}
use Rattle.nm_proto.specs.declared.plan.Event.{Event}
use Rattle.nm_proto.specs.declared.plan.Event.TheVariants.{Leave, Lose, Break, Deliver, Answer, Turn}
use Rattle.nm_proto.specs.declared.journal.Entry.{Entry}
use Rattle.nm_proto.specs.Content.{Meaning}
use Rattle.nm_history.specs.History.{RecordedState}
use Rattle.nm_wire.specs.Wire.{WireState, link_at, is_current, counts_of}
use Rattle.nm_manager.specs.Queues.{is_ready_in}
use Rattle.nm_manager.specs.Manager.{ManagerState, wire_in}
use Rattle.nm_world.specs.declared.drain.Rule.{Rule}
use Rattle.nm_world.specs.declared.drain.Rule.TheVariants as rules
use Rattle.nm_world.specs.World.{Setting, CoreState, WorldState, core_of, manager_in, is_side_open, undelivered, has_on, operator_at, replies_on, world_step}

-- ---- the first of many

module _ {A : Type 0} where
  -- the first of two that is there
  abbrev pub found_or : Option A → Option A → Option A
  found_or None later = later
  found_or (Some x) later = Some x

  -- what is found of the first of so many numbers, from one on, of which anything is
  unfoldable pub first_from : (ℕ → Option A) → ℕ → ℕ → Option A
  first_from find number zero = None
  first_from find number (suc count) = found_or (find number) (first_from find (number + 1) count)

-- an event, where it applies
abbrev pub event_if : Bool → Event → Option Event
event_if true event = Some event
event_if false event = None

-- ---- one change set and one device

module _ {Config Node : Type 0} where
  -- a link isn't current, and its side at the device is open
  abbrev pub is_left : RecordedState Config Node → WireState → ℕ → Bool
  is_left r links link = is_side_open r links link && not (is_current links link)

  unfoldable pub lose_link : RecordedState Config Node → WireState → ℕ → ℕ → ℕ → Option Event
  lose_link r links change device link = event_if (is_left r links link) (Lose change device link)

  -- the loss of the first link that isn't current
  abbrev pub lose_first : RecordedState Config Node → WireState → ℕ → ℕ → Option Event
  lose_first r links change device = first_from (lose_link r links change device) 1 (length links.links)

-- more replies were sent than were handled
abbrev pub is_awaited_by : ℕ × ℕ → Bool
is_awaited_by counts = nat_lt counts.1 counts.0

-- a reply that was sent on a link isn't handled
abbrev pub is_awaited : WireState → ℕ → Bool
is_awaited links link = is_awaited_by (counts_of (link_at links link))

module _ {Config Node : Type 0} where
  -- the session of the current link has ended, where there is one
  abbrev pub is_stranded_on : RecordedState Config Node → WireState → Option ℕ → Bool
  is_stranded_on r links None = false
  is_stranded_on r links (Some link) = not (is_side_open r links link) && not (is_awaited links link)

  -- the device's side of the current link has ended, and every reply that was sent on it is handled: nothing more comes
  abbrev pub is_stranded : RecordedState Config Node → WireState → Bool
  is_stranded r links = is_stranded_on r links links.current

  -- the current link breaks, where it is stranded
  abbrev pub break_on : RecordedState Config Node → WireState → ℕ → ℕ → Option Event
  break_on r links change device = event_if (is_stranded r links) (Break change device)

  -- the delivery on the current link, where something is on its way
  abbrev pub deliver_by : RecordedState Config Node → WireState → ℕ → ℕ → Option ℕ → Option Event
  deliver_by r links change device None = None
  deliver_by r links change device (Some link) = event_if (is_some (undelivered r links link)) (Deliver change device link)

  -- the request on the current link is delivered, where there is one. No other link has an open side by then
  abbrev pub deliver_on : RecordedState Config Node → WireState → ℕ → ℕ → Option Event
  deliver_on r links change device = deliver_by r links change device links.current

-- the answer on the current link, where a reply waits
abbrev pub answer_by : WireState → ℕ → ℕ → Option ℕ → Option Event
answer_by links change device None = None
answer_by links change device (Some link) = event_if (is_awaited links link) (Answer change device link (replies_on links link))

-- the last reply on the current link is answered, where one isn't handled
abbrev pub answer_on : WireState → ℕ → ℕ → Option Event
answer_on links change device = answer_by links change device links.current

-- ---- all of them

-- what a rule finds of a device and of the links of a change set to it
abbrev pub found_by : {Config Node : Type 0} → Rule → RecordedState Config Node → WireState → ℕ → ℕ → Option Event
found_by rules.Lose r links change device = lose_first r links change device
found_by rules.Break r links change device = break_on r links change device
found_by rules.Deliver r links change device = deliver_on r links change device
found_by rules.Answer r links change device = answer_on links change device

module _ {Config Node : Type 0} (devices : List (RecordedState Config Node)) (state : ManagerState) where
  -- what a rule finds at a change set and a device that is there
  abbrev pub found_of : Rule → ℕ → ℕ → Option (RecordedState Config Node) → Option Event
  found_of rule change device None = None
  found_of rule change device (Some r) = found_by rule r (wire_in state change device) change device

  unfoldable pub at_pair : Rule → ℕ → ℕ → Option Event
  at_pair rule change device = found_of rule change device (slice_get devices (device - 1))

  -- the least device at which a rule finds something
  unfoldable pub at_devices : Rule → ℕ → Option Event
  at_devices rule change = first_from (at_pair rule change) 1 (length devices)

module _ {Config Node : Type 0} (devices : List (RecordedState Config Node)) (operators : List (List (Option ℕ))) where
  -- an operator's leaving, where it has an open session there
  abbrev pub leave_by : ℕ → ℕ → Option (List (Option ℕ)) → Option (RecordedState Config Node) → Option Event
  leave_by number device None r = None
  leave_by number device (Some operator) None = None
  leave_by number device (Some operator) (Some r) = event_if (is_some (has_on operator r (device - 1))) (Leave number device)

  unfoldable pub leave_on : ℕ → ℕ → Option Event
  leave_on number device = leave_by number device (operator_at operators number) (slice_get devices (device - 1))

  unfoldable pub leave_of : ℕ → Option Event
  leave_of number = first_from (leave_on number) 1 (length devices)

  -- an operator's session ends, the least operator and its least device first
  abbrev pub leaves : Option Event
  leaves = first_from leave_of 1 (length operators)

-- a change set, where it is ready
unfoldable pub ready_at : List Entry → ℕ → Option ℕ
ready_at entries change = if is_ready_in entries change then Some change else None

-- the least change set that is ready
abbrev pub first_ready : ℕ → List Entry → Option ℕ
first_ready changes entries = first_from (ready_at entries) 1 changes

-- ---- the whole

module _ {Config Node : Type 0} (devices : List (RecordedState Config Node)) (state : ManagerState) where
  -- a link that isn't current ends at the device, that of the least of so many change sets, device and number first
  abbrev pub loses_links : ℕ → Option Event
  loses_links changes = first_from (at_devices devices state rules.Lose) 1 changes

  -- a change set goes on: a stranded link breaks, or a request is delivered, or a reply is answered, or else the manager acts
  abbrev pub goes_on : ℕ → Option Event
  goes_on change = found_or (at_devices devices state rules.Break change)
      (found_or (at_devices devices state rules.Deliver change) (found_or (at_devices devices state rules.Answer change) (Some (Turn change))))

  -- the turn of a change set, where there is one
  abbrev pub goes_on_with : Option ℕ → Option Event
  goes_on_with None = None
  goes_on_with (Some change) = goes_on change

  -- the next step of so many change sets
  abbrev pub drain_of : ℕ → List (List (Option ℕ)) → Option Event
  drain_of changes operators =
      found_or (leaves devices operators) (found_or (loses_links changes) (goes_on_with (first_ready changes state.entries)))

-- the next event of a drain, in a core
abbrev pub drain_in : {Config Node : Type 0} → ℕ → CoreState Config Node → Option Event
drain_in changes w = drain_of w.devices (manager_in w) changes w.operators

-- the next step, None where the world is at rest
abbrev pub drain_event : {Config TheEdit Node : Type 0} → Setting TheEdit → WorldState Config Node → Option Event
drain_event setting w = drain_in (length setting.plans) (core_of w)

module _ {Config TheEdit Node : Type 0} (m : Meaning Config TheEdit Node) (setting : Setting TheEdit) where
  -- the world after the next event of a drain, where there is one
  abbrev pub drain_by : WorldState Config Node → Option Event → WorldState Config Node
  drain_by w None = w
  drain_by w (Some event) = world_step m setting w event

  -- one step
  abbrev pub drain_step : WorldState Config Node → WorldState Config Node
  drain_step w = drain_by w (drain_event setting w)

  -- so many steps at most
  abbrev pub drained : ℕ → WorldState Config Node → WorldState Config Node
  drained zero w = w
  drained (suc n) w = drained n (drain_step w)

-- how many steps bring a world to rest at most
unfoldable pub drain_limit : ℕ
drain_limit = 1000000
