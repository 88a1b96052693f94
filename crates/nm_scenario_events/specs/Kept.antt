-- What holds of each event that is read (this project's own): it names change sets, devices and operators that there are.
use Rattle.std.specs.Prelude.{◌≡◌, ℕ, ◌*◌, ◌≤◌, List, Bool, true, false}
use Rattle.std.specs.List.{All, sum_by}
use Rattle.nm_proto.specs.declared.plan.Event.{Event}
use Rattle.nm_proto.specs.declared.plan.Event.TheVariants.{Submit, Turn, Deliver, Answer, Break, Lose, Advance, Restart, Forget, Crash, Renew, Foreign, Leave, Round}
use Rattle.nm_proto.specs.declared.message.Request.{Request}
use Rattle.nm_proto.specs.declared.message.Request.TheVariants.{OpenSession, PartialLock, Edit}
use Rattle.nm_scenario_events.specs.declared.event.ReadRequest.{ReadRequest}
use Rattle.nm_scenario_events.specs.declared.event.ReadRequest.TheVariants.{Open, Known, WithEdit, WithSelect}
use Rattle.nm_scenario_events.specs.declared.event.ReadEvent.{ReadEvent}
use Rattle.nm_scenario_events.specs.declared.event.ReadEvent.TheVariants.{Other, Asked}
use Rattle.nm_scenario_events.specs.declared.arguments.Counts.{Counts}
use Rattle.nm_scenario_events.specs.Limits.{event_limit, turn_limit}

-- a number from one to another
abbrev pub IsWithin : ℕ → ℕ → ℕ → Type 0
IsWithin low high n = (low ≤ n) × (n ≤ high)

-- an event speaks of change sets, devices and operators that there are; links, replies and seconds may be any
abbrev pub EventKeeps : Counts → Event → Type 0
EventKeeps c (Submit change) = IsWithin 1 c.changes change
EventKeeps c (Turn change) = IsWithin 1 c.changes change
EventKeeps c (Deliver change device link) = IsWithin 1 c.changes change × IsWithin 1 c.devices device
EventKeeps c (Answer change device link number) = IsWithin 1 c.changes change × IsWithin 1 c.devices device
EventKeeps c (Break change device) = IsWithin 1 c.changes change × IsWithin 1 c.devices device
EventKeeps c (Lose change device link) = IsWithin 1 c.changes change × IsWithin 1 c.devices device
EventKeeps c (Advance device seconds) = IsWithin 1 c.devices device
EventKeeps c (Restart device) = IsWithin 1 c.devices device
EventKeeps c (Forget change) = IsWithin 1 c.changes change
EventKeeps c Crash = Unit {0}
EventKeeps c (Renew change device) = IsWithin 1 c.changes change × IsWithin 1 c.devices device
EventKeeps c (Foreign operator device request) = IsWithin 1 c.operators operator × IsWithin 1 c.devices device
EventKeeps c (Leave operator device) = IsWithin 1 c.operators operator × IsWithin 1 c.devices device
EventKeeps c (Round change turns) = IsWithin 1 c.changes change × IsWithin 1 turn_limit turns

-- in this event an operator asks a device
abbrev pub is_asked : Event → Bool
is_asked (Foreign operator device request) = true
is_asked _ = false

-- this request opens a session of a user, or names an edit or a selection by its number
abbrev pub names_any : Request → Bool
names_any (OpenSession user) = true
names_any (PartialLock select) = true
names_any (Edit edit operation marks) = true
names_any _ = false

-- a request is read without the user of its session, which is then the operator's own, and without the number of its edit or selection
abbrev pub NamesNone : {E : Type 0} → ReadRequest E → Type 0
NamesNone Open = Unit {0}
NamesNone (Known request) = names_any request ≡ false
NamesNone (WithEdit operation edit) = Unit {0}
NamesNone (WithSelect texts) = Unit {0}

-- the same before edits have numbers; operators ask in no other events
abbrev pub ReadKeeps : {E : Type 0} → Counts → ReadEvent E → Type 0
ReadKeeps c (Other event) = EventKeeps c event × (is_asked event ≡ false)
ReadKeeps c (Asked operator device request) = IsWithin 1 c.operators operator × IsWithin 1 c.devices device × NamesNone request

-- how many elementary events an event stands for: three for each turn of a round, else one
abbrev pub weight : Event → ℕ
weight (Round change turns) = 3 * turns
weight _ = 1

-- how many elementary events an event as it was read stands for
abbrev pub read_weight : {E : Type 0} → ReadEvent E → ℕ
read_weight (Other event) = weight event
read_weight (Asked operator device request) = 1

-- the events that are read: each speaks of what there is, and they aren't too many
pub record EventsKeep {E : Type 0} (c : Counts) (events : List (ReadEvent E)) : Type 0 where
  pub keep : All (ReadKeeps c) events
  pub weigh : sum_by read_weight events ≤ event_limit
