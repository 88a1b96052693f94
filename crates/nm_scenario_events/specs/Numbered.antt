-- The edits and selections that operators ask for get numbers, each one after another in the order of the events, and their
-- sessions the names of their users (this project's own).
use Rattle.std.specs.Prelude.{ℕ, ◌+◌, ◌-◌, List, [], ◌∷◌, length, slice_get, unwrap_or, None}
use Rattle.std.specs.List.{flat_map}
use Rattle.nm_proto.specs.declared.message.Request.{Request}
use Rattle.nm_proto.specs.declared.message.Request.TheVariants.{OpenSession, PartialLock, Edit}
use Rattle.nm_proto.specs.declared.plan.Event.{Event}
use Rattle.nm_proto.specs.declared.plan.Event.TheVariants.{Foreign}
use Rattle.nm_scenario_events.specs.declared.event.ReadRequest.{ReadRequest}
use Rattle.nm_scenario_events.specs.declared.event.ReadRequest.TheVariants.{Open, Known, WithEdit, WithSelect}
use Rattle.nm_scenario_events.specs.declared.event.ReadEvent.{ReadEvent}
use Rattle.nm_scenario_events.specs.declared.event.ReadEvent.TheVariants.{Other, Asked}

-- the user of an operator, by the operator's number from 1
abbrev pub user_of : List (List ℕ) → ℕ → List ℕ
user_of users operator = unwrap_or (slice_get users (operator - 1)) []

-- a request of this user whose edit or selection has this number
abbrev pub numbered_request : {E : Type 0} → List ℕ → ℕ → ℕ → ReadRequest E → Request
numbered_request user edit select Open = OpenSession user
numbered_request user edit select (Known request) = request
numbered_request user edit select (WithEdit operation change) = Edit (record { 0 = edit }) operation None
numbered_request user edit select (WithSelect texts) = PartialLock (record { 0 = select })

-- an event as the world takes it: an operator's request with the numbers of its edit and selection, and with its user
abbrev pub numbered_event : {E : Type 0} → List (List ℕ) → ℕ → ℕ → ReadEvent E → Event
numbered_event users edit select (Other event) = event
numbered_event users edit select (Asked operator device request) = Foreign operator device (numbered_request (user_of users operator) edit select request)

-- the edit of a request, if it has one
abbrev pub edit_of_request : {E : Type 0} → ReadRequest E → List E
edit_of_request Open = []
edit_of_request (Known request) = []
edit_of_request (WithEdit operation edit) = edit ∷ []
edit_of_request (WithSelect texts) = []

-- the edit of an event, if it has one
abbrev pub edit_of_event : {E : Type 0} → ReadEvent E → List E
edit_of_event (Other event) = []
edit_of_event (Asked operator device request) = edit_of_request request

-- its selection, if it has one
abbrev pub select_of_request : {E : Type 0} → ReadRequest E → List (List (List ℕ))
select_of_request Open = []
select_of_request (Known request) = []
select_of_request (WithEdit operation edit) = []
select_of_request (WithSelect texts) = texts ∷ []

-- the selection of an event, if it has one
abbrev pub select_of_event : {E : Type 0} → ReadEvent E → List (List (List ℕ))
select_of_event (Other event) = []
select_of_event (Asked operator device request) = select_of_request request

-- events of operators with these users, whose edits and selections have the numbers from these on
abbrev pub events_from : {E : Type 0} → List (List ℕ) → ℕ → ℕ → List (ReadEvent E) → List Event
events_from users edit select [] = []
events_from users edit select (e ∷ es) =
    numbered_event users edit select e ∷ events_from users (edit + length (edit_of_event e)) (select + length (select_of_event e)) es

-- the edits and the selections of events, in the order of their numbers
abbrev pub edits_of_events : {E : Type 0} → List (ReadEvent E) → List E
edits_of_events events = flat_map edit_of_event events

-- the selections of events, in the order of their numbers
abbrev pub selects_of_events : {E : Type 0} → List (ReadEvent E) → List (List (List ℕ))
selects_of_events events = flat_map select_of_event events
