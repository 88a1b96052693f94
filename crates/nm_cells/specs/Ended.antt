-- What a caller finds whose session isn't open any more (this project's own, over RFC 6241 sections 7.8, 7.9 and 8.4.1): the
-- place in the device's history of what ended it, where the caller may know of that, and else the place 0, which no entry has.
use Rattle.std.specs.Prelude.{ℕ, ◌+◌, ◌==◌, Bool, true, false, not, ◌&&◌, List, [], ◌∷◌, ◌++◌, drop, slice_get, position, Option, Some, None, if◌then◌else◌}
use Rattle.std.specs.List.{list_any}
use Rattle.nm_proto.specs.declared.message.Request.{Request}
use Rattle.nm_proto.specs.declared.message.Request.TheVariants.{Kill, CloseSession}
use Rattle.nm_proto.specs.declared.message.Reply.{Reply}
use Rattle.nm_proto.specs.declared.message.Reply.TheVariants.{Done}
use Rattle.nm_history.specs.declared.event.DeviceEvent.{DeviceEvent}
use Rattle.nm_history.specs.declared.event.DeviceEvent.TheVariants.{Entered, Asked, Lost, Advanced, Restarted}
use Rattle.nm_history.specs.declared.event.Noted.{Noted}
use Rattle.nm_cells.specs.Kept.{opens, is_managers}
use Rattle.nm_cells.specs.declared.pass.PassOwner.{PassOwner}
use Rattle.nm_cells.specs.declared.pass.PassOwner.TheVariants.{Coordinator, Operator}
use Rattle.nm_cells.specs.declared.pass.PassEntry.{PassEntry}
use Rattle.nm_cells.specs.declared.ended.Found.{Found}

-- ---- what ends a session

-- it was answered Done
abbrev pub is_done : Option Reply → Bool
is_done (Some Done) = true
is_done _ = false

-- a request that is done ends the session
abbrev pub ends_by : ℕ → ℕ → Request → Bool
ends_by session asker CloseSession = asker == session
ends_by session asker (Kill other) = other == session
ends_by session asker _ = false

-- an entry ends the session, where it is open
abbrev pub ends_with : ℕ → DeviceEvent → Option Reply → Bool
ends_with session (Entered user) reply = false
ends_with session (Asked asker request) reply = ends_by session asker request && is_done reply
ends_with session (Lost other) reply = other == session
ends_with session (Advanced seconds) reply = false
ends_with session Restarted reply = true

-- an entry ends a session
abbrev pub ends : ℕ → Noted → Bool
ends session entry = ends_with session entry.event entry.reply

-- the entry opened the session
abbrev pub opened_by : ℕ → Noted → Bool
opened_by session entry = opens session entry.reply

-- how many entries stand before what ended the session: the first that ends it after the one that opened it
abbrev pub end_after : ℕ → List Noted → Option ℕ → Option ℕ
end_after opening later None = None
end_after opening later (Some place) = Some (opening + 1 + place)

-- the place of the entry that ends a session, behind its opening
abbrev pub end_from : ℕ → List Noted → Option ℕ → Option ℕ
end_from session history None = None
end_from session history (Some opening) = end_after opening history (position (ends session) (drop (opening + 1) history))

-- the place of the entry that ends a session, where one does
abbrev pub end_of : ℕ → List Noted → Option ℕ
end_of session history = end_from session history (position (opened_by session) history)

-- ---- what a caller may know

-- the caller's pass holds the entry at this place of this device
abbrev pub is_entry : ℕ → ℕ → PassEntry → Bool
is_entry device place entry = entry.device == device && entry.position == place

-- a pass has the entry at a place of a device
abbrev pub holds : ℕ → ℕ → List PassEntry → Bool
holds device place entries = list_any (is_entry device place) entries

-- the caller opened the session
abbrev pub is_opening_of : ℕ → ℕ → PassEntry → Bool
is_opening_of device session entry = entry.device == device && opens session entry.noted.reply

-- a pass opened a session
abbrev pub opened_in : ℕ → ℕ → List PassEntry → Bool
opened_in device session entries = list_any (is_opening_of device session) entries

-- a session is to be ended (RFC 6241 section 7.9)
abbrev pub is_kill : Request → Bool
is_kill (Kill other) = true
is_kill _ = false

module _ (device place : ℕ) (entries : List PassEntry) where
  -- a coordinator knows of a restart, of another's kill, and of what it did itself
  abbrev pub by_request : ℕ → Request → Bool
  by_request asker request = if is_kill request then not (opened_in device asker entries) else holds device place entries

  -- what ends a session of a coordinator and stands in no other pass
  abbrev pub coordinator_knows : DeviceEvent → Bool
  coordinator_knows (Asked asker request) = by_request asker request
  coordinator_knows Restarted = true
  coordinator_knows _ = holds device place entries

-- an operator knows of a restart and of a kill
abbrev pub operator_knows : DeviceEvent → Bool
operator_knows (Asked asker request) = is_kill request
operator_knows Restarted = true
operator_knows _ = false

-- the caller may know of the entry that ended its session, of which one is the manager's
abbrev pub knows : PassOwner → Bool → ℕ → ℕ → List PassEntry → DeviceEvent → Bool
knows (Coordinator change) managers device place entries event = coordinator_knows device place entries event
knows (Operator number) managers device place entries event = not managers && operator_knows event

-- ---- what it finds

-- the loss of a session at no place
abbrev pub lost_nowhere : ℕ → Found
lost_nowhere session = record { position = 0; noted = record { event = Lost session; reply = None; undone = false } }

module _ (owner : PassOwner) (managers : Bool) (device session : ℕ) (entries : List PassEntry) where
  -- what ended a session, by the entry at a place
  abbrev pub found_if : ℕ → Option Noted → Found
  found_if place None = lost_nowhere session
  found_if place (Some entry) = if knows owner managers device place entries entry.event
      then record { position = place; noted = entry } else lost_nowhere session

  -- the same by the place, where there is one
  abbrev pub found_at : List Noted → Option ℕ → Found
  found_at history None = lost_nowhere session
  found_at history (Some before) = found_if (before + 1) (slice_get history before)

-- what a caller finds
abbrev pub found : PassOwner → ℕ → ℕ → List PassEntry → List Noted → Found
found owner device session entries history = found_at owner (is_managers session history) device session entries history (end_of session history)

-- the pass with what was found, unless it holds that
abbrev pub with_found : ℕ → List PassEntry → Found → List PassEntry
with_found device entries it =
    if holds device it.position entries && not (it.position == 0) then entries
    else entries ++ record { device = device; position = it.position; noted = it.noted } ∷ []
