-- What the pass of a change set's coordinator holds of one device (this project's own, over RFC 6241 sections 7 and 8.4): the
-- six requests that bring the change set, in order and on one session, and then what finds out about it and ends it.
use Rattle.std.specs.Prelude.{◌≡◌, ℕ, ◌+◌, ◌==◌, Bool, true, false, not, ◌&&◌, ◌||◌, nat_lt, List, [], ◌∷◌, ◌++◌, Option, Some, None, is_some, is_none, if◌then◌else◌}
use Rattle.std.specs.List.{list_any}
use Rattle.std.specs.Str.{bytes_eq}
use Rattle.nm_base.specs.Tag.{tag_number}
use Rattle.nm_base.specs.Token.{token_of}
use Rattle.nm_base.specs.Words.{manager}
use Rattle.nm_base.specs.declared.number.EditNo.{EditNo}
use Rattle.nm_base.specs.declared.tag.Tag.{Tag}
use Rattle.nm_proto.specs.declared.message.Marks.{Marks}
use Rattle.nm_proto.specs.declared.message.Store.{Store}
use Rattle.nm_proto.specs.declared.message.Store.TheVariants.{Running, Candidate}
use Rattle.nm_proto.specs.declared.message.DefaultOperation.{DefaultOperation}
use Rattle.nm_proto.specs.declared.message.DefaultOperation.TheVariants.{Merge, Replace, Nothing}
use Rattle.nm_proto.specs.declared.message.Request.{Request}
use Rattle.nm_proto.specs.declared.message.Request.TheVariants.{Lock, Edit, Validate, Commit, CancelCommit, Discard, HasMark, Kill, CloseSession}
use Rattle.nm_proto.specs.declared.message.Reply.{Reply}
use Rattle.nm_proto.specs.declared.message.Reply.TheVariants.{Opened, Error}
use Rattle.nm_proto.specs.declared.journal.AbortCause.{AbortCause}
use Rattle.nm_proto.specs.declared.journal.AbortCause.TheVariants.{Refused, Broken, Forgotten, Lapsed}
use Rattle.nm_proto.specs.declared.plan.ChangePlan.{ChangePlan}
use Rattle.nm_proto.specs.declared.plan.PlannedEdit.{PlannedEdit}
use Rattle.nm_manager.specs.Requests.{edit_for}
use Rattle.nm_history.specs.declared.event.DeviceEvent.{DeviceEvent}
use Rattle.nm_history.specs.declared.event.DeviceEvent.TheVariants.{Entered, Asked, Lost, Advanced, Restarted}
use Rattle.nm_history.specs.declared.event.Noted.{Noted}
use Rattle.nm_history.specs.Outcome.{is_token}
use Rattle.nm_cells.specs.declared.pass.PassEntry.{PassEntry}
use Rattle.nm_cells.specs.Ended.{opened_in, is_kill}
use Rattle.nm_slots.specs.declared.course.Reached.{Reached}
use Rattle.nm_slots.specs.declared.course.Reached.TheVariants.{Six, Over}

-- ---- the requests

-- two default operations are one
abbrev pub same_operation : DefaultOperation → DefaultOperation → Bool
same_operation Merge Merge = true
same_operation Replace Replace = true
same_operation Nothing Nothing = true
same_operation _ _ = false

-- a number is this one
abbrev pub is_number : ℕ → Option ℕ → Bool
is_number number None = false
is_number number (Some other) = other == number

-- the change set that a token names is this one
abbrev pub is_named : ℕ → Option ℕ → Bool
is_named change None = false
is_named change (Some other) = change == other

-- the running datastore, and not the candidate
abbrev pub is_running : Store → Bool
is_running Running = true
is_running Candidate = false

-- the edit that is planned, with its default operation
abbrev pub is_planned_edit : Option PlannedEdit → EditNo → DefaultOperation → Bool
is_planned_edit None edit operation = false
is_planned_edit (Some planned) edit operation = (planned.edit.0 == edit.0) && same_operation planned.default_operation operation

-- the mark that comes is that of the change set
abbrev pub adds_mark : ℕ → Option Marks → Bool
adds_mark change None = false
adds_mark change (Some marks) = marks.add == change

-- the commit that brings a change set, which waits so long to be confirmed (RFC 6241 section 8.4)
abbrev pub brings : ℕ → ℕ → Bool → Option ℕ → Option (List ℕ) → Option (List ℕ) → Bool
brings seconds change confirmed timeout persist persist_id =
    confirmed && is_number seconds timeout && is_token (token_of change) persist && is_none persist_id

-- the commit that confirms it
abbrev pub confirms : ℕ → Bool → Option (List ℕ) → Option (List ℕ) → Bool
confirms change confirmed persist persist_id = not confirmed && is_none persist && is_token (token_of change) persist_id

-- what else is asked for a change set: that candidate is as running and its lock, for the mark, the confirm, the cancel, the end
abbrev pub follows_six : ℕ → Request → Bool
follows_six change (Lock store) = not (is_running store)
follows_six change Discard = true
follows_six change (HasMark other) = other == change
follows_six change (Commit confirmed timeout persist persist_id) = confirms change confirmed persist persist_id
follows_six change (CancelCommit persist_id) = is_token (token_of change) persist_id
follows_six change CloseSession = true
follows_six change _ = false

-- ---- what may follow the six

module _ (change device : ℕ) where
  -- a kill of a session that the pass opened, by one that it didn't open, or one of the requests that may follow
  abbrev pub is_later_request : List PassEntry → ℕ → Request → Bool
  is_later_request before asker (Kill other) = opened_in device other before && not (opened_in device asker before)
  is_later_request before asker request = follows_six change request

  -- a loss, a restart, another session of the manager, and what is asked then
  abbrev pub is_later : List PassEntry → DeviceEvent → Bool
  is_later before (Entered user) = bytes_eq user manager
  is_later before (Asked asker request) = is_later_request before asker request
  is_later before (Lost session) = true
  is_later before (Advanced seconds) = false
  is_later before Restarted = true

-- ---- along a pass

-- the session of the six is the first that was opened for them
abbrev pub first_session : Option ℕ → ℕ → ℕ
first_session None opened = opened
first_session (Some session) opened = session

-- one of the six was answered; an error ends them, and so does a reply that never came
abbrev pub answered_with : ℕ → Option ℕ → Option Reply → Reached
answered_with done session None = Over done session None
answered_with done session (Some (Error tag holder path)) = Over done session (Some tag)
answered_with done session (Some (Opened opened)) = Six (done + 1) (Some (first_session session opened))
answered_with done session (Some reply) = Six (done + 1) session

module _ (plan : ChangePlan) (change device : ℕ) where
  -- the request that comes where so many of the six are done; the first asks for the session
  abbrev pub is_nth : ℕ → Request → Bool
  is_nth done (Lock store) = if is_running store then done == 1 else done == 2
  is_nth done (Edit edit operation marks) = (done == 3) && is_planned_edit (edit_for plan device) edit operation && adds_mark change marks
  is_nth done Validate = done == 4
  is_nth done (Commit confirmed timeout persist persist_id) = (done == 5) && brings plan.timeout change confirmed timeout persist persist_id
  is_nth done _ = false

  -- the next of the six is asked on the session that they have
  abbrev pub is_next_request : ℕ → Option ℕ → ℕ → Request → Bool
  is_next_request done session asker request = is_number asker session && is_nth done request

  -- what happened is the next of the six
  abbrev pub is_next_event : ℕ → Option ℕ → DeviceEvent → Bool
  is_next_event done session (Entered user) = (done == 0) && bytes_eq user manager
  is_next_event done session (Asked asker request) = is_next_request done session asker request
  is_next_event done session (Lost other) = false
  is_next_event done session (Advanced seconds) = false
  is_next_event done session Restarted = false

  -- the same where not all six are done
  abbrev pub is_next : ℕ → Option ℕ → DeviceEvent → Bool
  is_next done session event = nat_lt done 6 && is_next_event done session event

  -- this may come there next
  abbrev pub may_come : List PassEntry → Reached → DeviceEvent → Bool
  may_come before (Six done session) event = is_next done session event || is_later change device before event
  may_come before (Over done session refused) event = is_later change device before event

  -- how far the pass is after an entry
  abbrev pub goes : Reached → Noted → Reached
  goes (Six done session) entry = if is_next done session entry.event then answered_with done session entry.reply else Over done session None
  goes (Over done session refused) entry = Over done session refused

  -- how far it is there after an entry of any device; None where that may not come there
  abbrev pub goes_at : List PassEntry → Reached → PassEntry → Option Reached
  goes_at before at entry =
      if entry.device == device then (if may_come before at entry.noted.event then Some (goes at entry.noted) else None) else Some at

  -- the same where it may have gone wrong before
  abbrev pub then_goes : List PassEntry → Option Reached → PassEntry → Option Reached
  then_goes before None entry = None
  then_goes before (Some at) entry = goes_at before at entry

  -- along the later entries
  abbrev pub reached_from : List PassEntry → Option Reached → List PassEntry → Option Reached
  reached_from before at [] = at
  reached_from before at (entry ∷ later) = reached_from (before ++ entry ∷ []) (then_goes before at entry) later

  -- how far a pass has come there: None where it holds what may not come
  abbrev pub reached : List PassEntry → Option Reached
  reached entries = reached_from [] (Some (Six 0 None)) entries

  -- ---- what may be asked

  -- the session was opened by the pass
  abbrev pub asks_on : List PassEntry → DeviceEvent → Bool
  asks_on entries (Entered user) = true
  asks_on entries (Asked session request) = opened_in device session entries
  asks_on entries (Lost session) = false
  asks_on entries (Advanced seconds) = false
  asks_on entries Restarted = false

  -- this may come next in a pass that has come so far
  abbrev pub may_go : List PassEntry → DeviceEvent → Option Reached → Bool
  may_go entries event None = false
  may_go entries event (Some at) = may_come entries at event

  -- the coordinator may ask this next: on a session of its own, and as the course goes
  abbrev pub may_ask : List PassEntry → Option DeviceEvent → Bool
  may_ask entries None = false
  may_ask entries (Some event) = asks_on entries event && may_go entries event (reached entries)

-- at each device the pass is a beginning of the six and what may follow
pub record KeepsCourse (plan : ChangePlan) (change : ℕ) (entries : List PassEntry) : Type 0 where
  pub each : (device : ℕ) → is_some (reached plan change device entries) ≡ true

-- ---- causes

-- it was refused with this tag
abbrev pub is_tag : Tag → Option Tag → Bool
is_tag tag None = false
is_tag tag (Some other) = tag_number other == tag_number tag

-- the last of the six was refused with this tag
abbrev pub is_refused_with : Tag → Option Reached → Bool
is_refused_with tag None = false
is_refused_with tag (Some (Six done session)) = false
is_refused_with tag (Some (Over done session refused)) = is_tag tag refused

-- the session of the six
abbrev pub session_of : Option Reached → Option ℕ
session_of None = None
session_of (Some (Six done session)) = session
session_of (Some (Over done session refused)) = session

-- how many of the six were answered without an error
abbrev pub done_of : Option Reached → ℕ
done_of None = 0
done_of (Some (Six done session)) = done
done_of (Some (Over done session refused)) = done

-- a kill, a restart and the loss of this session break the course
abbrev pub breaks_course : Option ℕ → DeviceEvent → Bool
breaks_course session (Entered user) = false
breaks_course session (Asked asker request) = is_kill request
breaks_course session (Lost other) = is_number other session
breaks_course session (Advanced seconds) = false
breaks_course session Restarted = true

-- an entry of the device may have broken it, as may one of which the coordinator didn't learn the place
abbrev pub may_break : ℕ → Option ℕ → PassEntry → Bool
may_break device session entry = entry.device == device && (entry.position == 0 || breaks_course session entry.noted.event)

-- the pass has why a change set is aborted: the refusal of one of the six, or what broke their course. A coordinator forgets nothing
abbrev pub cause_stands : ChangePlan → ℕ → List PassEntry → AbortCause → Bool
cause_stands plan change entries (Refused device tag) = is_refused_with tag (reached plan change device entries)
cause_stands plan change entries (Broken device) = list_any (may_break device (session_of (reached plan change device entries))) entries
cause_stands plan change entries Forgotten = false
cause_stands plan change entries (Lapsed device) = false
