-- What holds at a device while a run goes on (this project's own, over RFC 6241 sections 7.5, 8.3 and 8.4).
use Rattle.std.specs.Prelude.{ℕ, ◌+◌, ◌-◌, ◌==◌, List, [], ◌∷◌, ◌++◌, Bool, true, false, not, ◌&&◌, ◌||◌, Option, Some, None, is_some, map, slice_get, if◌then◌else◌}
use Rattle.std.specs.List.{flat_map}
use Rattle.nm_proto.specs.declared.message.Store.TheVariants.{Running, Candidate}
use Rattle.nm_proto.specs.declared.plan.Event.{Event}
use Rattle.nm_proto.specs.declared.plan.Event.TheVariants.{Deliver, Lose, Advance, Restart, Foreign, Leave}
use Rattle.nm_history.specs.declared.event.Noted.{Noted}
use Rattle.nm_history.specs.History.{RecordedState}
use Rattle.nm_world.specs.declared.happened.TraceEntry.{TraceEntry}
use Rattle.nm_picture_shapes.specs.declared.rows.Row.{Row}
use Rattle.nm_picture_shapes.specs.declared.effect.Effect.{Effect}
use Rattle.nm_picture_shapes.specs.declared.effect.Effect.TheVariants.{Locks, Unlocks, Ends, Edits, Discards, Begins, Confirms, Cancels, Passes, Restarts}
use Rattle.nm_picture_shapes.specs.declared.marks.Bar.{Bar}
use Rattle.nm_picture_shapes.specs.declared.marks.BarKind.{BarKind}
use Rattle.nm_picture_shapes.specs.declared.marks.BarKind.TheVariants as kinds
use Rattle.nm_picture_shapes.specs.declared.marks.DeviceMark.{DeviceMark}
use Rattle.nm_picture_shapes.specs.declared.marks.DeviceMark.TheVariants.{Held, Changed, Undone, Left, NothingPending}
use Rattle.nm_picture_shapes.specs.declared.marks.LaneMark.{LaneMark}
use Rattle.nm_picture_shapes.specs.declared.marks.LaneRow.{LaneRow}
use Rattle.nm_picture_shapes.specs.declared.marks.Hold.{Hold}
use Rattle.nm_picture_shapes.specs.declared.marks.Wait.{Wait}
use Rattle.nm_picture_shapes.specs.declared.marks.Lane.{Lane}
use Rattle.nm_picture_shapes.specs.Effects.{effect_of, misses_pending}

-- ---- the rows of a device

-- the device that notes an event
abbrev pub noting : Event → Option ℕ
noting (Deliver change device link) = Some device
noting (Lose change device link) = Some device
noting (Advance device seconds) = Some device
noting (Restart device) = Some device
noting (Foreign operator device request) = Some device
noting (Leave operator device) = Some device
noting _ = None

-- it is this one
abbrev pub is_device : Option ℕ → ℕ → Bool
is_device None device = false
is_device (Some other) device = other == device

-- a device notes an event
abbrev pub is_noted_by : Event → ℕ → Bool
is_noted_by event device = is_device (noting event) device

-- the row of an event, where the device notes it
abbrev pub lane_row_if : Option TraceEntry → ℕ → Row → List LaneRow
lane_row_if None device row = []
lane_row_if (Some passed) device row = if is_noted_by passed.event device then record { place = row.place; line = row.line } ∷ [] else []

-- the same of a row, by the trail
unfoldable pub lane_row : ℕ → List TraceEntry → Row → List LaneRow
lane_row device trail row = lane_row_if (slice_get trail row.place) device row

-- ---- what holds after an entry

-- nothing holds
abbrev pub nothing : Lane
nothing = record { running = None; candidate = None; pending = None; is_edited = false }

-- a session holds a lock
abbrev pub holds : Option Hold → ℕ → Bool
holds None session = false
holds (Some hold) session = hold.session == session

-- a lock after a session ended
abbrev pub without : Option Hold → ℕ → Option Hold
without None session = None
without (Some hold) session = if hold.session == session then None else Some hold

-- a lock that a session takes
abbrev pub taken : ℕ → LaneRow → Option Hold
taken session row = Some (record { session = session; place = row.place; since = row.line })

-- the lock of running
abbrev pub running_after : Option Hold → Effect → LaneRow → Option Hold
running_after hold (Locks Running session) row = taken session row
running_after hold (Unlocks Running) row = None
running_after hold (Ends session) row = without hold session
running_after hold Restarts row = None
running_after hold _ row = hold

-- the lock of the candidate
abbrev pub candidate_after : Option Hold → Effect → LaneRow → Option Hold
candidate_after hold (Locks Candidate session) row = taken session row
candidate_after hold (Unlocks Candidate) row = None
candidate_after hold (Ends session) row = without hold session
candidate_after hold Restarts row = None
candidate_after hold _ row = hold

-- a pending commit, which waits so many seconds from now on
abbrev pub begun : Option Wait → ℕ → LaneRow → Option Wait
begun None timeout row = Some (record { place = row.place; since = row.line; left = timeout })
begun (Some wait) timeout row = Some (record { place = wait.place; since = wait.since; left = timeout })

-- the same after so many seconds
abbrev pub later : Option Wait → ℕ → Option Wait
later None seconds = None
later (Some wait) seconds = Some (record { place = wait.place; since = wait.since; left = wait.left - seconds })

-- the pending commit after what happened
abbrev pub pending_by : Option Wait → Effect → LaneRow → Option Wait
pending_by wait (Begins timeout) row = begun wait timeout row
pending_by wait (Passes seconds) row = later wait seconds
pending_by wait Confirms row = None
pending_by wait Cancels row = None
pending_by wait Restarts row = None
pending_by wait _ row = wait

-- the same, where that didn't undo it
abbrev pub pending_after : Option Wait → Effect → Bool → LaneRow → Option Wait
pending_after wait effect undone row = if undone then None else pending_by wait effect row

-- the candidate was edited and not committed: whose lock goes with its session discards it
abbrev pub edited_after : Lane → Effect → Bool
edited_after lane Edits = true
edited_after lane Discards = false
edited_after lane (Begins timeout) = false
edited_after lane Confirms = false
edited_after lane Restarts = false
edited_after lane (Unlocks Candidate) = false
edited_after lane (Ends session) = lane.is_edited && not (holds lane.candidate session)
edited_after lane _ = lane.is_edited

-- what holds after what happened
abbrev pub lane_after : Lane → Effect → Bool → LaneRow → Lane
lane_after lane effect undone row = record {
  running = running_after lane.running effect row;
  candidate = candidate_after lane.candidate effect row;
  pending = pending_after lane.pending effect undone row;
  is_edited = edited_after lane effect;
}

-- ---- what is shown of it

-- a bar from the event that began it
abbrev pub bar : BarKind → ℕ → ℕ → Option ℕ → List DeviceMark
bar kind place from to = Held (record { kind = kind; place = place; from = from; to = to }) ∷ []

-- a lock that was held and isn't any more
abbrev pub lock_ended : BarKind → Option Hold → Option Hold → Option ℕ → List DeviceMark
lock_ended kind before (Some hold) to = []
lock_ended kind None None to = []
lock_ended kind (Some hold) None to = bar kind hold.place hold.since to

-- a commit that was pending and isn't any more
abbrev pub wait_ended : Option Wait → Option Wait → Option ℕ → List DeviceMark
wait_ended before (Some wait) to = []
wait_ended None None to = []
wait_ended (Some wait) None to = bar kinds.Pending wait.place wait.since to

-- what held and holds no more
abbrev pub bars_ended : Lane → Lane → Option ℕ → List DeviceMark
bars_ended before after to =
    lock_ended kinds.Running before.running after.running to
    ++ lock_ended kinds.Candidate before.candidate after.candidate to
    ++ wait_ended before.pending after.pending to

-- a commit was done
abbrev pub is_commit : Effect → Bool
is_commit (Begins timeout) = true
is_commit Confirms = true
is_commit _ = false

-- a pending commit was cancelled
abbrev pub is_cancel : Effect → Bool
is_cancel Cancels = true
is_cancel _ = false

-- running became an edited candidate
abbrev pub changed_at : Lane → Effect → LaneRow → List DeviceMark
changed_at before effect row = if before.is_edited && is_commit effect then Changed row.place row.line ∷ [] else []

-- running became what it was before the pending commit
abbrev pub undone_at : Effect → Bool → LaneRow → List DeviceMark
undone_at effect undone row = if undone || is_cancel effect then Undone row.line ∷ [] else []

-- how long a pending commit waits yet
abbrev pub left_by : Option Wait → LaneRow → List DeviceMark
left_by None row = []
left_by (Some wait) row = Left row.line wait.left ∷ []

-- the same, where the clock rose
abbrev pub left_at : Lane → Effect → LaneRow → List DeviceMark
left_at after (Passes seconds) row = left_by after.pending row
left_at after _ row = []

-- a pending commit was wanted, and there was none
abbrev pub missing_at : Lane → Noted → LaneRow → List DeviceMark
missing_at before entry row = if not (is_some before.pending) && misses_pending entry then NothingPending row.line ∷ [] else []

-- what an entry shows, by what it does and what holds before and after it
abbrev pub marks_at : Lane → Lane → Noted → Effect → LaneRow → List DeviceMark
marks_at before after entry effect row =
    bars_ended before after (Some row.line) ++ changed_at before effect row ++ undone_at effect entry.undone row ++ left_at after effect row
    ++ missing_at before entry row

-- ---- a history

-- what holds after an entry, where there is one
abbrev pub lane_if : Option Noted → Lane → LaneRow → Lane
lane_if None lane row = lane
lane_if (Some entry) lane row = lane_after lane (effect_of entry) entry.undone row

-- what an entry shows, where there is one
abbrev pub marks_if : Option Noted → Lane → LaneRow → List DeviceMark
marks_if None lane row = []
marks_if (Some entry) lane row = marks_at lane (lane_after lane (effect_of entry) entry.undone row) entry (effect_of entry) row

-- what the entries of a history show from one on, at these rows, and at last what still holds
abbrev pub marks_from : List Noted → ℕ → Lane → List LaneRow → List DeviceMark
marks_from history at lane [] = bars_ended lane nothing None
marks_from history at lane (row ∷ rows) = marks_if (slice_get history at) lane row ++ marks_from history (at + 1) (lane_if (slice_get history at) lane row) rows

-- what a picture shows at the lane of a device: each entry of its history, in order, at the row of the event that it notes
abbrev pub marks_of : ℕ → List TraceEntry → List Row → List Noted → List DeviceMark
marks_of device trail rows history = marks_from history 0 nothing (flat_map (lane_row device trail) rows)

-- a mark at a device
abbrev pub at_device : ℕ → DeviceMark → LaneMark
at_device device mark = record { device = device; mark = mark }

-- what is shown at a device, as marks of its lane
unfoldable pub device_marks : ℕ → List TraceEntry → List Row → List Noted → List LaneMark
device_marks device trail rows history = map (at_device device) (marks_of device trail rows history)

-- what is shown at the devices from a number on
abbrev pub lane_marks : {Config Node : Type 0} → List TraceEntry → List Row → ℕ → List (RecordedState Config Node) → List LaneMark
lane_marks trail rows device [] = []
lane_marks trail rows device (r ∷ rs) = device_marks device trail rows r.history ++ lane_marks trail rows (device + 1) rs
