-- Which events of a run are drawn, and on which line (this project's own).
use Rattle.std.specs.Prelude.{ℕ, suc, zero, ◌+◌, ◌-◌, List, [], ◌∷◌, ◌++◌, length, take, drop, slice_get, nat_le, nat_lt, Bool, true, false, ◌||◌, ◌&&◌, ◌==◌, Option, Some, None, if◌then◌else◌}
use Rattle.nm_proto.specs.declared.message.Reply.{Reply}
use Rattle.nm_proto.specs.declared.message.Reply.TheVariants.{Error}
use Rattle.nm_world.specs.declared.happened.Happened.{Happened}
use Rattle.nm_world.specs.declared.happened.Happened.TheVariants as happened
use Rattle.nm_world.specs.declared.happened.TraceEntry.{TraceEntry}
use Rattle.nm_picture_shapes.specs.declared.rows.Active.{Active}
use Rattle.nm_picture_shapes.specs.declared.rows.Kept.{Kept}
use Rattle.nm_picture_shapes.specs.declared.rows.Look.{Look}
use Rattle.nm_picture_shapes.specs.declared.rows.Look.TheVariants.{Shown, Folds, Hidden}
use Rattle.nm_picture_shapes.specs.declared.rows.Row.{Row}

-- ---- events that did something

-- the event changed nothing
abbrev pub is_idle : Happened → Bool
is_idle happened.Idle = true
is_idle _ = false

-- a device refused what was asked
abbrev pub is_refusal : Reply → Bool
is_refusal (Error tag session path) = true
is_refusal _ = false

-- a decision, a fault or a refusal
abbrev pub is_notable : Happened → Bool
is_notable happened.Idle = false
is_notable happened.Started = false
is_notable (happened.Sent device link request) = false
is_notable (happened.Decided what) = true
is_notable happened.Ended = false
is_notable (happened.Replied reply undone) = undone || is_refusal reply
is_notable happened.Handled = false
is_notable happened.Broken = true
is_notable (happened.Lost undone) = true
is_notable (happened.Left undone) = true
is_notable (happened.Now clock undone) = true
is_notable (happened.Restarted undone) = true
is_notable happened.Forgot = true
is_notable happened.Crashed = true

-- an event, where it did something
abbrev pub active_if : ℕ → Happened → List Active
active_if place what = if is_idle what then [] else record { place = place; is_notable = is_notable what } ∷ []

-- the events that did something, from a place of the trail on
abbrev pub actives_from : ℕ → List TraceEntry → List Active
actives_from place [] = []
actives_from place (passed ∷ trail) = active_if place passed.happened ++ actives_from (place + 1) trail

-- ---- what is folded

-- one of these is a decision, a fault or a refusal
abbrev pub has_notable : List Active → Bool
has_notable [] = false
has_notable (active ∷ actives) = active.is_notable || has_notable actives

-- one of the three before a place, of the three behind it, or the one there
abbrev pub is_near : List Active → ℕ → Bool
is_near actives place = has_notable (take 7 (drop (place - 3) actives))

-- an event is drawn for itself: where it is a decision, a fault or a refusal, or near one or an end, or where all have room
unfoldable pub is_kept : List Active → ℕ → Active → Bool
is_kept actives place active = active.is_notable || nat_le (length actives) 2000 || nat_lt place 3 || nat_le (length actives - place) 3 || is_near actives place

-- each event, with whether it is drawn for itself
abbrev pub kept_from : List Active → ℕ → List Active → List Kept
kept_from actives place [] = []
kept_from actives place (active ∷ rest) = record { place = active.place; is_kept = is_kept actives place active } ∷ kept_from actives (place + 1) rest

-- how many events at the beginning aren't
abbrev pub stretch : List Kept → ℕ
stretch [] = 0
stretch (one ∷ kept) = if one.is_kept then 0 else suc (stretch kept)

-- ---- lines

-- how the first of these events is drawn
abbrev pub look_of : Bool → List Kept → Look
look_of before [] = Shown
look_of before (one ∷ kept) = if one.is_kept then Shown else (if before then Folds (stretch (one ∷ kept)) else Hidden)

-- the line of an event, where the next free line is this. One in a fold has that of the fold
abbrev pub line_of : Look → ℕ → ℕ
line_of Shown next = next
line_of (Folds count) next = next
line_of Hidden next = next - 1

-- the next free line behind an event
abbrev pub line_behind : Look → ℕ → ℕ
line_behind Shown next = next + 1
line_behind (Folds count) next = next + 1
line_behind Hidden next = next

-- the row of an event
abbrev pub row_of : ℕ → Look → ℕ → Row
row_of place look next = record { place = place; line = line_of look next; look = look }

-- the rows of events, where the one before them is drawn for itself or not, and the next free line is this
abbrev pub rows_from : Bool → ℕ → List Kept → List Row
rows_from before next [] = []
rows_from before next (one ∷ kept) =
    row_of one.place (look_of before (one ∷ kept)) next ∷ rows_from one.is_kept (line_behind (look_of before (one ∷ kept)) next) kept

-- a row for each event that did something, in order
abbrev pub rows_of : List TraceEntry → List Row
rows_of trail = rows_from true 0 (kept_from (actives_from 0 trail) 0 (actives_from 0 trail))

-- the line behind a row
abbrev pub line_after : Option Row → ℕ
line_after None = 0
line_after (Some row) = row.line + 1

-- how many lines rows take: the last row has the last
abbrev pub lines_of : List Row → ℕ
lines_of rows = line_after (slice_get rows (length rows - 1))

-- the line of the first row from a place of the trail on
abbrev pub line_from : List Row → ℕ → Option ℕ
line_from [] place = None
line_from (row ∷ rows) place = if nat_le place row.place then Some row.line else line_from rows place

-- ---- for laws

-- the places of the events that did something, from one on
abbrev pub places_from : ℕ → List TraceEntry → List ℕ
places_from place [] = []
places_from place (passed ∷ trail) = if is_idle passed.happened then places_from (place + 1) trail else place ∷ places_from (place + 1) trail

-- a row has a line of its own
abbrev pub is_shown : Look → Bool
is_shown Shown = true
is_shown (Folds count) = false
is_shown Hidden = false

-- the event at a place of the trail has a line of its own
abbrev pub shows : ℕ → List Row → Bool
shows place [] = false
shows place (row ∷ rows) = (row.place == place && is_shown row.look) || shows place rows
