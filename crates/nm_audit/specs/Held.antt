-- Who holds the entries of a history (this project's own): each is of a call, and stands in the pass of who made it.
use Rattle.std.specs.Prelude.{◌≡◌, ℕ, ◌+◌, ◌-◌, ◌==◌, ◌&&◌, ◌||◌, nat_lt, Bool, true, false, not, List, fold, length, replicate, slice_index_or, slice_set, Some, None, if◌then◌else◌}
use Rattle.std.specs.List.{list_any}
use Rattle.nm_history.specs.declared.event.DeviceEvent.{DeviceEvent}
use Rattle.nm_history.specs.declared.event.DeviceEvent.TheVariants.{Entered, Asked, Lost, Advanced, Restarted}
use Rattle.nm_history.specs.declared.event.Noted.{Noted}
use Rattle.nm_cells.specs.declared.pass.PassEntry.{PassEntry}
use Rattle.nm_cells.specs.Pass.{PassState}
use Rattle.nm_cells.specs.State.{CellView}
use Rattle.nm_cells.specs.Ended.{opened_in}
use Rattle.nm_audit.specs.declared.mismatch.Mismatch.{Mismatch}
use Rattle.nm_audit.specs.declared.mismatch.Mismatch.TheVariants.{Entry}
use Rattle.nm_audit.specs.declared.slot.SlotRecord.{SlotRecord}
use Rattle.nm_audit.specs.Audited.{history_of, number_of}
use Rattle.nm_audit.specs.First.{FitTo, IsFirst}

-- ---- one pass

-- a request on a session is its asker's where the pass holds that it was opened there
abbrev pub is_own : ℕ → List PassEntry → DeviceEvent → Bool
is_own device all (Entered user) = true
is_own device all (Asked session request) = opened_in device session all
is_own device all (Lost session) = true
is_own device all (Advanced seconds) = true
is_own device all Restarted = true

-- an entry of the pass is the one at this place of the device, and its own
abbrev pub is_kept_at : ℕ → ℕ → List PassEntry → PassEntry → Bool
is_kept_at device place all entry =
    entry.device == device && (entry.position == place && is_own device all entry.noted.event)

-- the pass holds the entry at this place of the device as its own
abbrev pub keeps_at : ℕ → ℕ → PassState → Bool
keeps_at device place pass = list_any (is_kept_at device place pass.entries) pass.entries

-- the pass of a slot does
abbrev pub slot_keeps_at : ℕ → ℕ → SlotRecord → Bool
slot_keeps_at device place slot = keeps_at device place slot.pass

-- a pass does
abbrev pub is_kept : List SlotRecord → List PassState → ℕ → ℕ → Bool
is_kept slots operators device place =
    list_any (slot_keeps_at device place) slots || list_any (keeps_at device place) operators

-- nobody asks for the clock to rise
abbrev pub is_advance : DeviceEvent → Bool
is_advance (Entered user) = false
is_advance (Asked session request) = false
is_advance (Lost session) = false
is_advance (Advanced seconds) = true
is_advance Restarted = false

-- ---- one table for each device

-- the places of a device that are held, with one more of them, from 0
abbrev pub with_place : List Bool → ℕ → List Bool
with_place held place = if nat_lt place (length held) then slice_set held place true else held

-- an entry of a pass is of this device, stands at a place, and is the pass's own
abbrev pub marks : ℕ → List PassEntry → PassEntry → Bool
marks device all entry = entry.device == device && (not (entry.position == 0) && is_own device all entry.noted.event)

-- the places that are held, with an entry of a pass more
abbrev pub marked_by : ℕ → List PassEntry → List Bool → PassEntry → List Bool
marked_by device all held entry = if marks device all entry then with_place held (entry.position - 1) else held

-- with a pass more
abbrev pub marked : ℕ → List Bool → List PassEntry → List Bool
marked device held entries = fold (marked_by device entries) held entries

abbrev pub marked_by_slot : ℕ → List Bool → SlotRecord → List Bool
marked_by_slot device held slot = marked device held slot.pass.entries

abbrev pub marked_by_pass : ℕ → List Bool → PassState → List Bool
marked_by_pass device held pass = marked device held pass.entries

-- which of so many places of a device are held
abbrev pub held_places : List SlotRecord → List PassState → ℕ → ℕ → List Bool
held_places slots operators device count =
    fold (marked_by_pass device) (fold (marked_by_slot device) (replicate count false) slots) operators

-- ---- histories

-- an entry of a history is held, or nobody's
abbrev pub is_right : List Bool → ℕ → Noted → Bool
is_right held place entry = is_advance entry.event || slice_index_or held place false

abbrev pub KeptFits : List Bool → ℕ → Noted → Type 0
KeptFits held place entry = is_right held place entry ≡ true

-- it isn't, and is told
pub record KeptFails (device : ℕ) (held : List Bool) (place : ℕ) (entry : Noted) (mismatch : Mismatch) : Type 0 where
  pub unfit : is_right held place entry ≡ false
  pub told : mismatch ≡ Entry device (place + 1) None (Some entry) None

module _ {Config Node : Type 0} (slots : List SlotRecord) (operators : List PassState) where
  -- which places of a device's history are held
  abbrev pub held_of : CellView Config Node → List Bool
  held_of cell = held_places slots operators (number_of cell) (length (history_of cell))

  -- all entries of a device's history are held, or nobody's
  abbrev pub CellKept : ℕ → CellView Config Node → Type 0
  CellKept place cell = FitTo (KeptFits (held_of cell)) (history_of cell) (length (history_of cell))

  -- the first that isn't is told
  abbrev pub CellUnkept : ℕ → CellView Config Node → Mismatch → Type 0
  CellUnkept place cell mismatch =
      IsFirst (KeptFits (held_of cell)) (KeptFails (number_of cell) (held_of cell)) (history_of cell) mismatch
