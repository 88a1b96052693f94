-- A device of a run with its history, as its type keeps it (this project's own).
use Rattle.std.specs.Prelude.{◌≡◌, ◌≤◌, ℕ, ◌-◌, ◌*◌, ◌^◌, ◌==◌, Bool, true, false, ◌&&◌, nat_le, List, [], ◌∷◌, ◌++◌, slice_get, Option, Some, None, if◌then◌else◌}
use Rattle.std.specs.List.{list_any}
use Rattle.std.specs.Str.{bytes_eq}
use Rattle.nm_base.specs.Words.{manager}
use Rattle.nm_proto.specs.declared.message.Reply.{Reply}
use Rattle.nm_proto.specs.declared.message.Reply.TheVariants.{Done, Opened, LockId, Mark, Rows, Error}
use Rattle.nm_proto.specs.Content.{Meaning}
use Rattle.nm_device.specs.Device.{DeviceState, IsSound, fresh_device}
use Rattle.nm_history.specs.declared.event.DeviceEvent.{DeviceEvent}
use Rattle.nm_history.specs.declared.event.DeviceEvent.TheVariants.{Entered, Asked, Lost, Advanced, Restarted}
use Rattle.nm_history.specs.declared.event.Noted.{Noted}
use Rattle.nm_history.specs.declared.recorded.Told.{Told}
use Rattle.nm_history.specs.History.{RecordedState, Happened, recorded, recorded_with}
use Rattle.nm_history.specs.Leads.{Leads}
use Rattle.nm_run_plan.specs.Run.{Run}
use Rattle.nm_cells.specs.Faults.{FaultsState, counted_if}

-- ---- whose sessions

-- a reply opened the session
abbrev pub opens : ℕ → Option Reply → Bool
opens session None = false
opens session (Some Done) = false
opens session (Some (Opened other)) = other == session
opens session (Some (LockId id)) = false
opens session (Some (Mark there)) = false
opens session (Some (Rows count)) = false
opens session (Some (Error tag holder path)) = false

-- the user who asked for a session is the manager
abbrev pub enters_as_manager : DeviceEvent → Bool
enters_as_manager (Entered user) = bytes_eq user manager
enters_as_manager (Asked session request) = false
enters_as_manager (Lost session) = false
enters_as_manager (Advanced seconds) = false
enters_as_manager Restarted = false

-- the entry opened this session for the manager
abbrev pub opens_for_manager : ℕ → Noted → Bool
opens_for_manager session entry = enters_as_manager entry.event && opens session entry.reply

-- the session was opened for the manager
abbrev pub is_managers : ℕ → List Noted → Bool
is_managers session history = list_any (opens_for_manager session) history

-- these are the sessions that were opened for the manager
pub record AreManagers (sessions : List ℕ) (history : List Noted) : Type 0 where
  pub are : (session : ℕ) → list_any (λ other. other == session) sessions ≡ is_managers session history

-- the sessions with one that a reply opened for the manager
abbrev pub with_opened : Bool → Reply → List ℕ → List ℕ
with_opened false reply sessions = sessions
with_opened true (Opened session) sessions = sessions ++ session ∷ []
with_opened true Done sessions = sessions
with_opened true (LockId id) sessions = sessions
with_opened true (Mark there) sessions = sessions
with_opened true (Rows count) sessions = sessions
with_opened true (Error tag holder path) sessions = sessions

-- ---- devices

-- a device beside its history
abbrev pub beside : {Config Node : Type 0} → DeviceState Config Node → List Noted → RecordedState Config Node
beside device history = record { device = device; history = history }

-- the number of a device, the device with its history, how many more entries there is room for, and the faults that are
-- planned for it
pub record KeptState (Config Node : Type 0) : Type 0 where
  pub number : ℕ
  pub recorded : RecordedState Config Node
  pub spare : ℕ
  pub faults : FaultsState

module _ {Config Node : Type 0} where
  -- a device of which nothing has happened yet
  abbrev pub fresh_kept : ℕ → Config → FaultsState → KeptState Config Node
  fresh_kept number running faults = record { number = number; recorded = recorded running; spare = 0; faults = faults }

  -- something happened, and used up one place
  abbrev pub kept_with : KeptState Config Node → RecordedState Config Node → KeptState Config Node
  kept_with kept after = record kept { recorded = after; spare = kept.spare - 1 }

  -- there is room for three entries at least
  abbrev pub with_room : KeptState Config Node → KeptState Config Node
  with_room kept = record kept { spare = if nat_le 3 kept.spare then kept.spare else 3 }

  -- the faults that have come are others
  abbrev pub with_faults : KeptState Config Node → FaultsState → KeptState Config Node
  with_faults kept faults = record kept { faults = faults }

module _ {C Config TheEdit Node : Type 0} (meaning : C → Meaning Config TheEdit Node) (run : Run C Config TheEdit) where
  -- what is true of every device of a run: it began with the run's first configuration of its number, its faults are those
  -- that the run plans for it, its history is legal and whole and leads to it, and its clock is at most 2 ^ 32 seconds for each
  -- fault that came, of which there are at most 1,000
  pub record IsKept (kept : KeptState Config Node) : Type 0 where
    pub first : Config
    pub first_is : slice_get run.starts (kept.number - 1) ≡ Some first
    pub plan_is : slice_get run.faults (kept.number - 1) ≡ Some kept.faults.plan
    pub leads : (content : C) → run.content ≡ Some content → Leads (meaning content) run.tables (fresh_device first) kept.recorded
    pub sound : (content : C) → run.content ≡ Some content → IsSound (meaning content) kept.recorded.device
    pub clock : kept.recorded.device.clock ≤ kept.faults.spent * 2 ^ 32
    pub few : kept.faults.spent ≤ 1000

module _ {Config Node : Type 0} where
  -- the device after what happened, with whether a request of the manager is counted with it
  abbrev pub kept_after : Bool → KeptState Config Node → DeviceEvent → Happened Config Node → KeptState Config Node
  kept_after counts old event h = with_faults (kept_with old (recorded_with old.recorded event h)) (counted_if counts old.faults)

  -- something without an answer happened, with whether it undid a pending commit
  abbrev pub Marks : Bool → Bool → KeptState Config Node → KeptState Config Node → DeviceEvent → Happened Config Node → Type 0
  Marks counts undone old new event h = (undone ≡ h.undone) × (new ≡ kept_after counts old event h)

  -- a request was answered: its reply is told twice
  abbrev pub Tells : Bool → Told → KeptState Config Node → KeptState Config Node → DeviceEvent → Happened Config Node → Type 0
  Tells counts told old new event h = (h.reply ≡ Some told.reply) × (told.again ≡ told.reply) × (told.undone ≡ h.undone) × (new ≡ kept_after counts old event h)
