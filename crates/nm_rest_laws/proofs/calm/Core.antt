-- The worlds of a calm run, by what the journal has and where each device stands.
use Rattle.std.proofs.Common.{◌≡◌, ◌⊎◌, ℕ, suc, ◌-◌, List, [], ◌∷◌, length, Bool, true, false, Option, Some, None, slice_get}
use Rattle.nm_base.specs.Mask.{mask_contains}
use Rattle.nm_base.specs.Token.{token_of}
use Rattle.nm_proto.specs.declared.message.Request.{Request}
use Rattle.nm_proto.specs.declared.journal.Entry.{Entry}
use Rattle.nm_proto.specs.declared.journal.Entry.TheVariants as entry
use Rattle.nm_proto.specs.declared.journal.Verdict.TheVariants as verdict
use Rattle.nm_proto.specs.declared.plan.ChangePlan.{ChangePlan}
use Rattle.nm_proto.specs.declared.plan.PlannedEdit.{PlannedEdit}
use Rattle.nm_proto.specs.declared.plan.Event.{Event}
use Rattle.nm_proto.specs.Content.{Meaning, TablesState}
use Rattle.nm_proto.specs.Plan.{devices_in}
use Rattle.nm_decider.specs.declared.seat.Seat.{Seat}
use Rattle.nm_decider.specs.Course.{CourseState, seat_count}
use Rattle.nm_resync.specs.Resync.{ResyncState}
use Rattle.nm_wire.specs.Wire.{WireState, no_links}
use Rattle.nm_history.specs.History.{RecordedState}
use Rattle.nm_manager.specs.Requests.{edit_for}
use Rattle.nm_manager.specs.Slot.{SideState, SlotState, wire_of_side}
use Rattle.nm_manager.specs.Manager.{start_of}
use Rattle.nm_world.specs.World.{Setting, CoreState, elementary}
use Rattle.nm_rest_laws.specs.Calm.{IsUnhindered}
use Rattle.nm_rest_laws.proofs.calm.Legs.{Leg, at}
use Rattle.nm_rest_laws.proofs.calm.Forms.{Form, Phase, verdict_of, known, reached, awaited_in, stage_at, fits, asks_by, number_of, wire_in}
use Rattle.nm_rest_laws.proofs.calm.Forms.Phase.{Undecided, Committed, Over}

-- what a calm run is of
pub record Given (Config TheEdit : Type 0) : Type 0 where
  pub tables : TablesState TheEdit
  pub running : List Config
  pub plan : ChangePlan

-- what stands in one of its worlds
pub record Sight (Config Node : Type 0) : Type 0 where
  pub phase : Phase
  pub devices : List (RecordedState Config Node)
  pub seats : List Seat
  pub sides : List SideState
  pub has_diverged : Bool

-- ---- the manager

abbrev pub seat_in : Form → ℕ → Seat
seat_in form sent = record { is_member = true; stage = stage_at (known form); awaited = awaited_in form; sent = sent }

abbrev pub course_in : Phase → List Seat → CourseState
course_in phase seats = record { change = 1; verdict = verdict_of phase; trouble = None; seats = seats }

abbrev pub slot_in : Phase → List Seat → List SideState → SlotState
slot_in phase seats sides = record { course = course_in phase seats; sides = sides }

abbrev pub is_taken : Option Seat → Bool
is_taken None = false
is_taken (Some seat) = seat.is_member

module _ {Config TheEdit : Type 0} (g : Given Config TheEdit) where
  abbrev pub the : Setting TheEdit
  the = record { tables = g.tables; plans = g.plan ∷ []; users = [] }

  abbrev pub mask : ℕ
  mask = devices_in g.plan.edits

  abbrev pub started : Entry
  started = start_of 1 g.plan

  abbrev pub entries_in : Phase → List Entry
  entries_in Undecided = started ∷ []
  entries_in Committed = started ∷ entry.Decided 1 verdict.Commit ∷ []
  entries_in (Over kept) = started ∷ entry.Decided 1 verdict.Commit ∷ entry.Ended 1 kept ∷ []

  abbrev pub core : {Node : Type 0} → Sight Config Node → CoreState Config Node
  core s = record { devices = s.devices; entries = entries_in s.phase; slots = slot_in s.phase s.seats s.sides ∷ []; operators = []; has_diverged = s.has_diverged }

  -- what is asked of a device, on its links, and the number of what it replies
  abbrev pub request_in : PlannedEdit → Leg → Request
  request_in planned leg = asks_by (token_of 1) g.plan.timeout planned leg

  abbrev pub links_in : PlannedEdit → Form → WireState
  links_in planned form = wire_in (token_of 1) g.plan.timeout planned form

  abbrev pub number_in : PlannedEdit → Leg → ℕ
  number_in planned leg = number_of (token_of 1) g.plan.timeout planned leg

  abbrev pub side_in : PlannedEdit → Form → ResyncState → SideState
  side_in planned form resync = record { wire = links_in planned form; resync = resync }

  -- no device of the change set
  pub record Bystands (j : ℕ) (seat : Option Seat) (side : Option SideState) : Type 0 where
    pub other : mask_contains mask (suc j) ≡ false
    pub untaken : is_taken seat ≡ false
    pub unlinked : wire_of_side side ≡ no_links

module _ {Config TheEdit Node : Type 0} (m : Meaning Config TheEdit Node) (g : Given Config TheEdit) where
  -- nothing is in the way of an edit
  abbrev pub IsFree : PlannedEdit → Type 0
  IsFree planned = IsUnhindered m (the g) g.running planned

  -- a device of the change set, with its edit
  pub record Own (j : ℕ) : Type 0 where
    pub member : mask_contains (mask g) (suc j) ≡ true
    pub planned : PlannedEdit
    pub found : edit_for g.plan (suc j) ≡ Some planned
    pub free : IsFree planned

  abbrev pub recorded_in : {j : ℕ} → Own j → Form → RecordedState Config Node
  recorded_in own form = at m g.tables (token_of 1) g.plan.timeout own.planned own.free.makes.first own.free.made (reached form)

  -- it stands somewhere
  pub record Stands (phase : Phase) (j : ℕ) (seat : Option Seat) (side : Option SideState) (r : Option (RecordedState Config Node)) : Type 0 where
    pub own : Own j
    pub form : Form
    pub may : fits phase form ≡ true
    pub sent : ℕ
    pub resync : ResyncState
    pub seat_is : seat ≡ Some (seat_in form sent)
    pub side_is : side ≡ Some (side_in g own.planned form resync)
    pub r_is : r ≡ Some (recorded_in own form)

  abbrev pub IsAt : Phase → ℕ → Option Seat → Option SideState → Option (RecordedState Config Node) → Type 0
  IsAt phase j seat side r = Stands phase j seat side r ⊎ Bystands g j seat side

  abbrev pub AreAt : Phase → List (RecordedState Config Node) → List Seat → List SideState → Type 0
  AreAt phase devices seats sides = (j : ℕ) → IsAt phase j (slice_get seats j) (slice_get sides j) (slice_get devices j)

  pub record IsGood (s : Sight Config Node) : Type 0 where
    pub long : length s.seats ≡ seat_count
    pub each : AreAt s.phase s.devices s.seats s.sides

  -- a world of a calm run
  pub record Goes (w : CoreState Config Node) : Type 0 where
    pub sight : Sight Config Node
    pub is : w ≡ core g sight
    pub good : IsGood sight

  -- and so is that after an event
  abbrev pub Next : Sight Config Node → Event → Type 0
  Next s x = Goes (elementary m (the g) (core g s) x).after

  -- where a device of the change set stands in one
  pub record Here (s : Sight Config Node) (d : ℕ) (own : Own (d - 1)) (sent : ℕ) (resync : ResyncState) (form : Form) : Type 0 where
    pub may : fits s.phase form ≡ true
    pub seat : slice_get s.seats (d - 1) ≡ Some (seat_in form sent)
    pub side : slice_get s.sides (d - 1) ≡ Some (side_in g own.planned form resync)
    pub r : slice_get s.devices (d - 1) ≡ Some (recorded_in own form)
