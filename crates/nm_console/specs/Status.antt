-- The exit statuses (this project's own).
use Rattle.std.specs.Prelude.{◌≡◌, ◌≢◌, ◌↔◌, ℕ, List, [], ◌∷◌, Bool, true, false}
use Rattle.nm_world.specs.declared.report.Pair.{Pair}
use Rattle.nm_world.specs.declared.report.Report.{Report}
use Rattle.nm_world.specs.Report.{report_of}
use Rattle.nm_world.specs.World.{Setting, WorldState}
use Rattle.nm_console.specs.declared.status.Status.{Status}
use Rattle.nm_console.specs.declared.status.Status.TheVariants as status

-- the exit status of an outcome; 0 only where all is well
abbrev pub status_code : Status → ℕ
status_code status.Ok = 0
status_code status.Differ = 1
status_code status.Usage = 2
status_code status.Scenario = 3
status_code status.ReadFault = 4
status_code status.WriteFault = 5
status_code status.DiskFault = 6
status_code status.Journal = 7
status_code status.NoMemory = 8
status_code status.Unsettled = 10

-- the whole answer was written
abbrev pub is_whole : Status → Bool
is_whole status.Ok = true
is_whole status.Differ = true
is_whole status.Usage = true
is_whole status.Scenario = true
is_whole status.ReadFault = false
is_whole status.WriteFault = false
is_whole status.DiskFault = false
is_whole status.Journal = true
is_whole status.NoMemory = false
is_whole status.Unsettled = true

-- unsettled devices come before those that differ
abbrev pub status_for : List Pair → List Pair → Status
status_for (pair ∷ pairs) differ = status.Unsettled
status_for [] (pair ∷ pairs) = status.Differ
status_for [] [] = status.Ok

-- the status of a report
abbrev pub report_status : Report → Status
report_status report = status_for report.unsettled report.differ

-- what the status of a report tells of it: one is unsettled, or none is and one differs, or neither
pub record StatusTells (report : Report) : Type 0 where
  pub unsettled : (report_status report ≡ status.Unsettled) ↔ (report.unsettled ≢ [])
  pub differ : (report_status report ≡ status.Differ) ↔ ((report.unsettled ≡ []) × (report.differ ≢ []))
  pub ok : (report_status report ≡ status.Ok) ↔ ((report.unsettled ≡ []) × (report.differ ≡ []))

-- the status of the world at the end of a run
abbrev pub world_status : {Config TheEdit Node : Type 0} → Setting TheEdit → WorldState Config Node → Status
world_status setting w = report_status (report_of setting w)
