-- The board of a run: a line for each change set, and the calls that it couldn't take (this project's own).
use Rattle.std.specs.Prelude.{◌≡◌, ◌≤◌, ℕ, ◌+◌, ◌-◌, Bool, nat_le, List, [], ◌∷◌, ◌++◌, length, map, slice_get, slice_set, Option, Some, None, is_some, if◌then◌else◌}
use Rattle.std.specs.List.{All, sum_by}
use Rattle.nm_proto.specs.declared.plan.ChangePlan.{ChangePlan}
use Rattle.nm_proto.specs.Plan.{devices_in}
use Rattle.nm_chronicle.specs.declared.mark.Mark.{Mark}
use Rattle.nm_chronicle.specs.declared.mark.Stray.{Stray}
use Rattle.nm_chronicle.specs.Line.{LineState, LineHolds, taken, weight_of, line_weight, fresh_line}

-- how many devices the run has, and the line of each change set
pub record BoardState : Type 0 where
  pub devices : ℕ
  pub lines : List LineState

-- the board, the calls that it couldn't take, how many more calls it has room for, and what the run's ledger adds up to
pub record ChronicleState : Type 0 where
  pub board : BoardState
  pub strays : List Stray
  pub spare : ℕ
  pub total : ℕ

-- the devices of a change set
abbrev pub devices_of : ChangePlan → ℕ
devices_of plan = devices_in plan.edits

-- which devices a change set has, as its line has them
abbrev pub line_devices : LineState → ℕ
line_devices line = line.devices

-- what is true of every board of a run with so many devices and these change sets
pub record BoardHolds (devices : ℕ) (changes : List ChangePlan) (board : BoardState) : Type 0 where
  pub devices_are : board.devices ≡ devices
  pub changes_are : map line_devices board.lines ≡ map devices_of changes
  pub phases_are : All (λ line. length line.phases ≡ devices) board.lines
  pub lines_hold : All LineHolds board.lines

-- how much a stray counts
abbrev pub stray_weight : Stray → ℕ
stray_weight stray = weight_of stray.mark

-- how much all calls count: those that stand on the board, and the strays
abbrev pub counted : List LineState → List Stray → ℕ
counted lines strays = sum_by line_weight lines + sum_by stray_weight strays

-- the board before anything happened
abbrev pub fresh_board : ℕ → List ChangePlan → BoardState
fresh_board devices changes = record { devices = devices; lines = map (λ plan. fresh_line devices (devices_of plan)) changes }

-- the chronicle before anything happened
abbrev pub fresh_chronicle : ℕ → List ChangePlan → ChronicleState
fresh_chronicle devices changes = record { board = fresh_board devices changes; strays = []; spare = 0; total = 0 }

-- ---- calls

-- the line of a change set after a mark. None where there is no such line, or it can't take the mark
abbrev pub taken_in : Option LineState → Mark → Option LineState
taken_in None mark = None
taken_in (Some line) mark = taken line mark

-- the line of a change set after a mark; none where it can't take the mark
abbrev pub line_taken : List LineState → ℕ → Mark → Option LineState
line_taken lines change mark = taken_in (slice_get lines (change - 1)) mark

-- the lines with one of them as it is after a mark; unchanged where there is none
abbrev pub lines_if : List LineState → ℕ → Option LineState → List LineState
lines_if lines change None = lines
lines_if lines change (Some line) = slice_set lines (change - 1) line

-- a call that the board can't take is kept as a stray
abbrev pub strays_if : List Stray → ℕ → Mark → Option LineState → List Stray
strays_if strays change mark None = strays ++ record { change = change; mark = mark } ∷ []
strays_if strays change mark (Some line) = strays

-- a call marks the board or is kept as a stray, uses up one spare place, and counts in the ledger
abbrev pub noted : ChronicleState → ℕ → Mark → ChronicleState
noted s change mark = record {
  board = record s.board { lines = lines_if s.board.lines change (line_taken s.board.lines change mark) };
  strays = strays_if s.strays change mark (line_taken s.board.lines change mark);
  spare = s.spare - 1;
  total = s.total + weight_of mark;
}

-- there is room for four calls at least
abbrev pub with_room : ChronicleState → ChronicleState
with_room s = record s { spare = if nat_le 4 s.spare then s.spare else 4 }

-- ---- what a call keeps

-- what marking a line keeps of the lines, with whether it could be marked
pub record MarksLines (took : Bool) (old new : List LineState) (change : ℕ) (mark : Mark) : Type 0 where
  pub took_is : took ≡ is_some (line_taken old change mark)
  pub lines : new ≡ lines_if old change (line_taken old change mark)
  pub counts : sum_by line_weight new + (if took then 0 else weight_of mark) ≡ sum_by line_weight old + weight_of mark
  pub holds : All LineHolds new
  pub devices : map line_devices new ≡ map line_devices old
  pub phases : (n : ℕ) → All (λ line. length line.phases ≡ n) old → All (λ line. length line.phases ≡ n) new

-- what a call keeps of the board and the strays
pub record MarksBoard (old new : List LineState) (kept kept_new : List Stray) (change : ℕ) (mark : Mark) : Type 0 where
  pub lines : new ≡ lines_if old change (line_taken old change mark)
  pub strays : kept_new ≡ strays_if kept change mark (line_taken old change mark)
  pub counts : counted new kept_new ≡ counted old kept + weight_of mark
  pub few : length kept_new ≤ length kept + 1
  pub board : (many devices : ℕ) (changes : List ChangePlan)
      → BoardHolds devices changes (record { devices = many; lines = old })
      → BoardHolds devices changes (record { devices = many; lines = new })
