-- One change set's line of the board that all threads of a run share (this project's own): what its devices have done,
-- and what was decided of it. The code keeps bytes, and counts along the devices.
use Rattle.std.specs.Prelude.{◌≡◌, ◌≤◌, ◌<◌, ℕ, ◌+◌, ◌-◌, ◌*◌, ◌%◌, ◌^◌, ◌==◌, ◌&&◌, zero, suc, Bool, true, false, not, nat_le, nat_lt, bit_or, List, length, replicate, slice_index_or, slice_set, Option, Some, None, if◌then◌else◌}
use Rattle.std.specs.List.{sum_by}
use Rattle.nm_base.specs.Mask.{mask_contains}
use Rattle.nm_proto.specs.declared.journal.Verdict.{Verdict}
use Rattle.nm_proto.specs.declared.journal.Verdict.TheVariants.{Commit, Abort}
use Rattle.nm_chronicle.specs.declared.mark.Mark.{Mark}
use Rattle.nm_chronicle.specs.declared.mark.Mark.TheVariants.{Asked, Applied, Acked, Decided, Confirmed, Undone, Cancelled}

-- the devices of the change set, how many of them were asked for its commit and how many acknowledged it, the verdict,
-- the phase of each device of the run (0 none, 1 applied, 2 confirmed, 3 undone by a timer or a restart, 4 cancelled), and
-- which of them have acknowledged
pub record LineState : Type 0 where
  pub devices : ℕ
  pub asked : ℕ
  pub acked : ℕ
  pub verdict : Option Verdict
  pub phases : List ℕ
  pub acknowledged : ℕ

-- ---- devices, phases and verdicts

-- how many of the devices 1 to n are in a set
abbrev pub count_to : ℕ → ℕ → ℕ
count_to mask zero = 0
count_to mask (suc n) = if mask_contains mask (suc n) then count_to mask n + 1 else count_to mask n

-- how many devices are in a set
unfoldable pub size : ℕ → ℕ
size mask = count_to mask 32

-- the phase of a device, 0 where it isn't one of the run
abbrev pub phase_of : LineState → ℕ → ℕ
phase_of line device = slice_index_or line.phases (device - 1) 0

-- no verdict has fallen
abbrev pub is_undecided : Option Verdict → Bool
is_undecided None = true
is_undecided (Some verdict) = false

-- the verdict is Commit
abbrev pub is_commit : Option Verdict → Bool
is_commit None = false
is_commit (Some Commit) = true
is_commit (Some (Abort cause)) = false

-- the verdict is Abort
abbrev pub is_abort : Option Verdict → Bool
is_abort None = false
is_abort (Some Commit) = false
is_abort (Some (Abort cause)) = true

-- what is true of every line
pub record LineHolds (line : LineState) : Type 0 where
  -- those that acknowledged are counted, and each of them has applied it
  pub acked : line.acked ≡ size line.acknowledged
  pub applied_first : (d : ℕ) → 0 < d → mask_contains line.acknowledged d ≡ true → 1 ≤ phase_of line d
  -- Commit stands only where all devices acknowledged
  pub all_acked : is_commit line.verdict ≡ true → line.acked ≡ size line.devices
  -- a device confirms only after Commit, and cancels only after an Abort
  pub confirmed : (d : ℕ) → 0 < d → phase_of line d ≡ 2 → is_commit line.verdict ≡ true
  pub cancelled : (d : ℕ) → 0 < d → phase_of line d ≡ 4 → is_abort line.verdict ≡ true
  -- a device whose place in the change set is above those asked has done nothing, nor has one that isn't of the change set
  pub in_order : (d : ℕ) → 0 < d → line.asked < count_to line.devices d → phase_of line d ≡ 0
  pub its_own : (d : ℕ) → 0 < d → mask_contains line.devices d ≡ false → phase_of line d ≡ 0

-- ---- what marks do

-- a set of devices with one more
unfoldable pub with_device : ℕ → ℕ → ℕ
with_device mask device = bit_or mask (1 * 2 ^ (device - 1) % 2 ^ 32)

-- a line, where it may change so
abbrev pub line_if : Bool → LineState → Option LineState
line_if may after = if may then Some after else None

-- the line where a condition holds
abbrev pub when : Bool → Option LineState → Option LineState
when holds after = if holds then after else None

module _ (line : LineState) where
  -- the device is the next of the change set to be asked
  abbrev pub is_next : ℕ → Bool
  is_next d = mask_contains line.devices d && (count_to line.devices d == line.asked + 1)

  -- the device is of the change set and was asked
  abbrev pub was_asked : ℕ → Bool
  was_asked d = mask_contains line.devices d && nat_le (count_to line.devices d) line.asked

  -- the device has applied it, and hasn't acknowledged yet
  abbrev pub may_ack : ℕ → Bool
  may_ack d = nat_le 1 (phase_of line d) && not (mask_contains line.acknowledged d)

  -- Commit wants all devices to have acknowledged
  abbrev pub may_decide : Verdict → Bool
  may_decide Commit = line.acked == size line.devices
  may_decide (Abort cause) = true

  -- a device of the run goes from one phase to another. None where it isn't in the first
  abbrev pub moved : ℕ → ℕ → ℕ → Option LineState
  moved d from to =
      line_if (nat_lt (d - 1) (length line.phases) && (phase_of line d == from)) (record line { phases = slice_set line.phases (d - 1) to })

  -- the line after a mark. None where the mark's condition doesn't hold
  abbrev pub taken : Mark → Option LineState
  taken (Asked d) = line_if (is_undecided line.verdict && is_next d) (record line { asked = line.asked + 1 })
  taken (Applied d) = when (was_asked d) (moved d 0 1)
  taken (Acked d) = line_if (is_undecided line.verdict && may_ack d) (record line { acked = line.acked + 1; acknowledged = with_device line.acknowledged d })
  taken (Decided verdict) = line_if (is_undecided line.verdict && may_decide verdict) (record line { verdict = Some verdict })
  taken (Confirmed d) = when (is_commit line.verdict) (moved d 1 2)
  taken (Undone d) = moved d 1 3
  taken (Cancelled d) = when (is_abort line.verdict) (moved d 1 4)

-- a call that marks a line, with whether it could
abbrev pub Takes : Bool → LineState → LineState → Option LineState → Type 0
Takes took old new None = (took ≡ false) × (new ≡ old)
Takes took old new (Some after) = (took ≡ true) × (new ≡ after)

-- ---- what is counted

-- how much a mark counts: a verdict twice, since two callers keep it
abbrev pub weight_of : Mark → ℕ
weight_of (Asked d) = 1
weight_of (Applied d) = 1
weight_of (Acked d) = 1
weight_of (Decided verdict) = 2
weight_of (Confirmed d) = 1
weight_of (Undone d) = 1
weight_of (Cancelled d) = 1

-- how many marks made a phase
abbrev pub phase_weight : ℕ → ℕ
phase_weight phase = if phase == 0 then 0 else if phase == 1 then 1 else 2

-- how much a verdict adds to what the ledger sums up: as much as two marks of a phase
abbrev pub verdict_weight : Option Verdict → ℕ
verdict_weight verdict = if is_undecided verdict then 0 else 2

-- how much the marks of a line count
abbrev pub line_weight : LineState → ℕ
line_weight line = line.asked + line.acked + verdict_weight line.verdict + sum_by phase_weight line.phases

-- the line of a change set of which nothing has happened yet, in a run of so many devices
abbrev pub fresh_line : ℕ → ℕ → LineState
fresh_line count devices = record { devices = devices; asked = 0; acked = 0; verdict = None; phases = replicate count 0; acknowledged = 0 }

-- what a mark keeps of a line: what is true of every line, and how much is counted
pub record Keeps (took : Bool) (old new : LineState) (mark : Mark) : Type 0 where
  pub holds : LineHolds new
  pub devices : new.devices ≡ old.devices
  pub phases : length new.phases ≡ length old.phases
  pub counts : took ≡ true → line_weight new ≡ line_weight old + weight_of mark
