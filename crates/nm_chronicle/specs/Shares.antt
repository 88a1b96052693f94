-- What each caller keeps of the calls that it made: its part of the run's ledger (this project's own).
use Rattle.std.specs.Prelude.{ℕ, ◌+◌, Option, Some, None, if◌then◌else◌}
use Rattle.nm_proto.specs.declared.journal.Verdict.{Verdict}
use Rattle.nm_chronicle.specs.Line.{is_undecided}

-- what a change set's coordinator has called: how often it asked, how often it was acknowledged, and what it decided
pub record SlotState : Type 0 where
  pub asked : ℕ
  pub acked : ℕ
  pub verdict : Option Verdict

-- a coordinator that has called nothing
abbrev pub fresh_slot : SlotState
fresh_slot = record { asked = 0; acked = 0; verdict = None }

-- how many calls that were
abbrev pub slot_calls : SlotState → ℕ
slot_calls slot = slot.asked + slot.acked + (if is_undecided slot.verdict then 0 else 1)

-- one device more was asked for its commit
abbrev pub slot_asked : SlotState → SlotState
slot_asked slot = record slot { asked = slot.asked + 1 }

-- one device more has acknowledged
abbrev pub slot_acked : SlotState → SlotState
slot_acked slot = record slot { acked = slot.acked + 1 }

-- the verdict fell
abbrev pub slot_decided : SlotState → Verdict → SlotState
slot_decided slot verdict = record slot { verdict = Some verdict }
