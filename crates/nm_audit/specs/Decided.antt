-- What becomes of change sets by their verdicts where all agree (this project's own, over RFC 6241 section 8.4).
use Rattle.std.specs.Prelude.{◌≡◌, ◌≢◌, ◌↔◌, ◌⊎◌, ℕ, Bool, true, false, Option}
use Rattle.nm_proto.specs.declared.journal.Verdict.{Verdict}
use Rattle.nm_history.specs.declared.outcome.Outcome.{Outcome}
use Rattle.nm_history.specs.declared.outcome.Outcome.TheVariants.{Never, Pending, Confirmed, Undone}
use Rattle.nm_history.specs.declared.outcome.Undoing.{Undoing}
use Rattle.nm_history.specs.declared.outcome.Undoing.TheVariants.{Cancel, End, Timer, Restart}
use Rattle.nm_chronicle.specs.Line.{is_commit, is_abort}

-- a device undid it by itself
abbrev pub is_by_itself : Undoing → Bool
is_by_itself Cancel = false
is_by_itself End = false
is_by_itself Timer = true
is_by_itself Restart = true

-- after Commit each device of a change set has it, but where a timer or a restart undid it; after an Abort none confirmed it
pub record EndsAsDecided (verdict : Option Verdict) (outcome : Outcome) : Type 0 where
  pub committed : is_commit verdict ≡ true → outcome ≢ Never
  pub kept : is_commit verdict ≡ true → (by : Undoing) → outcome ≡ Undone by → is_by_itself by ≡ true
  pub aborted : is_abort verdict ≡ true → outcome ≢ Confirmed

-- a phase on the board tells what became of a change set: that there was nothing, that it waits, that it was confirmed, that a
-- timer or a restart undid it, or that a cancel did
pub record TellsOutcome (phase : ℕ) (outcome : Outcome) : Type 0 where
  pub never : (phase ≡ 0) ↔ (outcome ≡ Never)
  pub pending : (phase ≡ 1) ↔ (outcome ≡ Pending)
  pub confirmed : (phase ≡ 2) ↔ (outcome ≡ Confirmed)
  pub undone : (phase ≡ 3) ↔ ((outcome ≡ Undone Timer) ⊎ (outcome ≡ Undone Restart))
  pub cancelled : (phase ≡ 4) ↔ (outcome ≡ Undone Cancel)
