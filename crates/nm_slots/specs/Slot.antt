-- What the coordinator of a change set keeps behind its lock (this project's own).
use Rattle.std.specs.Prelude.{◌≡◌, ℕ, ◌-◌, Bool, true, List, Some, slice_get}
use Rattle.nm_proto.specs.declared.journal.AbortCause.{AbortCause}
use Rattle.nm_proto.specs.declared.journal.Verdict.{Verdict}
use Rattle.nm_proto.specs.declared.journal.Verdict.TheVariants.{Commit, Abort}
use Rattle.nm_proto.specs.declared.plan.ChangePlan.{ChangePlan}
use Rattle.nm_chronicle.specs.Shares.{SlotState, slot_asked, slot_decided}
use Rattle.nm_cells.specs.Pass.{PassState, fresh_pass}
use Rattle.nm_cells.specs.declared.pass.PassEntry.{PassEntry}
use Rattle.nm_cells.specs.declared.pass.PassOwner.TheVariants.{Coordinator}
use Rattle.nm_slots.specs.Course.{KeepsCourse, cause_stands}

-- the change set, what its coordinator has called on the board, and what it found at devices
pub record SlotView : Type 0 where
  pub change : ℕ
  pub shares : SlotState
  pub pass : PassState

-- a coordinator that has found nothing yet
abbrev pub begun : ℕ → SlotState → SlotView
begun change shares = record { change = change; shares = shares; pass = fresh_pass (Coordinator change) }

-- it told the board that one device more is asked for the commit
abbrev pub view_asked : SlotView → SlotView
view_asked slot = record slot { shares = slot_asked slot.shares }

-- it decided
abbrev pub view_decided : SlotView → Verdict → SlotView
view_decided slot verdict = record slot { shares = slot_decided slot.shares verdict }

-- what is true of every slot of a run with these change sets: the pass is its coordinator's and holds the change set's requests
-- as they go, and why it was aborted stands in it
pub record IsSlotKept (changes : List ChangePlan) (slot : SlotView) : Type 0 where
  pub owner : slot.pass.owner ≡ Coordinator slot.change
  pub course : (plan : ChangePlan) → slice_get changes (slot.change - 1) ≡ Some plan → KeepsCourse plan slot.change slot.pass.entries
  pub cause : (plan : ChangePlan) → slice_get changes (slot.change - 1) ≡ Some plan → (why : AbortCause) → slot.shares.verdict ≡ Some (Abort why)
      → cause_stands plan slot.change slot.pass.entries why ≡ true

-- why a change set is aborted stands in the pass, where it is aborted
abbrev pub verdict_stands : ChangePlan → ℕ → List PassEntry → Verdict → Bool
verdict_stands plan change entries Commit = true
verdict_stands plan change entries (Abort why) = cause_stands plan change entries why
