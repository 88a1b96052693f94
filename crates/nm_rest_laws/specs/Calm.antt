-- Calm runs: one change set, nobody beside it, and nothing in its way at its devices; and what such a run comes to (this project's own,
-- over RFC 6241 section 8.4).
use Rattle.std.specs.Prelude.{◌≡◌, ℕ, ◌-◌, ◌≤◌, List, [], ◌∷◌, length, true, Some, None, slice_get, Ok}
use Rattle.std.specs.List.{All}
use Rattle.nm_base.specs.Token.{token_of}
use Rattle.nm_proto.specs.declared.message.Marks.{Marks}
use Rattle.nm_proto.specs.declared.journal.Verdict.TheVariants.{Commit}
use Rattle.nm_proto.specs.declared.plan.ChangePlan.{ChangePlan}
use Rattle.nm_proto.specs.declared.plan.PlannedEdit.{PlannedEdit}
use Rattle.nm_proto.specs.declared.plan.Event.TheVariants.{Submit}
use Rattle.nm_proto.specs.Content.{Meaning}
use Rattle.nm_history.specs.declared.outcome.Outcome.TheVariants.{Confirmed}
use Rattle.nm_history.specs.History.{RecordedState}
use Rattle.nm_history.specs.Outcome.{outcome_of}
use Rattle.nm_recovery.specs.Recovery.{verdict_in, is_ended_in}
use Rattle.nm_manager.specs.Requests.{IsWellFormed}
use Rattle.nm_world.specs.World.{Setting, WorldState, run, start}
use Rattle.nm_world.specs.Drain.{drained}

-- the mark of change set 1 comes, and as nothing is ended none goes
abbrev pub first_marks : Marks
first_marks = record { add = 1; remove = record { 0 = 0 } }

module _ {Config TheEdit Node : Type 0} (m : Meaning Config TheEdit Node) (setting : Setting TheEdit) (running : List Config) where
  -- an edit of change set 1 is applied, with its mark, to what its device runs at first, isn't refused and makes this
  pub record Makes (planned : PlannedEdit) (made : Config) : Type 0 where
    pub edit : TheEdit
    pub found : slice_get setting.tables.edits planned.edit.0 ≡ Some edit
    pub first : Config
    pub runs : slice_get running (planned.device - 1) ≡ Some first
    pub applied : m.edited first edit planned.default_operation (Some first_marks) ≡ Ok made

  -- and that is valid
  pub record IsUnhindered (planned : PlannedEdit) : Type 0 where
    pub made : Config
    pub makes : Makes planned made
    pub valid : m.violation made ≡ None

  -- there is one change set and no operator, there are no more devices than may be, and nothing is in the way of any edit
  pub record IsCalm (plan : ChangePlan) : Type 0 where
    pub alone : setting.plans ≡ plan ∷ []
    pub formed : IsWellFormed plan
    pub nobody : setting.users ≡ []
    pub few : length running ≤ 32
    pub each : All IsUnhindered plan.edits

  -- the device of an edit has the change set for good, and runs what the edit makes
  pub record HasIt (w : WorldState Config Node) (planned : PlannedEdit) : Type 0 where
    pub r : RecordedState Config Node
    pub there : slice_get w.devices (planned.device - 1) ≡ Some r
    pub confirmed : outcome_of (token_of 1) r.history ≡ Confirmed
    pub runs : Makes planned r.device.stores.running

  -- change set 1 is decided as a commit and ended, and each of its devices has it
  pub record IsCommitted (plan : ChangePlan) (w : WorldState Config Node) : Type 0 where
    pub decided : verdict_in 1 w.entries ≡ Some Commit
    pub ended : is_ended_in 1 w.entries ≡ true
    pub each : All (HasIt w) plan.edits

  -- the world once change set 1 was submitted, and after so many steps at most of those that bring it to rest
  abbrev pub drained_run : ℕ → WorldState Config Node
  drained_run steps = drained m setting steps (run m setting (start setting running) (Submit 1 ∷ []))
