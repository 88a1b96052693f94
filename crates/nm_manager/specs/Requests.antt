-- The requests that the manager makes (this project's own, over RFC 6241 sections 7 and 8.4).
use Rattle.std.specs.Prelude.{◌≡◌, ◌==◌, ◌≤◌, ℕ, List, [], ◌∷◌, Bool, true, false, ◌&&◌, nat_lt, length, find, Option, Some, None, option_map}
use Rattle.nm_base.specs.Token.{token_of}
use Rattle.nm_base.specs.Words.{manager}
use Rattle.nm_proto.specs.declared.ask.Ask.{Ask}
use Rattle.nm_proto.specs.declared.ask.Ask.TheVariants as ask
use Rattle.nm_proto.specs.declared.message.Marks.{Marks}
use Rattle.nm_proto.specs.declared.message.Store.TheVariants.{Running, Candidate}
use Rattle.nm_proto.specs.declared.message.Request.{Request}
use Rattle.nm_proto.specs.declared.message.Request.TheVariants.{OpenSession, Lock, Edit, Validate, Commit, CancelCommit, Discard, HasMark, CloseSession}
use Rattle.nm_proto.specs.declared.journal.Entry.{Entry}
use Rattle.nm_proto.specs.declared.plan.ChangePlan.{ChangePlan}
use Rattle.nm_proto.specs.declared.plan.PlannedEdit.{PlannedEdit}
use Rattle.nm_recovery.specs.Recovery.{ended_on}

-- the devices of these edits ascend, from above a number on
abbrev pub ascend_above : ℕ → List PlannedEdit → Bool
ascend_above number [] = true
ascend_above number (edit ∷ edits) = nat_lt number edit.device && ascend_above edit.device edits

-- a change set has one edit for each of its devices, of which there is one at least, and its confirmed commits wait a second
-- at least
pub record IsWellFormed (plan : ChangePlan) : Type 0 where
  pub some : 1 ≤ length plan.edits
  pub ascend : ascend_above 0 plan.edits ≡ true
  pub waits : 1 ≤ plan.timeout

-- a planned edit is of this device
abbrev pub is_of_device : ℕ → PlannedEdit → Bool
is_of_device device edit = edit.device == device

-- a change set's edit of a device
abbrev pub edit_for : ChangePlan → ℕ → Option PlannedEdit
edit_for plan device = find (is_of_device device) plan.edits

-- what an edit does to the marks of a device: that of the change set comes, and those of the change sets that are ended go
abbrev pub marks_for : List Entry → ℕ → ℕ → Marks
marks_for entries change device = record { add = change; remove = record { 0 = ended_on device entries } }

-- the edit of a change set, with its mark
abbrev pub edit_request : List Entry → ℕ → PlannedEdit → Request
edit_request entries change planned = Edit planned.edit planned.default_operation (Some (marks_for entries change planned.device))

-- the request of a change set's plan that asks this of a device, by the entries of the journal; None for an edit of a device that
-- has none, and for what isn't known yet
abbrev pub request_for : ChangePlan → List Entry → ℕ → ℕ → Ask → Option Request
request_for plan entries change device ask.OpenSession = Some (OpenSession manager)
request_for plan entries change device ask.LockRunning = Some (Lock Running)
request_for plan entries change device ask.LockCandidate = Some (Lock Candidate)
request_for plan entries change device ask.Edit = option_map (edit_request entries change) (edit_for plan device)
request_for plan entries change device ask.Validate = Some Validate
request_for plan entries change device ask.CommitConfirmed = Some (Commit true (Some plan.timeout) (Some (token_of change)) None)
request_for plan entries change device ask.Renew = Some (Commit true (Some plan.timeout) None (Some (token_of change)))
request_for plan entries change device ask.Confirm = Some (Commit false None None (Some (token_of change)))
request_for plan entries change device ask.Cancel = Some (CancelCommit (Some (token_of change)))
request_for plan entries change device ask.HasMark = Some (HasMark change)
request_for plan entries change device ask.Discard = Some Discard
request_for plan entries change device ask.CloseSession = Some CloseSession
request_for plan entries change device ask.Resync = None
