-- What a whole run keeps (this project's own, over RFC 6241 sections 7.5 and 8.4).
use Rattle.std.specs.Prelude.{◌≡◌, ◌≢◌, ℕ, suc, ◌+◌, ◌-◌, ◌≤◌, List, [], ◌∷◌, Bool, true, false, Option, None, Some, IfSome, length, slice_get}
use Rattle.std.specs.List.{All}
use Rattle.nm_base.specs.Mask.{mask_contains}
use Rattle.nm_base.specs.Token.{token_of}
use Rattle.nm_proto.specs.declared.message.Request.{Request}
use Rattle.nm_proto.specs.declared.journal.Verdict.{Verdict}
use Rattle.nm_proto.specs.declared.journal.Verdict.TheVariants.{Commit, Abort}
use Rattle.nm_proto.specs.declared.plan.ChangePlan.{ChangePlan}
use Rattle.nm_proto.specs.declared.plan.Event.{Event}
use Rattle.nm_proto.specs.declared.plan.Event.TheVariants.{Submit, Turn, Deliver, Answer, Break, Lose, Advance, Restart, Forget, Crash, Renew, Foreign, Leave, Round}
use Rattle.nm_proto.specs.Content.{Meaning}
use Rattle.nm_proto.specs.Plan.{devices_in}
use Rattle.nm_device.specs.Device.{fresh_device, is_manager}
use Rattle.nm_device.specs.Table.{opening_user}
use Rattle.nm_history.specs.declared.event.Noted.{Noted}
use Rattle.nm_history.specs.declared.outcome.Outcome.TheVariants.{Never, Confirmed, Undone}
use Rattle.nm_history.specs.declared.outcome.Undoing.{Undoing}
use Rattle.nm_history.specs.declared.outcome.Undoing.TheVariants.{Cancel, End, Timer, Restart as AtRestart}
use Rattle.nm_history.specs.Outcome.{outcome_of}
use Rattle.nm_history.specs.History.{RecordedState}
use Rattle.nm_history.specs.Leads.{Leads}
use Rattle.nm_recovery.specs.Recovery.{verdict_in}
use Rattle.nm_wire.specs.Link.{LinkState}
use Rattle.nm_wire.specs.Words.{commits_sent}
use Rattle.nm_manager.specs.Manager.{wire_in}
use Rattle.nm_world.specs.World.{Setting, WorldState, IsFirst, core_of, manager_in}

-- ---- devices

-- each device answers as one thread, and its running is valid and changes only by one commit whole or its exact undoing, never
-- under another session's lock
abbrev pub AreSoundFrom : {Config TheEdit Node : Type 0} → Meaning Config TheEdit Node → Setting TheEdit → List Config → WorldState Config Node → Type 0
AreSoundFrom {Config} {TheEdit} {Node} m setting running w = (place : ℕ) (first : Config) (r : RecordedState Config Node) → slice_get running place ≡ Some first
    → slice_get w.devices place ≡ Some r → m.violation first ≡ None → Leads m setting.tables (fresh_device first) r

-- ---- change sets

-- it is journalled that the change set is to be aborted
abbrev pub is_abort : Option Verdict → Bool
is_abort None = false
is_abort (Some Commit) = false
is_abort (Some (Abort why)) = true

-- nobody asked for the undoing
abbrev pub is_unasked : Undoing → Bool
is_unasked Cancel = false
is_unasked End = false
is_unasked Timer = true
is_unasked AtRestart = true

-- what has become of a change set at a device, and what the journal says of it. It is confirmed only where a commit is in the journal;
-- where one is, each device of the change set has done its confirmed commit, and what is undone there a timer or a restart undid; and
-- it is cancelled only where an abort is
pub record KeepsDecision (change : ℕ) (decided : Option Verdict) (is_device : Bool) (history : List Noted) : Type 0 where
  pub confirmed_only_if_journalled : outcome_of (token_of change) history ≡ Confirmed → decided ≡ Some Commit
  pub committed_everywhere : decided ≡ Some Commit → is_device ≡ true → outcome_of (token_of change) history ≢ Never
  pub undone_by_timer_or_restart : decided ≡ Some Commit → (by : Undoing) → outcome_of (token_of change) history ≡ Undone by → is_unasked by ≡ true
  pub cancelled_only_if_aborted : outcome_of (token_of change) history ≡ Undone Cancel → is_abort decided ≡ true

-- how many confirmed commits that bring a change set were sent on these links
abbrev pub commits_over : List LinkState → ℕ
commits_over [] = 0
commits_over (link ∷ links) = commits_sent link + commits_over links

-- ---- what the reader of a scenario gives

-- an operator asks for a session under its own name
abbrev pub IsOwnOpening : {TheEdit : Type 0} → Setting TheEdit → ℕ → Request → Type 0
IsOwnOpening setting operator request = IfSome (opening_user request) (λ user. slice_get setting.users (operator - 1) ≡ Some user)

-- an event of an operator asks for a session so, and what comes to the manager names its change set and device by their numbers, from 1
abbrev pub IsGiven : {TheEdit : Type 0} → Setting TheEdit → Event → Type 0
IsGiven setting (Submit change) = 1 ≤ change
IsGiven setting (Turn change) = 1 ≤ change
IsGiven setting (Deliver change device link) = 1 ≤ change
IsGiven setting (Answer change device link number) = (1 ≤ change) × (1 ≤ device)
IsGiven setting (Break change device) = (1 ≤ change) × (1 ≤ device)
IsGiven setting (Lose change device link) = 1 ≤ change
IsGiven setting (Advance device seconds) = Unit {0}
IsGiven setting (Restart device) = Unit {0}
IsGiven setting (Forget change) = 1 ≤ change
IsGiven setting Crash = Unit {0}
IsGiven setting (Renew change device) = (1 ≤ change) × (1 ≤ device)
IsGiven setting (Foreign operator device request) = IsOwnOpening setting operator request
IsGiven setting (Leave operator device) = Unit {0}
IsGiven setting (Round change turns) = 1 ≤ change

-- so is each of these events
abbrev pub AreGiven : {TheEdit : Type 0} → Setting TheEdit → List Event → Type 0
AreGiven setting [] = Unit {0}
AreGiven setting (event ∷ events) = IsGiven setting event × AreGiven setting events

-- no operator has the manager's name, and there are no more devices and change sets than a scenario may have
pub record IsProper {Config TheEdit Node : Type 0} (m : Meaning Config TheEdit Node) (setting : Setting TheEdit)
    (running : List Config) (events : List Event) : Type 0 where
  pub first : (place : ℕ) → IfSome (slice_get running place) (IsFirst m)
  pub edits : All m.edit_belongs setting.tables.edits
  pub few_devices : length running ≤ 32
  pub few : length setting.plans ≤ 64
  pub strangers : (number : ℕ) → IfSome (slice_get setting.users number) (λ user. is_manager (Some user) ≡ false)
  pub given : AreGiven setting events

-- ---- all together

-- a world that began with these running configurations, after these events
pub record IsSafe {Config TheEdit Node : Type 0} (m : Meaning Config TheEdit Node) (setting : Setting TheEdit)
    (running : List Config) (events : List Event) (w : WorldState Config Node) : Type 0 where
  pub sound_devices : AreSoundFrom m setting running w
  -- change set c stands at place c - 1, and so does device d
  pub keeps_decisions : (place : ℕ) (plan : ChangePlan) (device : ℕ) (r : RecordedState Config Node)
      → slice_get setting.plans place ≡ Some plan → slice_get w.devices device ≡ Some r
      → KeepsDecision (suc place) (verdict_in (suc place) w.entries) (mask_contains (devices_in plan.edits) (suc device)) r.history
  -- over all links of a change set to a device the confirmed commit was sent once at most
  pub sent_once : (place : ℕ) (plan : ChangePlan) (device : ℕ) (r : RecordedState Config Node) → slice_get setting.plans place
      ≡ Some plan → slice_get w.devices device ≡ Some r
      → commits_over (wire_in (manager_in (core_of w)) (suc place) (suc device)).links ≤ 1
