-- What an operator's pass holds: its script, in order (this project's own, over RFC 6241 sections 7.8, 7.9 and 8.4.1). Where its
-- session stands is read from the pass itself, and not from what the operator keeps beside it.
use Rattle.std.specs.Prelude.{◌≡◌, ◌≤◌, ◌⊎◌, ℕ, ◌-◌, ◌==◌, Bool, true, slice_get, List, [], ◌∷◌, ◌++◌, fold, Option, Some, None, is_some, is_none, MatchBool, if◌then◌else◌}
use Rattle.nm_proto.specs.declared.message.Request.{Request}
use Rattle.nm_proto.specs.declared.message.Reply.{Reply}
use Rattle.nm_proto.specs.declared.message.Reply.TheVariants.{Done, Opened, LockId, Mark, Rows, Error}
use Rattle.nm_device.specs.Table.{is_opening}
use Rattle.nm_history.specs.declared.event.DeviceEvent.{DeviceEvent}
use Rattle.nm_history.specs.declared.event.DeviceEvent.TheVariants.{Asked, Lost}
use Rattle.nm_history.specs.declared.event.Noted.{Noted}
use Rattle.nm_history.specs.History.{event_of}
use Rattle.nm_run_plan.specs.declared.plan.OperatorPlan.{OperatorPlan}
use Rattle.nm_run_plan.specs.declared.plan.ScriptEntry.{ScriptEntry}
use Rattle.nm_cells.specs.declared.pass.PassEntry.{PassEntry}
use Rattle.nm_cells.specs.declared.pass.PassOwner.TheVariants.{Operator}
use Rattle.nm_cells.specs.Pass.{PassState}
use Rattle.nm_cells.specs.Ended.{ends, operator_knows, lost_nowhere}

-- ---- whose session

-- the session that a reply opened
abbrev pub opened_by_reply : Option Reply → Option ℕ
opened_by_reply None = None
opened_by_reply (Some Done) = None
opened_by_reply (Some (Opened session)) = Some session
opened_by_reply (Some (LockId id)) = None
opened_by_reply (Some (Mark there)) = None
opened_by_reply (Some (Rows count)) = None
opened_by_reply (Some (Error tag holder path)) = None

-- the session that was open, unless the entry ended it
abbrev pub unless_ended : Option ℕ → Noted → Option ℕ
unless_ended None entry = None
unless_ended (Some session) entry = if ends session entry then None else Some session

-- the session that was opened, and else the one that goes on
abbrev pub or_goes_on : Option ℕ → Option ℕ → Option ℕ
or_goes_on None before = before
or_goes_on (Some opened) before = Some opened

-- the session after an entry of the device
abbrev pub session_after : ℕ → Option ℕ → PassEntry → Option ℕ
session_after device session entry =
    if entry.device == device then or_goes_on (opened_by_reply entry.noted.reply) (unless_ended session entry.noted) else session

-- the session that an operator has at a device: the last that its pass opened there, unless the pass has what ended it
abbrev pub session_at : ℕ → List PassEntry → Option ℕ
session_at device entries = fold (session_after device) None entries

-- ---- the script

-- a request for a session is asked where there is none, and any other where there is one
abbrev pub is_idle : Option ℕ → Request → Bool
is_idle session request = if is_opening request then is_some session else is_none session

-- a request was asked on the session
abbrev pub IsRequest : Option ℕ → Request → DeviceEvent → Type 0
IsRequest None request event = ⊥
IsRequest (Some session) request event = event ≡ Asked session request

-- the loss of a session at no place
abbrev pub IsLostNowhere : ℕ → PassEntry → Type 0
IsLostNowhere session entry = (entry.position ≡ 0) × (entry.noted ≡ (lost_nowhere session).noted)

-- what an operator found in place of an answer: what ended its session, of which it may know, or the loss of it at no place
abbrev pub IsEnding : Option ℕ → PassEntry → Type 0
IsEnding None entry = ⊥
IsEnding (Some session) entry =
    ((1 ≤ entry.position) × (ends session entry.noted ≡ true) × (operator_knows entry.noted.event ≡ true))
    ⊎ IsLostNowhere session entry

-- the request with its reply, or what ended the session that was asked
pub record Answers (session : Option ℕ) (step : ScriptEntry) (entry : PassEntry) : Type 0 where
  pub device_is : entry.device ≡ step.device
  pub entry_is : ((event_of session step.request ≡ Some entry.noted.event) × (is_some entry.noted.reply ≡ true)) ⊎ IsEnding session entry

-- the next entry is of this request, and the others go on
abbrev pub NextIs : (PassEntry → Type 0) → (PassEntry → List PassEntry → Type 0) → List PassEntry → Type 0
NextIs is_its go_on [] = ⊥
NextIs is_its go_on (entry ∷ later) = is_its entry × go_on entry later

-- the operator hangs up a session that it has
pub record HangsUpAt (session : Option ℕ) (entry : PassEntry) : Type 0 where
  pub position : 1 ≤ entry.position
  pub its : ℕ
  pub session_is : session ≡ Some its
  pub event_is : entry.noted.event ≡ Lost its

-- at the end only hangings up come, each of a session that the operator still has, so at most one for each
abbrev pub HangsUp : List PassEntry → List PassEntry → Type 0
HangsUp before [] = Unit {0}
HangsUp before (entry ∷ later) = HangsUpAt (session_at entry.device before) entry × HangsUp (before ++ entry ∷ []) later

-- a pass goes on by a script: idle requests leave nothing, and each other one leaves one entry
abbrev pub Walks : List PassEntry → List ScriptEntry → List PassEntry → Type 0
Walks before [] later = HangsUp before later
Walks before (step ∷ script) later =
    MatchBool (is_idle (session_at step.device before) step.request) (Walks before script later)
    (NextIs (Answers (session_at step.device before) step) (λ entry rest. Walks (before ++ entry ∷ []) script rest) later)

-- the pass of an operator is its script, in order
pub record KeepsScript (plan : OperatorPlan) (number : ℕ) (pass : PassState) : Type 0 where
  pub owner : pass.owner ≡ Operator number
  pub walks : Walks [] plan.script pass.entries

-- these are the sessions that an operator has at devices 1 to 32, by its pass
abbrev pub AreSessions : List (Option ℕ) → List PassEntry → Type 0
AreSessions sessions entries = (device : ℕ) → 1 ≤ device → device ≤ 32 → slice_get sessions (device - 1) ≡ Some (session_at device entries)
