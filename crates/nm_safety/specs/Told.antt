-- A request of a link is answered by the device: what is used of what the device does (this project's own, over RFC 6241 sections 7.5
-- and 8.4).
use Rattle.std.specs.Prelude.{◌≡◌, ℕ, ◌+◌, List, [], ◌∷◌, ◌++◌, Bool, true, false, ◌&&◌, ◌||◌, not, Some, None, is_some}
use Rattle.nm_base.specs.Token.{token_of}
use Rattle.nm_proto.specs.declared.ask.Ask.{Ask}
use Rattle.nm_proto.specs.declared.ask.Ask.TheVariants as ask
use Rattle.nm_proto.specs.declared.message.Reply.{Reply}
use Rattle.nm_sessions.specs.Sessions.{is_open}
use Rattle.nm_device.specs.Device.{DeviceState}
use Rattle.nm_history.specs.declared.event.Noted.{Noted}
use Rattle.nm_history.specs.declared.outcome.Outcome.TheVariants.{Never, Pending, Confirmed, Undone}
use Rattle.nm_history.specs.declared.outcome.Undoing.TheVariants.{Cancel}
use Rattle.nm_history.specs.Outcome.{outcome_of}
use Rattle.nm_history.specs.History.{RecordedState}
use Rattle.nm_device_laws.specs.Numbered.{has_author}
use Rattle.nm_device_laws.specs.Own.{TakesRunning}
use Rattle.nm_device_laws.specs.Token.{KeepsToken, commits_done, waits_under}
use Rattle.nm_wire.specs.Link.{session_of, session_in}
use Rattle.nm_wire.specs.Words.{is_done}
use Rattle.nm_wire.specs.Wire.{WireState}
use Rattle.nm_safety.specs.Pair.{HoldsRunning, first_link}

-- ---- which answer it is

-- one that locks running, or that does the confirmed commit
abbrev pub locks_running : Ask → Reply → Bool
locks_running ask.LockRunning reply = is_done reply
locks_running _ reply = false

-- a request was the confirmed commit, and was done
abbrev pub does_commit : Ask → Reply → Bool
does_commit ask.CommitConfirmed reply = is_done reply
does_commit _ reply = false

-- any other but one that opens a session: it neither gives the lock of running nor does the commit
abbrev pub is_plain : Ask → Reply → Bool
is_plain what reply = not (is_some (session_in reply)) && not (locks_running what reply || does_commit what reply)

-- ---- what the device does

module _ {Config Node : Type 0} where
  -- who has running to itself has it still, while it is open, and who committed did before
  pub record KeepsHold (session : ℕ) (s now : DeviceState Config Node) : Type 0 where
    pub was_open : is_open now.sessions session ≡ true → is_open s.sessions session ≡ true
    pub holds : is_open now.sessions session ≡ true → HoldsRunning session s → HoldsRunning session now
    pub author : has_author now.pending session ≡ true → has_author s.pending session ≡ true

  -- a request that neither locks running nor names the token: a later link's, or one of the first that isn't one of these
  pub record AnswersPlainly (change : ℕ) (wire : WireState) (entry : Noted) (before after : RecordedState Config Node) : Type 0 where
    pub history : after.history ≡ before.history ++ entry ∷ []
    pub session : (session : ℕ) → session_of (first_link wire) ≡ Some session → KeepsHold session before.device after.device
    pub token : KeepsToken (token_of change) before.device entry after.device

  -- a session opens: who committed is another
  pub record OpensOurs (change : ℕ) (wire : WireState) (id : ℕ) (entry : Noted) (before after : RecordedState Config Node) : Type 0 where
    pub plainly : AnswersPlainly change wire entry before after
    pub fresh : has_author after.device.pending id ≡ false

  -- the session of the first link locks running
  pub record LocksOurs (change session : ℕ) (entry : Noted) (before after : RecordedState Config Node) : Type 0 where
    pub history : after.history ≡ before.history ++ entry ∷ []
    pub takes : TakesRunning session before.device after.device
    pub token : KeepsToken (token_of change) before.device entry after.device

  -- a commit or a cancel that names the token of what is pending under it
  pub record FollowsUp (token : List ℕ) (before after : RecordedState Config Node) : Type 0 where
    pub waited : outcome_of token before.history ≡ Pending
    pub count : commits_done token after.history ≡ commits_done token before.history
    pub sessions : after.device.sessions ≡ before.device.sessions

  -- one that sets its timer anew
  pub record RenewsOurs (token : List ℕ) (before after : RecordedState Config Node) : Type 0 where
    pub follows : FollowsUp token before after
    pub outcome : outcome_of token after.history ≡ Pending
    pub waits : waits_under token after.device.pending ≡ true

  -- one that confirms it, and one that cancels it
  pub record ConfirmsOurs (token : List ℕ) (before after : RecordedState Config Node) : Type 0 where
    pub follows : FollowsUp token before after
    pub outcome : outcome_of token after.history ≡ Confirmed
    pub ended : after.device.pending ≡ None

  -- a cancel of a change set was done
  pub record CancelsOurs (token : List ℕ) (before after : RecordedState Config Node) : Type 0 where
    pub follows : FollowsUp token before after
    pub outcome : outcome_of token after.history ≡ Undone Cancel
    pub ended : after.device.pending ≡ None

  -- the confirmed commit that brings the change set: where nothing was pending and none was done before, it waits under the token
  pub record BeginsOurs (token : List ℕ) (before after : RecordedState Config Node) : Type 0 where
    pub count : commits_done token after.history ≡ commits_done token before.history + 1
    pub outcome : before.device.pending ≡ None → outcome_of token before.history ≡ Never → outcome_of token after.history ≡ Pending
    pub waits : before.device.pending ≡ None → waits_under token after.device.pending ≡ true
