-- What one change set and one device keep of each other, whatever happens: the first pass (this project's own, over RFC 6241 section
-- 8.4). Four records by what they read, since an event touches one or two.
use Rattle.std.specs.Prelude.{◌≡◌, ◌≤◌, ℕ, ◌+◌, ◌==◌, nat_le, List, [], Bool, true, false, ◌||◌, Option, Some, None, IfSome, option_map, slice_get, unwrap_or, if◌then◌else◌}
use Rattle.nm_base.specs.Token.{token_of}
use Rattle.nm_proto.specs.declared.ask.Ask.{Ask}
use Rattle.nm_proto.specs.declared.ask.Ask.TheVariants as ask
use Rattle.nm_proto.specs.declared.message.Request.{Request}
use Rattle.nm_proto.specs.declared.message.Store.TheVariants.{Running}
use Rattle.nm_proto.specs.declared.journal.Verdict.{Verdict}
use Rattle.nm_proto.specs.declared.journal.Verdict.TheVariants as verdict
use Rattle.nm_sessions.specs.Sessions.{is_open}
use Rattle.nm_locks.specs.Locks.{owner_of}
use Rattle.nm_device.specs.Device.{DeviceState}
use Rattle.nm_history.specs.declared.outcome.Outcome.{Outcome}
use Rattle.nm_history.specs.declared.outcome.Outcome.TheVariants.{Never, Confirmed, Undone}
use Rattle.nm_history.specs.declared.outcome.Undoing.TheVariants.{Cancel, End}
use Rattle.nm_history.specs.Outcome.{outcome_of, is_pending}
use Rattle.nm_history.specs.History.{RecordedState}
use Rattle.nm_device_laws.specs.Numbered.{has_author}
use Rattle.nm_device_laws.specs.Token.{commits_done, waits_under}
use Rattle.nm_decider_stage.specs.declared.stage.Stage.{Stage}
use Rattle.nm_decider_stage.specs.declared.stage.Stage.TheVariants.{Live, Refused}
use Rattle.nm_decider_stage.specs.Stages.{all_done, is_acknowledged}
use Rattle.nm_decider.specs.declared.seat.Seat.{Seat}
use Rattle.nm_decider.specs.Moves.{is_commit}
use Rattle.nm_wire.specs.Asks.{ask_of}
use Rattle.nm_wire.specs.Link.{LinkState, fresh_link, asked_on, outstanding, session_of}
use Rattle.nm_wire.specs.Words.{commits_sent, commit_count, holds, was_done, was_sent}
use Rattle.nm_wire.specs.Wire.{WireState, current_link}
use Rattle.nm_manager.specs.Slot.{to_commit}

-- ---- words

-- it was never committed there
abbrev pub is_never : Outcome → Bool
is_never Never = true
is_never _ = false

-- it is confirmed there
abbrev pub is_confirmed : Outcome → Bool
is_confirmed Confirmed = true
is_confirmed _ = false

-- a cancel undid it
abbrev pub is_cancelled : Outcome → Bool
is_cancelled (Undone Cancel) = true
is_cancelled _ = false

-- the end of a session undid it
abbrev pub is_ended : Outcome → Bool
is_ended (Undone End) = true
is_ended _ = false

-- the change set is to be aborted
abbrev pub to_abort : Option Verdict → Bool
to_abort None = false
to_abort (Some verdict.Commit) = false
to_abort (Some (verdict.Abort why)) = true

-- the first link, fresh where none was made
abbrev pub first_link : WireState → LinkState
first_link wire = unwrap_or (slice_get wire.links 0) fresh_link

-- what is asked by the request that isn't answered, whether the device's side is open or not
abbrev pub asked_ask : LinkState → Option Ask
asked_ask link = option_map ask_of (asked_on link.way)

-- a request is the confirmed commit of a change set
abbrev pub commits_in : Option Request → ℕ
commits_in None = 0
commits_in (Some request) = commit_count (ask_of request)

-- how many confirmed commits that bring the change set are sent and may still come to the device
abbrev pub undelivered : LinkState → ℕ
undelivered link = commits_in (outstanding link)

-- ---- the first link

-- a session has running to itself: it owns the lock, nothing is pending, and no part is locked (RFC 6241 section 7.5, RFC 5717
-- section 2.5)
pub record HoldsRunning {Config Node : Type 0} (session : ℕ) (s : DeviceState Config Node) : Type 0 where
  pub owner : owner_of s.locks Running ≡ Some session
  pub free : s.pending ≡ None
  pub whole : s.partials.locks ≡ []

-- the first link to a device, and the device: the one confirmed commit goes out on it, and finds running as it was locked
pub record FirstLink {Config Node : Type 0} (token : List ℕ) (link : LinkState) (r : RecordedState Config Node) : Type 0 where
  -- what was done was sent, and it was sent once
  pub count : commits_done token r.history + undelivered link ≤ commits_sent link
  pub once : commits_sent link ≤ 1
  -- what the device told it has done
  pub told : was_done ask.CommitConfirmed link ≡ true → is_never (outcome_of token r.history) ≡ false
  -- from the lock to the commit running is the session's alone, while that is open
  pub held : holds link ≡ true → (session : ℕ) → session_of link ≡ Some session → is_open r.device.sessions session ≡ true → HoldsRunning session r.device
  pub unheld : session_of link ≡ None → holds link ≡ false
  -- the commit is asked for on a session that holds the lock
  pub asked : asked_ask link ≡ Some ask.CommitConfirmed → holds link ≡ true
  -- who committed was sent the commit
  pub author : (session : ℕ) → session_of link ≡ Some session → has_author r.device.pending session ≡ true → 1 ≤ commits_sent link
  -- the lock is asked for before it
  pub locking : asked_ask link ≡ Some ask.LockRunning → commits_sent link ≡ 0

-- ---- every link

-- a confirm goes out under a commit alone, and a cancel under an abort alone
pub record EachLink (decided : Option Verdict) (place : ℕ) (link : LinkState) : Type 0 where
  -- no link but the first was sent the confirmed commit
  pub later : 1 ≤ place → commits_sent link ≡ 0
  pub confirm : was_sent ask.Confirm link ≡ true → to_commit decided ≡ true
  pub cancel : was_sent ask.Cancel link ≡ true → to_abort decided ≡ true

-- ---- the outcome

-- what has become of the change set at the device, as far as it is said by the verdict
pub record OutcomeFits {Config Node : Type 0} (token : List ℕ) (decided : Option Verdict) (member : Bool) (r : RecordedState Config Node) : Type 0 where
  pub confirmed : is_confirmed (outcome_of token r.history) ≡ true → to_commit decided ≡ true
  pub cancelled : is_cancelled (outcome_of token r.history) ≡ true → to_abort decided ≡ true
  pub ended : is_ended (outcome_of token r.history) ≡ false
  pub committed : to_commit decided ≡ true → member ≡ true → is_never (outcome_of token r.history) ≡ false
  pub pending : is_pending (outcome_of token r.history) ≡ true → waits_under token r.device.pending ≡ true

-- ---- before the verdict

-- how many confirmed commits may have been sent where nothing is decided
abbrev pub may_be_sent : Stage → Option Ask → ℕ
may_be_sent (Live done) awaited = if done == all_done || is_commit awaited then 1 else 0
may_be_sent Refused awaited = 0
may_be_sent _ awaited = 1

-- running is locked, and nothing was refused
abbrev pub is_locked : Stage → Bool
is_locked (Live done) = nat_le 2 done
is_locked _ = false

-- the device is at one of its own stages
abbrev pub is_live : Stage → Bool
is_live (Live done) = true
is_live _ = false

-- what holds of a device while nothing is decided
pub record Undecided (outcome : Outcome) (seat : Seat) (wire : WireState) : Type 0 where
  pub unsent : commits_sent (first_link wire) ≤ may_be_sent seat.stage seat.awaited
  -- a device that has acknowledged has committed
  pub acked : is_acknowledged seat.stage ≡ true → is_never outcome ≡ false
  -- whose lock is done holds it until the commit is sent
  pub ready : is_locked seat.stage ≡ true → commits_sent (first_link wire) ≡ 0 → holds (first_link wire) ≡ true
  -- there is one link at most, and none before the first request
  pub only : (number : ℕ) → wire.current ≡ Some number → number ≡ 1
  pub unmade : is_live seat.stage ≡ true → current_link wire ≡ None → wire.links ≡ []

-- ---- all together

-- what holds of a device, its seat and its links
pub record PairHolds {Config Node : Type 0} (change : ℕ) (decided : Option Verdict) (seat : Seat) (wire : WireState)
    (r : RecordedState Config Node) : Type 0 where
  pub first : FirstLink (token_of change) (first_link wire) r
  pub each : (place : ℕ) → IfSome (slice_get wire.links place) (EachLink decided place)
  pub outcome : OutcomeFits (token_of change) decided seat.is_member r
  pub undecided : decided ≡ None → Undecided (outcome_of (token_of change) r.history) seat wire
