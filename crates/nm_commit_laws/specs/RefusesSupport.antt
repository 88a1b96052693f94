-- What every world keeps besides, and from which it follows that what is refused to the manager isn't pending (this project's own, over
-- RFC 6241 sections 7.5 and 8.4, and RFC 5717 section 2.5).
use Rattle.std.specs.Prelude.{◌≡◌, ◌⊎◌, ℕ, suc, ◌≤◌, List, [], Bool, true, false, Option, Some, None, IfSome, is_some, slice_get}
use Rattle.nm_base.specs.Token.{token_of}
use Rattle.nm_proto.specs.declared.ask.Ask.TheVariants as ask
use Rattle.nm_proto.specs.declared.message.Request.{Request}
use Rattle.nm_proto.specs.declared.message.Request.TheVariants.{Commit}
use Rattle.nm_proto.specs.declared.message.Store.TheVariants.{Running, Candidate}
use Rattle.nm_proto.specs.declared.plan.ChangePlan.{ChangePlan}
use Rattle.nm_proto.specs.Content.{Meaning}
use Rattle.nm_sessions.specs.Sessions.{is_open, user_of}
use Rattle.nm_locks.specs.Locks.{owner_of}
use Rattle.nm_pending.specs.Pending.{PendingState, is_author}
use Rattle.nm_device.specs.Commit.{is_zero, names_reserved}
use Rattle.nm_device.specs.Device.{DeviceState, is_manager}
use Rattle.nm_history.specs.History.{RecordedState}
use Rattle.nm_device_laws.specs.Token.{waits_under}
use Rattle.nm_decider_stage.specs.declared.stage.Stage.{Stage}
use Rattle.nm_decider_stage.specs.declared.stage.Stage.TheVariants.{Live, Failed}
use Rattle.nm_wire.specs.Asks.{ask_of, same_ask}
use Rattle.nm_wire.specs.Link.{LinkState, asked_on, session_of}
use Rattle.nm_wire.specs.Words.{commits_sent, owns}
use Rattle.nm_wire.specs.Wire.{WireState}
use Rattle.nm_manager.specs.Slot.{SlotState}
use Rattle.nm_safety.specs.Support.{AllLinks}
use Rattle.nm_safety.specs.Along.{HistoryAt}
use Rattle.nm_safety.specs.Pairs.{AllPairs, OfPair}
use Rattle.nm_safety.specs.Keeping.{AreKept, OfDevice, OfSlot}
use Rattle.nm_world.specs.World.{Setting, CoreState}
use Rattle.nm_commit_laws.specs.Refuses.{LeavesGone}

-- ---- a device

module _ {Config Node : Type 0} where
  -- what a commit finds that waits under a token of the manager's: no part is locked, who holds running committed under it, and who did
  -- so and is open still is one of the manager's sessions and owns candidate
  pub record IsApart (s : DeviceState Config Node) (p : PendingState Config) : Type 0 where
    pub whole : s.partials.locks ≡ []
    pub lock : (owner : ℕ) → owner_of s.locks Running ≡ Some owner → is_author p owner ≡ true
    pub owner : (author : ℕ) → is_author p author ≡ true → is_open s.sessions author ≡ true → owner_of s.locks Candidate ≡ Some author
    pub managed : (author : ℕ) → is_author p author ≡ true → is_open s.sessions author ≡ true
        → is_manager (user_of s.sessions author) ≡ true

  -- and a change set waits where its timer has a second at least
  pub record IsGuarded (plans : List ChangePlan) (s : DeviceState Config Node) : Type 0 where
    pub apart : IfSome s.pending (λ p. names_reserved p.token ≡ true → IsApart s p)
    pub timed : (place : ℕ) (plan : ChangePlan) → slice_get plans place ≡ Some plan
        → waits_under (token_of (suc place)) s.pending ≡ true → is_zero (Some plan.timeout) ≡ false

-- ---- the course

-- a request of the first course may still be answered, or one was refused
abbrev pub is_at_first : Stage → Bool
is_at_first (Live done) = true
is_at_first Failed = true
is_at_first _ = false

-- what is current then is the first link
abbrev pub IsFirst : Stage → WireState → Type 0
IsFirst stage wire = is_at_first stage ≡ true → (number : ℕ) → wire.current ≡ Some number → number ≡ 1

module _ {Config Node : Type 0} where
  -- so where there is the device
  abbrev pub FirstPair : List (RecordedState Config Node) → OfPair
  FirstPair devices place decided seat side = is_some (slice_get devices place) ≡ true → IsFirst seat.stage side.wire

  -- at each device of a change set
  abbrev pub AllFirst : List (RecordedState Config Node) → SlotState → Type 0
  AllFirst devices slot = AllPairs (FirstPair devices) slot.course.verdict slot

-- ---- links

-- a confirmed commit is asked for with the timer of the change set
abbrev pub IsTimely : ChangePlan → Request → Type 0
IsTimely plan (Commit true timeout persist persist_id) = timeout ≡ Some plan.timeout
IsTimely plan _ = Unit {0}

-- and where the device is there, a cancel is asked for where candidate is the session's own, or on the first link
pub record AsksFitly (plan : ChangePlan) (has : Bool) (place : ℕ) (link : LinkState) (request : Request) : Type 0 where
  pub timely : IsTimely plan request
  pub cancels : has ≡ true → same_ask (ask_of request) ask.Cancel ≡ true → (place ≡ 0) ⊎ (owns link ≡ true)

module _ {Config Node : Type 0} where
  -- who locked candidate owns it, while it is open
  abbrev pub OwnsOn : LinkState → RecordedState Config Node → Type 0
  OwnsOn link r =
      (session : ℕ) → owns link ≡ true → session_of link ≡ Some session → is_open r.device.sessions session ≡ true
      → owner_of r.device.locks Candidate ≡ Some session

  -- a link, by its place
  pub record IsFit (plan : ChangePlan) (r : Option (RecordedState Config Node)) (place : ℕ) (link : LinkState) : Type 0 where
    pub asked : IfSome (asked_on link.way) (AsksFitly plan (is_some r) place link)
    -- the confirmed commit was sent after candidate was locked, and that needs a session
    pub sent : 1 ≤ commits_sent link → owns link ≡ true
    pub held : IfSome r (OwnsOn link)
    pub unheld : session_of link ≡ None → owns link ≡ false

  -- ---- change sets

  -- what is kept of a change set
  pub record IsFitted (plan : ChangePlan) (devices : List (RecordedState Config Node)) (slot : SlotState) : Type 0 where
    pub course : AllFirst devices slot
    pub links : AllLinks (λ d. IsFit plan (slice_get devices d)) slot.sides

  -- the same, of what stands of it
  abbrev pub OfFitted : OfSlot Config Node
  OfFitted change plan entries devices slot = IsFitted plan devices slot

-- ---- devices, all together

module _ {Config TheEdit Node : Type 0} (m : Meaning Config TheEdit Node) (setting : Setting TheEdit) (running : List Config) where
  -- a device that began so: what waits there, and a history that leads to it, in which what is refused isn't pending
  abbrev pub OfGuarded : OfDevice Config Node
  OfGuarded entries place r = IsGuarded setting.plans r.device × HistoryAt m setting.tables (LeavesGone m setting) running place r

  -- each change set and each device
  abbrev pub AreFit : CoreState Config Node → Type 0
  AreFit w = AreKept setting OfFitted OfGuarded w
