-- What every world keeps, whatever happens in it, and from which its safety follows (this project's own).
use Rattle.std.specs.Prelude.{◌≡◌, ◌⊎◌, ℕ, suc, ◌≤◌, ◌<◌, List, true, false, Option, Some, None, IfSome, is_some, slice_get}
use Rattle.nm_base.specs.Token.{token_of}
use Rattle.nm_base.specs.Words.{manager}
use Rattle.nm_proto.specs.declared.ask.Ask.TheVariants as ask
use Rattle.nm_proto.specs.declared.message.Request.{Request}
use Rattle.nm_proto.specs.declared.journal.Entry.{Entry}
use Rattle.nm_proto.specs.declared.plan.ChangePlan.{ChangePlan}
use Rattle.nm_proto.specs.Content.{Meaning}
use Rattle.nm_proto.specs.Plan.{devices_in}
use Rattle.nm_sessions.specs.Sessions.{is_open, user_of}
use Rattle.nm_device.specs.Device.{AllBelong, is_manager}
use Rattle.nm_device.specs.Table.{opening_user}
use Rattle.nm_history.specs.History.{RecordedState}
use Rattle.nm_recovery.specs.Recovery.{is_started, is_ended_in, verdict_in}
use Rattle.nm_device_laws.specs.Numbered.{IsNumbered}
use Rattle.nm_device_laws.specs.Telling.{TellsPending, TellsToken}
use Rattle.nm_decider_stage.specs.declared.stage.Stage.TheVariants.{Live}
use Rattle.nm_decider.specs.Course.{seats_from, seat_count}
use Rattle.nm_wire.specs.Asks.{ask_of, same_ask}
use Rattle.nm_wire.specs.Link.{LinkState, session_of, asked_on}
use Rattle.nm_manager.specs.Slot.{SideState, SlotState}
use Rattle.nm_safety.specs.Delivered.{NamesOurs}
use Rattle.nm_safety.specs.Slots.{AllHold}
use Rattle.nm_safety.specs.Step.{IsInStep}
use Rattle.nm_world.specs.World.{Setting, CoreState, given_on}

-- ---- links and their sessions

-- a link, by its change set and its place among the links of that to a device
pub record LinkName : Type 0 where
  pub change : ℕ
  pub place : ℕ

-- whose the sessions of a device are: a link's, or not the manager's
abbrev pub Owners : Type 0
Owners = ℕ → Option LinkName

-- a request that the manager makes for a change set
pub record IsOurs (change : ℕ) (request : Request) : Type 0 where
  pub known : same_ask (ask_of request) ask.Resync ≡ false
  pub names : NamesOurs (token_of change) request
  pub opens : IfSome (opening_user request) (λ user. user ≡ manager)

-- a link's session is its own and was opened once, up to the last session of the device, and what is asked on it is the manager's
pub record IsOwned (change : ℕ) (owners : Owners) (last place : ℕ) (link : LinkState) : Type 0 where
  pub session : (session : ℕ) → session_of link ≡ Some session → owners session ≡ Some (record { change = change; place = place })
  pub opened : (session : ℕ) → session_of link ≡ Some session → session ≤ last
  pub asked : IfSome (asked_on link.way) (IsOurs change)

module _ {Config Node : Type 0} where
  -- the same where there is a device, and links are made for change sets alone that were submitted
  pub record IsLinked (change : ℕ) (entries : List Entry) (owners : Owners) (device : Option (RecordedState Config Node))
      (place : ℕ) (link : LinkState) : Type 0 where
    pub begun : is_started change entries ≡ true
    pub owned : IfSome device (λ r. IsOwned change owners r.device.sessions.last place link)

-- each link of a change set, by the place of its device and its own
abbrev pub AllLinks : (ℕ → ℕ → LinkState → Type 0) → List SideState → Type 0
AllLinks P sides = (d : ℕ) → IfSome (slice_get sides d) (λ side. (place : ℕ) → IfSome (slice_get side.wire.links place) (P d place))

-- ---- a change set

-- a change set that ended before the manager started anew: nothing is done for it any more
pub record IsAtRest (change members : ℕ) (entries : List Entry) (slot : SlotState) : Type 0 where
  pub ended : is_ended_in change entries ≡ true
  pub seats : slot.course.seats ≡ seats_from members (Live 0) 1 seat_count
  pub cut : (d : ℕ) → IfSome (slice_get slot.sides d) (λ side. side.wire.current ≡ None)

module _ {Config Node : Type 0} where
  -- what is kept of a change set of these devices
  pub record IsKept (change members : ℕ) (entries : List Entry) (owners : ℕ → Owners)
      (devices : List (RecordedState Config Node)) (slot : SlotState) : Type 0 where
    pub numbered : slot.course.change ≡ change
    pub in_step : IsInStep change members entries slot
    -- the course has the verdict of the journal, or is over
    pub known : (slot.course.verdict ≡ verdict_in change entries) ⊎ IsAtRest change members entries slot
    pub holds : AllHold change (verdict_in change entries) slot devices
    pub linked : AllLinks (λ d. IsLinked change entries (owners d) (slice_get devices d)) slot.sides
    pub tells : (d : ℕ) → IfSome (slice_get devices d) (TellsToken (token_of change))

  -- what is kept goes with the plan, where both are there
  abbrev pub KeptAt : ℕ → List Entry → (ℕ → Owners) → List (RecordedState Config Node) → Option ChangePlan → Option SlotState → Type 0
  KeptAt change entries owners devices None None = Unit {0}
  KeptAt change entries owners devices None (Some slot) = ⊥
  KeptAt change entries owners devices (Some plan) None = ⊥
  KeptAt change entries owners devices (Some plan) (Some slot) = IsKept change (devices_in plan.edits) entries owners devices slot

-- ---- entries, devices, operators

-- a change set has a verdict only where it was submitted, and one where it is ended
pub record IsOrdered (change : ℕ) (entries : List Entry) : Type 0 where
  pub begun : is_started change entries ≡ false → verdict_in change entries ≡ None
  pub ended : is_ended_in change entries ≡ true → is_some (verdict_in change entries) ≡ true

module _ {Config TheEdit Node : Type 0} (m : Meaning Config TheEdit Node) where
  -- a device by itself: the manager's sessions are those of its links
  pub record IsDevice (owners : Owners) (r : RecordedState Config Node) : Type 0 where
    pub numbered : IsNumbered r.device
    pub belong : AllBelong m r.device.stores r.device.pending
    pub tells : (token : List ℕ) → TellsPending token r
    pub users : (session : ℕ) → is_open r.device.sessions session ≡ true → is_manager (user_of r.device.sessions session) ≡ is_some (owners session)
    pub fresh : (session : ℕ) → r.device.sessions.last < session → owners session ≡ None

module _ {Config Node : Type 0} where
  -- an operator's sessions are no link's
  abbrev pub IsOperator : (ℕ → Owners) → List (RecordedState Config Node) → List (Option ℕ) → Type 0
  IsOperator owners devices operator = (d : ℕ) → IfSome (slice_get devices d) (λ r. (session : ℕ) → given_on operator d ≡ Some session
      → (owners d session ≡ None) × (session ≤ r.device.sessions.last))

-- ---- all together

-- what every world keeps: whose each session is, and what is kept of each change set
pub record IsSupported {Config TheEdit Node : Type 0} (m : Meaning Config TheEdit Node) (setting : Setting TheEdit) (w : CoreState Config Node) : Type 0 where
  pub owners : ℕ → Owners
  pub entries : (change : ℕ) → IsOrdered change w.entries
  pub devices : (d : ℕ) → IfSome (slice_get w.devices d) (IsDevice m (owners d))
  pub slots : (place : ℕ) → KeptAt (suc place) w.entries owners w.devices (slice_get setting.plans place) (slice_get w.slots place)
  pub operators : (number : ℕ) → IfSome (slice_get w.operators number) (IsOperator owners w.devices)
