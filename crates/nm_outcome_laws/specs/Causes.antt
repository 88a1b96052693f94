-- Why change sets are aborted (this project's own, over RFC 6241 section 8.4): what the world shows of each cause that the journal may
-- name. A device's history and the links to it show what was refused, and the trail shows what the manager lost.
use Rattle.std.specs.Prelude.{◌≡◌, ℕ, ◌-◌, List, [], ◌∷◌, ◌++◌, Contains, Bool, true, false, ◌&&◌, nat_eq, Option, Some, None, IfSome, slice_get}
use Rattle.std.specs.Prelude.{if◌then◌else◌}
use Rattle.std.specs.List.{list_any}
use Rattle.std.specs.Option.{option_or}
use Rattle.nm_base.specs.declared.tag.Tag.{Tag}
use Rattle.nm_base.specs.Words.{manager}
use Rattle.nm_proto.specs.declared.ask.Ask.{Ask}
use Rattle.nm_proto.specs.declared.ask.Ask.TheVariants as ask
use Rattle.nm_proto.specs.declared.message.Reply.{Reply}
use Rattle.nm_proto.specs.declared.message.Reply.TheVariants.{Done, Opened, LockId, Mark, Rows, Error}
use Rattle.nm_proto.specs.declared.journal.AbortCause.{AbortCause}
use Rattle.nm_proto.specs.declared.journal.AbortCause.TheVariants.{Refused, Broken, Forgotten, Lapsed}
use Rattle.nm_proto.specs.declared.journal.Entry.{Entry}
use Rattle.nm_proto.specs.declared.journal.Verdict.{Verdict}
use Rattle.nm_proto.specs.declared.journal.Verdict.TheVariants.{Abort}
use Rattle.nm_proto.specs.declared.plan.Event.{Event}
use Rattle.nm_proto.specs.declared.plan.Event.TheVariants.{Submit, Turn, Break, Forget, Crash}
use Rattle.nm_device.specs.Table.{opening_user}
use Rattle.nm_history.specs.declared.event.Noted.{Noted}
use Rattle.nm_history.specs.History.{RecordedState, event_of}
use Rattle.nm_recovery.specs.Recovery.{is_started, verdict_in}
use Rattle.nm_wire.specs.declared.link.Exchange.{Exchange}
use Rattle.nm_wire.specs.Asks.{ask_of}
use Rattle.nm_wire.specs.Link.{LinkState}
use Rattle.nm_wire.specs.Words.{exchanges_of}
use Rattle.nm_wire.specs.Wire.{WireState, link_at, session_at}
use Rattle.nm_manager.specs.Manager.{wire_in}
use Rattle.nm_world.specs.declared.happened.Happened.{Happened}
use Rattle.nm_world.specs.declared.happened.Happened.TheVariants as happened
use Rattle.nm_world.specs.declared.happened.TraceEntry.{TraceEntry}
use Rattle.nm_world.specs.World.{WorldState, manager_in, core_of}

-- ---- what the trail tells of a change set

-- it asks for the change set to be submitted
abbrev pub is_submit_of : ℕ → Event → Bool
is_submit_of change (Submit other) = nat_eq change other
is_submit_of change _ = false

-- and so it was
abbrev pub is_submission : Happened → Bool
is_submission happened.Started = true
is_submission _ = false

-- it was submitted then
abbrev pub starts_then : ℕ → TraceEntry → Bool
starts_then change passed = is_submit_of change passed.event && is_submission passed.happened

-- it was submitted
abbrev pub was_started : ℕ → List TraceEntry → Bool
was_started change trail = list_any (starts_then change) trail

-- the manager is to act for it
abbrev pub is_turn_of : ℕ → Event → Bool
is_turn_of change (Turn other) = nat_eq change other
is_turn_of change _ = false

-- what it decided then
abbrev pub verdict_told : Happened → Option Verdict
verdict_told (happened.Decided verdict) = Some verdict
verdict_told _ = None

-- its verdict, where it was decided then
abbrev pub decided_then : ℕ → TraceEntry → Option Verdict
decided_then change passed = if is_turn_of change passed.event then verdict_told passed.happened else None

-- its verdict, where it was decided: the first that came
abbrev pub was_decided : ℕ → List TraceEntry → Option Verdict
was_decided change [] = None
was_decided change (passed ∷ later) = option_or (decided_then change passed) (was_decided change later)

-- the trail tells the same of it as the journal
pub record IsToldAlike (change : ℕ) (trail : List TraceEntry) (entries : List Entry) : Type 0 where
  pub started : was_started change trail ≡ is_started change entries
  pub decided : was_decided change trail ≡ verdict_in change entries

-- ---- what was lost

-- the manager's link to a device broke, while the change set was undecided
pub record HasBroken (change device : ℕ) (trail : List TraceEntry) : Type 0 where
  pub earlier : List TraceEntry
  pub later : List TraceEntry
  pub there : trail ≡ earlier ++ record { event = Break change device; happened = happened.Broken } ∷ later
  pub undecided : was_decided change earlier ≡ None

-- what the manager knew of the change set was lost then, alone or with all else
abbrev pub is_forgotten_by : ℕ → Event → Happened → Bool
is_forgotten_by change (Forget other) happened.Forgot = nat_eq change other
is_forgotten_by change Crash happened.Crashed = true
is_forgotten_by change _ _ = false

-- so it was, once it was submitted and while it was undecided
pub record HasForgotten (change : ℕ) (trail : List TraceEntry) : Type 0 where
  pub earlier : List TraceEntry
  pub loss : TraceEntry
  pub later : List TraceEntry
  pub there : trail ≡ earlier ++ loss ∷ later
  pub forgets : is_forgotten_by change loss.event loss.happened ≡ true
  pub begun : was_started change earlier ≡ true
  pub still_open : was_decided change earlier ≡ None

-- ---- what was refused

-- the requests of a link whose reply was sent, with it: none where there is no link
abbrev pub exchanges_on : Option LinkState → List Exchange
exchanges_on None = []
exchanges_on (Some link) = exchanges_of link

-- the same of the link of a number
abbrev pub exchanges_at : WireState → ℕ → List Exchange
exchanges_at wire link = exchanges_on (link_at wire link)

module _ {Config Node : Type 0} where
  -- the history of a device, where it is there
  abbrev pub history_in : Option (RecordedState Config Node) → List Noted
  history_in None = []
  history_in (Some r) = r.history

  -- all that has happened at a device
  abbrev pub history_at : List (RecordedState Config Node) → ℕ → List Noted
  history_at devices device = history_in (slice_get devices (device - 1))

-- what was asked on a link, and replied, stands in the device's history: it was asked on the link's session, or asked for one as the
-- manager
pub record IsNoted (session : Option ℕ) (exchange : Exchange) (history : List Noted) : Type 0 where
  pub entry : Noted
  pub there : Contains history entry
  pub asked : event_of session exchange.request ≡ Some entry.event
  pub opened : IfSome (opening_user exchange.request) (λ user. user ≡ manager)
  pub replied : entry.reply ≡ Some exchange.reply

-- why it is refused (RFC 6241 appendix A)
abbrev pub error_tag : Reply → Option Tag
error_tag (Error tag session path) = Some tag
error_tag Done = None
error_tag (Opened session) = None
error_tag (LockId id) = None
error_tag (Mark there) = None
error_tag (Rows count) = None

-- of the requests that bring a change set to a device
abbrev pub is_bringing : Ask → Bool
is_bringing ask.OpenSession = true
is_bringing ask.LockRunning = true
is_bringing ask.LockCandidate = true
is_bringing ask.Edit = true
is_bringing ask.Validate = true
is_bringing ask.CommitConfirmed = true
is_bringing _ = false

-- it sets the timer of the pending commit anew (RFC 6241 section 8.4.1)
abbrev pub is_renewing : Ask → Bool
is_renewing ask.Renew = true
is_renewing _ = false

-- on one of these links something of this kind was asked, and the device replied an error of this tag
pub record WasRefused (asks : Ask → Bool) (tag : Tag) (wire : WireState) (history : List Noted) : Type 0 where
  pub link : ℕ
  pub exchange : Exchange
  pub told : Contains (exchanges_at wire link) exchange
  pub kind : asks (ask_of exchange.request) ≡ true
  pub error : error_tag exchange.reply ≡ Some tag
  pub noted : IsNoted (session_at wire link) exchange history

-- a renewal was
pub record HasLapsed (wire : WireState) (history : List Noted) : Type 0 where
  pub tag : Tag
  pub refused : WasRefused is_renewing tag wire history

-- ---- causes

module _ {Config Node : Type 0} (w : WorldState Config Node) (change : ℕ) where
  -- the links of the change set to a device
  abbrev pub links_to : ℕ → WireState
  links_to device = wire_in (manager_in (core_of w)) change device

  -- the world shows a cause why the change set is aborted
  abbrev pub HasCause : AbortCause → Type 0
  HasCause (Refused device tag) = WasRefused is_bringing tag (links_to device) (history_at w.devices device)
  HasCause (Broken device) = HasBroken change device w.trail
  HasCause Forgotten = HasForgotten change w.trail
  HasCause (Lapsed device) = HasLapsed (links_to device) (history_at w.devices device)

-- each abort in the journal has the cause that it names, and the trail tells of each change set what the journal does
pub record HaveCauses {Config Node : Type 0} (w : WorldState Config Node) : Type 0 where
  pub aborts_have_causes : (change : ℕ) (why : AbortCause) → verdict_in change w.entries ≡ Some (Abort why) → HasCause w change why
  pub trail_tells_journal : (change : ℕ) → IsToldAlike change w.trail w.entries
