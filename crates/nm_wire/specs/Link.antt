-- A link of the manager to a device (this project's own): the exchanges that it is done with, the one on its way, and whether
-- the device's side is open. That at most one request is undelivered, and that every reply is handled before the next request
-- goes out, follows from the type. The code keeps the session aside, and takes the room for an exchange with its request.
use Rattle.std.specs.Prelude.{ℕ, ◌+◌, ◌-◌, ◌^◌, ◌<◌, ◌≤◌, ◌==◌, List, [], ◌∷◌, ◌++◌, length, fold, Bool, true, false, not, ◌&&◌, Option, Some, None, if◌then◌else◌}
use Rattle.nm_proto.specs.declared.message.Request.{Request}
use Rattle.nm_proto.specs.declared.message.Request.TheVariants.{OpenSession, CloseSession}
use Rattle.nm_proto.specs.declared.message.Reply.{Reply}
use Rattle.nm_proto.specs.declared.message.Reply.TheVariants.{Done, Opened, LockId, Mark, Rows, Error}
use Rattle.nm_wire.specs.declared.link.Exchange.{Exchange}
use Rattle.nm_wire.specs.declared.link.Way.{Way}
use Rattle.nm_wire.specs.declared.link.Way.TheVariants.{Quiet, Asked, Told}

-- a link: its past exchanges, what is on its way, and whether its side at the device is open
pub record LinkState : Type 0 where
  pub past : List Exchange
  pub way : Way
  pub is_open : Bool

-- a link that nothing was sent on
abbrev pub fresh_link : LinkState
fresh_link = record { past = []; way = Quiet; is_open = true }

-- ---- what a link has

-- the request that the device hasn't answered
abbrev pub asked_on : Way → Option Request
asked_on Quiet = None
asked_on (Asked request) = Some request
asked_on (Told exchange) = None

-- the exchange that the manager hasn't handled
abbrev pub told_on_way : Way → Option Exchange
told_on_way Quiet = None
told_on_way (Asked request) = None
told_on_way (Told exchange) = Some exchange

-- the one request that isn't delivered: what was outstanding where the device's side closed is dropped
abbrev pub outstanding : LinkState → Option Request
outstanding link = if link.is_open then asked_on link.way else None

-- nothing is on its way
abbrev pub is_quiet_way : Way → Bool
is_quiet_way Quiet = true
is_quiet_way (Asked request) = false
is_quiet_way (Told exchange) = false

-- nothing was sent whose reply isn't handled
abbrev pub is_quiet : LinkState → Bool
is_quiet link = is_quiet_way link.way

-- how many replies are on their way: one at most, since a link carries one exchange at a time
abbrev pub told_count : Way → ℕ
told_count Quiet = 0
told_count (Asked request) = 0
told_count (Told exchange) = 1

-- how many replies were sent on it, and how many of them are handled
abbrev pub replies_sent : LinkState → ℕ
replies_sent link = length link.past + told_count link.way

-- how many replies the manager has handled
abbrev pub replies_handled : LinkState → ℕ
replies_handled link = length link.past

-- the exchange whose reply has this number, from 1, where it is the next to be handled
abbrev pub due_on : ℕ → LinkState → Option Exchange
due_on number link = if number == length link.past + 1 then told_on_way link.way else None

-- ---- what a link has done

module _ {A : Type 0} where
  -- what the exchange on its way adds: nothing until its reply was sent
  abbrev pub over_way : (A → Exchange → A) → A → Way → A
  over_way step value Quiet = value
  over_way step value (Asked request) = value
  over_way step value (Told exchange) = step value exchange

  -- what its exchanges make of a value, oldest first: those that are handled, and then the one that is told
  abbrev pub over : (A → Exchange → A) → A → LinkState → A
  over step value link = over_way step (fold step value link.past) link.way

-- the session that a reply opens
abbrev pub session_in : Reply → Option ℕ
session_in (Opened session) = Some session
session_in Done = None
session_in (LockId id) = None
session_in (Mark there) = None
session_in (Rows count) = None
session_in (Error tag session path) = None

-- the first session that was opened
abbrev pub first_session : Option ℕ → Exchange → Option ℕ
first_session (Some session) exchange = Some session
first_session None exchange = session_in exchange.reply

-- the session of a link: that of the first Opened that was sent on it
abbrev pub session_of : LinkState → Option ℕ
session_of link = over first_session None link

-- ---- what happens on a link

-- the manager is done with a link once it has handled the reply to the close of the session, or the refusal of one
abbrev pub ends : Request → Reply → Bool
ends CloseSession reply = true
ends (OpenSession user) (Error tag session path) = true
ends _ _ = false

-- the device is done with it once it has refused a session, or closed it
abbrev pub closes : Request → Reply → Bool
closes CloseSession Done = true
closes (OpenSession user) (Error tag session path) = true
closes _ _ = false

-- the manager sends a request
abbrev pub sent_on : Request → LinkState → LinkState
sent_on request link = record link { way = Asked request }

-- a link once the device has answered what was asked; where nothing was, unchanged
abbrev pub told_by : Reply → LinkState → Way → LinkState
told_by reply link Quiet = link
told_by reply link (Asked request) =
    record link { way = Told (record { request = request; reply = reply }); is_open = link.is_open && not (closes request reply) }
told_by reply link (Told exchange) = link

-- the device answers the request that is outstanding
abbrev pub told_on : Reply → LinkState → LinkState
told_on reply link = told_by reply link link.way

-- a link once the manager has handled the reply that is on its way; where none is, unchanged
abbrev pub handled_by : LinkState → Way → LinkState
handled_by link Quiet = link
handled_by link (Asked request) = link
handled_by link (Told exchange) = record link { past = link.past ++ exchange ∷ []; way = Quiet }

-- the manager handles the reply that was told
abbrev pub handled_on : LinkState → LinkState
handled_on link = handled_by link link.way

-- the device's side ends
abbrev pub closed_link : LinkState → LinkState
closed_link link = record link { is_open = false }

-- the greatest number of a link and of a reply: they are numbers of 32 bits
abbrev pub greatest_number : ℕ
greatest_number = 2 ^ 32 - 1

-- an exchange on its way has its place and its number
abbrev pub IsRoomFor : Way → ℕ → ℕ → Type 0
IsRoomFor Quiet handled room = handled ≤ greatest_number
IsRoomFor (Asked request) handled room = (handled < room) × (handled < greatest_number)
IsRoomFor (Told exchange) handled room = (handled < room) × (handled < greatest_number)
