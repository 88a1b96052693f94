-- A request of a link comes to the device (this project's own).
use Rattle.std.specs.Prelude.{◌≡◌, ◌≤◌, ◌==◌, ℕ, List, Bool, true, false, Some, IfSome}
use Rattle.nm_base.specs.Token.{token_of}
use Rattle.nm_proto.specs.declared.ask.Ask.{Ask}
use Rattle.nm_proto.specs.declared.ask.Ask.TheVariants as ask
use Rattle.nm_proto.specs.declared.message.Request.{Request}
use Rattle.nm_proto.specs.declared.message.Request.TheVariants.{Commit, CancelCommit}
use Rattle.nm_proto.specs.declared.message.Reply.{Reply}
use Rattle.nm_proto.specs.declared.message.Reply.TheVariants.{Done, Opened, Mark, Error}
use Rattle.nm_proto.specs.Content.{Meaning, TablesState}
use Rattle.nm_history.specs.declared.event.DeviceEvent.{DeviceEvent}
use Rattle.nm_history.specs.History.{Happened, RecordedState}
use Rattle.nm_device_laws.specs.Moment.{Happens}
use Rattle.nm_device_laws.specs.Numbered.{IsNumbered}
use Rattle.nm_device_laws.specs.Keeps.{is_asker}
use Rattle.nm_device_laws.specs.Telling.{TellsPending, TellsToken}
use Rattle.nm_wire.specs.Asks.{ask_of, same_ask}
use Rattle.nm_wire.specs.Link.{session_of}
use Rattle.nm_wire.specs.Wire.{WireState, outstanding_at}
use Rattle.nm_safety.specs.Pair.{first_link}

-- how a device answers what the manager asks: a session, whether the mark is there, or Done, and an error to any of them
abbrev pub is_answer : Ask → Reply → Bool
is_answer what (Error tag session path) = true
is_answer ask.OpenSession (Opened session) = true
is_answer ask.OpenSession _ = false
is_answer ask.HasMark (Mark there) = true
is_answer ask.HasMark _ = false
is_answer _ Done = true
is_answer _ _ = false

-- a commit or a cancel of the change set names its token alone
abbrev pub NamesOurs : List ℕ → Request → Type 0
NamesOurs token (Commit confirmed timeout persist persist_id) = IfSome persist (λ given. given ≡ token) × IfSome persist_id (λ named. named ≡ token)
NamesOurs token (CancelCommit persist_id) = IfSome persist_id (λ named. named ≡ token)
NamesOurs token _ = Unit {0}

-- what a link has outstanding happens at the device and is answered, and what is known of both before
pub record IsDelivered {Config TheEdit Node : Type 0} (m : Meaning Config TheEdit Node) (tables : TablesState TheEdit)
    (change : ℕ) (wire : WireState) (number : ℕ) (request : Request) (reply : Reply)
    (r : RecordedState Config Node) (event : DeviceEvent) (h : Happened Config Node) : Type 0 where
  pub out : outstanding_at wire number ≡ Some request
  pub happens : Happens m tables r.device event h
  pub told : h.reply ≡ Some reply
  pub answer : is_answer (ask_of request) reply ≡ true
  -- it is one of the manager's, and names the change set's token where it names one
  pub known : same_ask (ask_of request) ask.Resync ≡ false
  pub ours : NamesOurs (token_of change) request
  -- the session of the first link was opened before, and is no other link's
  pub opened : (session : ℕ) → session_of (first_link wire) ≡ Some session → session ≤ r.device.sessions.last
  pub others : (number == 1) ≡ false → (session : ℕ) → session_of (first_link wire) ≡ Some session → is_asker event session ≡ false
  -- and so are the device and its history
  pub numbered : IsNumbered r.device
  pub tells : TellsPending (token_of change) r
  pub tells_token : TellsToken (token_of change) r
