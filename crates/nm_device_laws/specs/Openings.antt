-- Who opened a session, as the history of a device tells it (RFC 6241 section 8.1).
use Rattle.std.specs.Prelude.{◌≡◌, ℕ, List, slice_get, Some}
use Rattle.nm_proto.specs.declared.message.Reply.TheVariants.{Opened}
use Rattle.nm_history.specs.declared.event.DeviceEvent.TheVariants.{Entered}
use Rattle.nm_history.specs.declared.event.Noted.{Noted}

-- an entry of the history opened the session for this user
pub record IsOpenedFor (user : List ℕ) (session : ℕ) (history : List Noted) : Type 0 where
  pub place : ℕ
  pub entry : Noted
  pub stands : slice_get history place ≡ Some entry
  pub event_is : entry.event ≡ Entered user
  pub reply_is : entry.reply ≡ Some (Opened session)
