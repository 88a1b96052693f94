-- The device moves, and no session of the change set asks for it: another's request, another's end, a timer, a restart, an opening
-- (this project's own, over RFC 6241 sections 7.5 and 8.4).
use Rattle.std.specs.Prelude.{◌≡◌, ◌≤◌, ℕ, [], ◌∷◌, ◌++◌, Some}
use Rattle.nm_base.specs.Token.{token_of}
use Rattle.nm_history.specs.declared.event.Noted.{Noted}
use Rattle.nm_history.specs.History.{RecordedState}
use Rattle.nm_device_laws.specs.Keeps.{KeepsFor}
use Rattle.nm_device_laws.specs.Token.{KeepsToken}
use Rattle.nm_wire.specs.Link.{session_of}
use Rattle.nm_wire.specs.Wire.{WireState}
use Rattle.nm_safety.specs.Pair.{first_link}

-- one more entry of the history, what stands for the session of the first link, and what is told of the token
pub record Moves {Config Node : Type 0} (change : ℕ) (wire : WireState) (entry : Noted) (before after : RecordedState Config Node) : Type 0 where
  pub history : after.history ≡ before.history ++ entry ∷ []
  -- the session was opened before
  pub opened : (session : ℕ) → session_of (first_link wire) ≡ Some session → session ≤ before.device.sessions.last
  pub session : (session : ℕ) → session_of (first_link wire) ≡ Some session → KeepsFor session before.device after.device
  pub token : KeepsToken (token_of change) before.device entry after.device
