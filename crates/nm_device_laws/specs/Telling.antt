-- What the history of a device tells of the commit that is pending there (RFC 6241 section 8.4).
use Rattle.std.specs.Prelude.{◌≡◌, ℕ, List, true, false, is_some}
use Rattle.nm_proto.specs.declared.message.Request.{Request}
use Rattle.nm_history.specs.declared.event.DeviceEvent.TheVariants.{Asked}
use Rattle.nm_history.specs.declared.event.Noted.{Noted}
use Rattle.nm_history.specs.declared.outcome.Outcome.TheVariants.{Never, Pending}
use Rattle.nm_history.specs.Outcome.{Standing, standing_from, outcome_of, is_pending}
use Rattle.nm_history.specs.History.{Happened, RecordedState, recorded_with}
use Rattle.nm_device_laws.specs.Token.{waits_under}

-- where the reading of a whole history stands
abbrev pub standing_of : List ℕ → List Noted → Standing
standing_of token history = standing_from token (record { outcome = Never; other = false }) history

-- where no commit with the token was done, the history tells whether any other is pending; where one waits, one is pending
pub record TellsPending {Config Node : Type 0} (token : List ℕ) (r : RecordedState Config Node) : Type 0 where
  pub never : (standing_of token r.history).outcome ≡ Never → (standing_of token r.history).other ≡ is_some r.device.pending
  pub waits : (standing_of token r.history).outcome ≡ Pending → is_some r.device.pending ≡ true

-- what is pending has the token exactly where the outcome is Pending
abbrev pub TellsToken : {Config Node : Type 0} → List ℕ → RecordedState Config Node → Type 0
TellsToken token r = waits_under token r.device.pending ≡ is_pending (outcome_of token r.history)

-- the device with its history after a session's request
abbrev pub asked_with : {Config Node : Type 0} → RecordedState Config Node → ℕ → Request → Happened Config Node → RecordedState Config Node
asked_with r session request h = recorded_with r (Asked session request) h
