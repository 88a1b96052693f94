-- What a device refuses to the manager isn't pending there any more (this project's own, over RFC 6241 section 8.4): an error to a confirm,
-- a cancel or a renewal of a change set tells that no commit waits under its token.
use Rattle.std.specs.Prelude.{◌≡◌, ℕ, List, true, false, Option, Some, None, slice_get}
use Rattle.nm_base.specs.Token.{token_of}
use Rattle.nm_proto.specs.declared.message.Request.{Request}
use Rattle.nm_proto.specs.declared.message.Request.TheVariants.{Commit, CancelCommit}
use Rattle.nm_proto.specs.Content.{Meaning}
use Rattle.nm_sessions.specs.Sessions.{user_of}
use Rattle.nm_device.specs.Device.{DeviceState, fresh_device, is_manager}
use Rattle.nm_history.specs.declared.event.DeviceEvent.TheVariants.{Asked}
use Rattle.nm_history.specs.declared.event.Noted.{Noted}
use Rattle.nm_history.specs.History.{RecordedState, replayed}
use Rattle.nm_device_laws.specs.Moment.{is_refused}
use Rattle.nm_device_laws.specs.Token.{waits_under}
use Rattle.nm_world.specs.World.{Setting, WorldState}
use Rattle.nm_safety.specs.Along.{Along}

-- the token that a request names of what is pending (RFC 6241 sections 8.4.4.1 and 8.4.5.1)
abbrev pub named_in : Request → Option (List ℕ)
named_in (Commit confirmed timeout persist persist_id) = persist_id
named_in (CancelCommit persist_id) = persist_id
named_in _ = None

module _ {Config Node : Type 0} where
  -- a session of the manager's names the token of a change set, and an error answers: a confirm, a renewal or a cancel is refused
  pub record IsRefused (change : ℕ) (s : DeviceState Config Node) (entry : Noted) : Type 0 where
    pub session : ℕ
    pub request : Request
    pub asked : entry.event ≡ Asked session request
    pub names : named_in request ≡ Some (token_of change)
    pub managed : is_manager (user_of s.sessions session) ≡ true
    pub refused : is_refused entry.reply ≡ true

  -- nothing waits under a token, before and after
  pub record WaitsNot (token : List ℕ) (s now : DeviceState Config Node) : Type 0 where
    pub before : waits_under token s.pending ≡ false
    pub after : waits_under token now.pending ≡ false

module _ {Config TheEdit Node : Type 0} (m : Meaning Config TheEdit Node) (setting : Setting TheEdit) where
  -- what an entry of a history tells as refused so isn't pending there
  abbrev pub LeavesGone : DeviceState Config Node → Noted → Type 0
  LeavesGone s entry = (change : ℕ) → IsRefused change s entry → WaitsNot (token_of change) s (replayed m setting.tables s entry)

  -- along a history, which is replayed from here: each of its entries
  abbrev pub EachRefuses : DeviceState Config Node → List Noted → Type 0
  EachRefuses s history = Along (replayed m setting.tables) LeavesGone s history

-- a world that began with these running configurations
pub record RefusesGone {Config TheEdit Node : Type 0} (m : Meaning Config TheEdit Node) (setting : Setting TheEdit) (running : List Config)
    (w : WorldState Config Node) : Type 0 where
  pub refuses : (place : ℕ) (first : Config) (r : RecordedState Config Node)
      → slice_get running place ≡ Some first → slice_get w.devices place ≡ Some r
      → EachRefuses m setting (fresh_device first) r.history
