-- What the manager's commits leave that bring no change set: running as it was (this project's own, over RFC 6241 sections 8.3 and 8.4).
-- What others edited in candidate never comes with them.
use Rattle.std.specs.Prelude.{ℕ, ◌≡◌, ◌<◌, ◌^◌, List, Bool, true, false, Option, Some, None, slice_get}
use Rattle.nm_base.specs.Token.{token_of}
use Rattle.nm_proto.specs.declared.message.Request.TheVariants.{Commit}
use Rattle.nm_proto.specs.Content.{Meaning}
use Rattle.nm_sessions.specs.Sessions.{user_of}
use Rattle.nm_device.specs.Device.{DeviceState, fresh_device, is_manager}
use Rattle.nm_history.specs.declared.event.DeviceEvent.TheVariants.{Asked}
use Rattle.nm_history.specs.declared.event.Noted.{Noted}
use Rattle.nm_history.specs.Effect.{is_done_reply}
use Rattle.nm_history.specs.History.{RecordedState, replayed}
use Rattle.nm_device_laws.specs.Token.{is_commit_done}
use Rattle.nm_world.specs.World.{Setting, WorldState}
use Rattle.nm_safety.specs.Along.{Along}

module _ {Config Node : Type 0} where
  -- a commit of a session of the manager's that is done and gives no change set's token. Numbers of change sets have 32 bits
  pub record IsOtherCommit (s : DeviceState Config Node) (entry : Noted) : Type 0 where
    pub session : ℕ
    pub confirmed : Bool
    pub timeout : Option ℕ
    pub persist : Option (List ℕ)
    pub persist_id : Option (List ℕ)
    pub asked : entry.event ≡ Asked session (Commit confirmed timeout persist persist_id)
    pub managed : is_manager (user_of s.sessions session) ≡ true
    pub done : is_done_reply entry.reply ≡ true
    pub brings_none : (change : ℕ) → change < 2 ^ 32 → is_commit_done (token_of change) entry ≡ false

  -- it goes on with what is pending of a change set (RFC 6241 section 8.4.1), and running is as it was
  pub record LeavesRunning (s now : DeviceState Config Node) (persist persist_id : Option (List ℕ)) : Type 0 where
    pub change : ℕ
    pub gives_none : persist ≡ None
    pub names : persist_id ≡ Some (token_of change)
    pub running : now.stores.running ≡ s.stores.running

module _ {Config TheEdit Node : Type 0} (m : Meaning Config TheEdit Node) (setting : Setting TheEdit) where
  -- such a commit leaves running as it was
  abbrev pub LeavesAsIs : DeviceState Config Node → Noted → Type 0
  LeavesAsIs s entry = (other : IsOtherCommit s entry) → LeavesRunning s (replayed m setting.tables s entry) other.persist other.persist_id

  -- along a history, which is replayed from here: each of these commits does
  abbrev pub EachLeaves : DeviceState Config Node → List Noted → Type 0
  EachLeaves s history = Along (replayed m setting.tables) LeavesAsIs s history

-- a world that began with these running configurations
pub record LeavesAlone {Config TheEdit Node : Type 0} (m : Meaning Config TheEdit Node) (setting : Setting TheEdit) (running : List Config)
    (w : WorldState Config Node) : Type 0 where
  pub leaves : (place : ℕ) (first : Config) (r : RecordedState Config Node)
      → slice_get running place ≡ Some first → slice_get w.devices place ≡ Some r
      → EachLeaves m setting (fresh_device first) r.history
