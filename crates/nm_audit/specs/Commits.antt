-- What follows of the commits of change sets where passes and histories agree (this project's own, over RFC 6241 section 8.4).
use Rattle.std.specs.Prelude.{◌≡◌, ◌≢◌, ℕ, true, false, slice_get, Some}
use Rattle.nm_base.specs.Token.{token_of}
use Rattle.nm_proto.specs.Content.{Meaning, TablesState}
use Rattle.nm_device.specs.Device.{fresh_device}
use Rattle.nm_history.specs.History.{IsLegal}
use Rattle.nm_device_laws.specs.Token.{is_commit_done}
use Rattle.nm_cells.specs.declared.pass.PassEntry.{PassEntry}
use Rattle.nm_cells.specs.Pass.{PassState}
use Rattle.nm_cells.specs.State.{CellView}
use Rattle.nm_cells.specs.Kept.{opens, enters_as_manager}
use Rattle.nm_audit.specs.declared.slot.SlotRecord.{SlotRecord}
use Rattle.nm_audit.specs.Audited.{history_of}

-- what the coordinator of a change set keeps of its commits: at each device it has at most one that gives the change set's token
-- and was done, and none that gives another's
pub record CommitsOnce (slot : SlotRecord) : Type 0 where
  pub once : (i j : ℕ) (one other : PassEntry) → slice_get slot.pass.entries i ≡ Some one → slice_get slot.pass.entries j ≡ Some other
      → is_commit_done (token_of slot.change) one.noted ≡ true → is_commit_done (token_of slot.change) other.noted ≡ true → one.device ≡ other.device → i ≡ j
  pub own : (change i : ℕ) (entry : PassEntry) → change ≢ slot.change → slice_get slot.pass.entries i ≡ Some entry → is_commit_done (token_of change) entry.noted ≡ false

-- what an operator keeps of its sessions: it opens none for the manager
pub record OpensOwn (pass : PassState) : Type 0 where
  pub own : (i session : ℕ) (entry : PassEntry) → slice_get pass.entries i ≡ Some entry → opens session entry.noted.reply ≡ true → enters_as_manager entry.noted.event ≡ false

module _ {Config TheEdit Node : Type 0} (m : Meaning Config TheEdit Node) (tables : TablesState TheEdit) where
  -- a device's history is that of one device which began with some configuration
  pub record LegalCell (cell : CellView Config Node) : Type 0 where
    pub running : Config
    pub legal : IsLegal m tables (fresh_device running) (history_of cell)
