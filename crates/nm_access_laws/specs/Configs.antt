-- What is so of all configurations of a device (RFC 8342 section 5): those that it has, and the one that an undoing would bring back.
use Rattle.std.specs.Prelude.{◌≡◌, ℕ, List, Bool, true, Option, Some, IfSome, Result, Ok, slice_get}
use Rattle.nm_proto.specs.Content.{Meaning, TablesState}
use Rattle.nm_proto.specs.declared.message.DefaultOperation.{DefaultOperation}
use Rattle.nm_proto.specs.declared.message.Marks.{Marks}
use Rattle.nm_proto.specs.declared.message.Request.TheVariants.{Edit}
use Rattle.nm_base.specs.declared.number.EditNo.{EditNo}
use Rattle.nm_stores.specs.Stores.{candidate_of}
use Rattle.nm_device.specs.Device.{DeviceState}
use Rattle.nm_history.specs.declared.event.DeviceEvent.{DeviceEvent}
use Rattle.nm_history.specs.declared.event.DeviceEvent.TheVariants.{Asked}
use Rattle.nm_history.specs.declared.event.Noted.{Noted}
use Rattle.nm_history.specs.History.{Happened}
use Rattle.nm_device_laws.specs.Moment.{Happens}

module _ {Config Node : Type 0} (Q : Config → Type 0) where
  -- running, candidate, and what was before the pending commit
  pub record AllAre (s : DeviceState Config Node) : Type 0 where
    pub running : Q s.stores.running
    pub candidate : IfSome s.stores.candidate Q
    pub before : IfSome s.pending (λ p. Q p.before)

module _ {Config TheEdit Node : Type 0} (m : Meaning Config TheEdit Node) (tables : TablesState TheEdit) (Q : Config → Type 0) where
  -- an edit that is asked for makes such a configuration of candidate, where candidate is one and the edit isn't refused
  pub record EditsKeep (s : DeviceState Config Node) (event : DeviceEvent) : Type 0 where
    pub makes : (session : ℕ) (edit : EditNo) (operation : DefaultOperation) (marks : Option Marks) (nodes : TheEdit) (made : Config)
        → event ≡ Asked session (Edit edit operation marks) → slice_get tables.edits edit.0 ≡ Some nodes
        → Q (candidate_of s.stores) → m.edited (candidate_of s.stores) nodes operation marks ≡ Ok made → Q made

  -- the same of an entry of a history, where it happens
  abbrev pub KeepsAt : DeviceState Config Node → Noted → Type 0
  KeepsAt s entry = (h : Happened Config Node) → Happens m tables s entry.event h → EditsKeep s entry.event
