-- What is so at each entry of a history, beside what is carried along it (this project's own).
use Rattle.std.specs.Prelude.{ℕ, ◌≡◌, List, [], ◌∷◌, IfSome, slice_get}
use Rattle.nm_proto.specs.Content.{Meaning, TablesState}
use Rattle.nm_device.specs.Device.{DeviceState, fresh_device}
use Rattle.nm_history.specs.declared.event.Noted.{Noted}
use Rattle.nm_history.specs.History.{RecordedState, replay, replayed}

module _ {A : Type 0} (next : A → Noted → A) where
  -- what is carried to the end
  abbrev pub carried : A → List Noted → A
  carried so_far [] = so_far
  carried so_far (entry ∷ history) = carried (next so_far entry) history

  -- at each entry, with what was carried to it
  abbrev pub Along : (A → Noted → Type 0) → A → List Noted → Type 0
  Along P so_far [] = Unit {0}
  Along P so_far (entry ∷ history) = P so_far entry × Along P (next so_far entry) history

module _ {Config TheEdit Node : Type 0} (m : Meaning Config TheEdit Node) (tables : TablesState TheEdit) where
  -- a history that leads from a device to another, with what is so at each entry of the device before it
  pub record IsAlong (P : DeviceState Config Node → Noted → Type 0) (first : DeviceState Config Node) (r : RecordedState Config Node) : Type 0 where
    pub reaches : replay m tables first r.history ≡ r.device
    pub along : Along (replayed m tables) P first r.history

  -- so at a place, where a device began with one of these configurations
  abbrev pub HistoryAt : (DeviceState Config Node → Noted → Type 0) → List Config → ℕ → RecordedState Config Node → Type 0
  HistoryAt P running place r = IfSome (slice_get running place) (λ first. IsAlong P (fresh_device first) r)
