-- What a device tells of confirmed commits (RFC 6470 section 2.2), by replaying its history: what was pending is that of the device
-- before each entry and after it.
use Rattle.std.specs.Prelude.{ℕ, ◌+◌, List, [], ◌∷◌, ◌++◌, Option, is_some, option_to_list}
use Rattle.nm_proto.specs.Content.{Meaning, TablesState}
use Rattle.nm_device.specs.Device.{DeviceState}
use Rattle.nm_history.specs.declared.event.Noted.{Noted}
use Rattle.nm_history.specs.History.{replayed}
use Rattle.nm_notify.specs.declared.notice.Notice.{Notice}
use Rattle.nm_notify.specs.Notices.{noticed}

module _ {Config TheEdit Node : Type 0} (m : Meaning Config TheEdit Node) (tables : TablesState TheEdit) where
  -- what an entry tells that comes to a device
  abbrev pub noticed_at : ℕ → DeviceState Config Node → Noted → Option Notice
  noticed_at n s entry = noticed n entry (is_some s.pending) (is_some (replayed m tables s entry).pending)

  -- what entries tell that come to a device, numbered from a number on
  abbrev pub notices_replayed : ℕ → DeviceState Config Node → List Noted → List Notice
  notices_replayed n s [] = []
  notices_replayed n s (entry ∷ history) = option_to_list (noticed_at n s entry) ++ notices_replayed (n + 1) (replayed m tables s entry) history
