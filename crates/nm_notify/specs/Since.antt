-- What one subscriber gets of all that is done with a stream that observes a device (this project's own): what it took, and what is
-- left for it.
use Rattle.std.specs.Prelude.{◌≡◌, ℕ, ◌==◌, List, [], ◌∷◌, ◌++◌, Bool, true, false, Option, Some, None, option_to_list}
use Rattle.nm_proto.specs.Content.{Meaning, TablesState}
use Rattle.nm_device.specs.Device.{DeviceState}
use Rattle.nm_device.specs.View.{view_of}
use Rattle.nm_history.specs.declared.event.Noted.{Noted}
use Rattle.nm_history.specs.History.{replayed}
use Rattle.nm_notify.specs.declared.notice.Notice.{Notice}
use Rattle.nm_notify.specs.Notices.{is_standing}
use Rattle.nm_notify.specs.Stream.{StreamState, observed, next_number, subscribed, unsubscribed, left_for, taken_from, after_taking}

-- what is done: the device's next entry comes, somebody subscribes, a subscriber takes, or one leaves
pub data Act : Type 0 where
  Observes : (entry : Noted) → Act
  Subscribes : Act
  Takes : (subscriber : ℕ) → Act
  Unsubscribes : (subscriber : ℕ) → Act

-- the entries that come
abbrev pub entries_in : List Act → List Noted
entries_in [] = []
entries_in (Observes entry ∷ acts) = entry ∷ entries_in acts
entries_in (Subscribes ∷ acts) = entries_in acts
entries_in (Takes subscriber ∷ acts) = entries_in acts
entries_in (Unsubscribes subscriber ∷ acts) = entries_in acts

-- this subscriber doesn't leave
abbrev pub Stays : ℕ → List Act → Type 0
Stays n [] = Unit {0}
Stays n (Observes entry ∷ acts) = Stays n acts
Stays n (Subscribes ∷ acts) = Stays n acts
Stays n (Takes subscriber ∷ acts) = Stays n acts
Stays n (Unsubscribes subscriber ∷ acts) = ((subscriber == n) ≡ false) × Stays n acts

-- a stream where somebody subscribes: nothing changes where nobody may
abbrev pub subscribed_if : Option ℕ → StreamState → StreamState
subscribed_if None stream = stream
subscribed_if (Some number) stream = subscribed stream

-- what this subscriber takes, where it is the one that takes
abbrev pub taken_if : Bool → Option (List Notice) → Option Notice
taken_if true left = taken_from left
taken_if false left = None

-- the same of an act
abbrev pub took : ℕ → StreamState → Act → Option Notice
took n stream (Observes entry) = None
took n stream Subscribes = None
took n stream (Takes subscriber) = taken_if (subscriber == n) (left_for stream.left subscriber)
took n stream (Unsubscribes subscriber) = None

module _ {Config TheEdit Node : Type 0} (m : Meaning Config TheEdit Node) (tables : TablesState TheEdit) where
  -- the device after an act: only an entry changes it
  abbrev pub device_after : DeviceState Config Node → Act → DeviceState Config Node
  device_after s (Observes entry) = replayed m tables s entry
  device_after s Subscribes = s
  device_after s (Takes subscriber) = s
  device_after s (Unsubscribes subscriber) = s

  -- the stream after an act: it is told what is pending at the device before an entry and after it
  abbrev pub stream_after : DeviceState Config Node → StreamState → Act → StreamState
  stream_after s stream (Observes entry) =
      observed stream (is_standing (view_of s.pending)) (is_standing (view_of (replayed m tables s entry).pending)) entry
  stream_after s stream Subscribes = subscribed_if (next_number stream) stream
  stream_after s stream (Takes subscriber) = after_taking stream subscriber
  stream_after s stream (Unsubscribes subscriber) = unsubscribed stream subscriber

  -- the stream after acts, one after another
  abbrev pub stream_at : DeviceState Config Node → StreamState → List Act → StreamState
  stream_at s stream [] = stream
  stream_at s stream (act ∷ acts) = stream_at (device_after s act) (stream_after s stream act) acts

  -- all that a subscriber takes, in order
  abbrev pub took_all : ℕ → DeviceState Config Node → StreamState → List Act → List Notice
  took_all n s stream [] = []
  took_all n s stream (act ∷ acts) = option_to_list (took n stream act) ++ took_all n (device_after s act) (stream_after s stream act) acts
