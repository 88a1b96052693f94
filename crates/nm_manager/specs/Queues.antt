-- The queues of the devices, as the entries of a journal tell them (this project's own). The code keeps them beside the entries.
use Rattle.std.specs.Prelude.{◌≡◌, ℕ, ◌<◌, List, [], ◌∷◌, ◌++◌, Bool, false, not, ◌&&◌, ◌||◌, true, nat_eq, Option, Some, if◌then◌else◌}
use Rattle.std.specs.List.{list_any, flat_map, All}
use Rattle.nm_base.specs.Mask.{mask_contains}
use Rattle.nm_order.specs.declared.ticket.Ticket.{Ticket}
use Rattle.nm_order.specs.Queue.{OrderState, share_device}
use Rattle.nm_proto.specs.declared.journal.Entry.{Entry}
use Rattle.nm_proto.specs.declared.journal.Entry.TheVariants.{Started, Decided, Ended}
use Rattle.nm_journal.specs.Entries.{may_follow}
use Rattle.nm_journal.specs.Fits.{JournalState}
use Rattle.nm_recovery.specs.Recovery.{is_ended_in}

-- the journal, and whether the manager has failed
pub record JournalQueuesState : Type 0 where
  pub entries : List Entry
  pub failed : Option Entry
  pub has_failed : Bool

-- what its journal holds
abbrev pub journal_of : JournalQueuesState → JournalState
journal_of journal_queues = record { entries = journal_queues.entries; failed = journal_queues.failed }

-- an entry comes into the journal, where it may come next
abbrev pub entered : JournalQueuesState → Entry → JournalQueuesState
entered journal_queues entry = if may_follow journal_queues.entries entry
    then record journal_queues { entries = journal_queues.entries ++ entry ∷ [] } else journal_queues

-- the disk failed at an entry
abbrev pub failed_at : JournalQueuesState → Entry → JournalQueuesState
failed_at journal_queues entry = record journal_queues { failed = Some entry; has_failed = true }

-- ---- who is ready

-- the ticket that an entry gives to the queues
abbrev pub tickets_by : Entry → List Ticket
tickets_by (Started change devices timeout) = record { change = change; devices = devices } ∷ []
tickets_by (Decided change verdict) = []
tickets_by (Ended change kept) = []

-- the change sets that were submitted, the first of them first
abbrev pub tickets_in : List Entry → List Ticket
tickets_in entries = flat_map tickets_by entries

-- an earlier change set holds up a later one: it isn't ended, and they have a device in common
abbrev pub holds_up : List Entry → Ticket → Ticket → Bool
holds_up entries ticket earlier = not (is_ended_in earlier.change entries) && share_device earlier.devices.0 ticket.devices.0

-- a change set isn't ended, and none before it holds it up
abbrev pub goes_first : List Entry → List Ticket → Ticket → Bool
goes_first entries before ticket = not (is_ended_in ticket.change entries) && not (list_any (holds_up entries ticket) before)

-- a change set is ready among these tickets, where those before it are known
abbrev pub ready_among : List Entry → ℕ → List Ticket → List Ticket → Bool
ready_among entries change before [] = false
ready_among entries change before (ticket ∷ later) =
    (nat_eq change ticket.change && goes_first entries before ticket) || ready_among entries change (before ++ ticket ∷ []) later

-- a change set is ready: it was submitted and isn't ended, and each that was submitted before it on one of its devices is
abbrev pub is_ready_in : List Entry → ℕ → Bool
is_ready_in entries change = ready_among entries change [] (tickets_in entries)

-- the queues are those that the entries tell
pub record IsOrderOf (entries : List Entry) (order : OrderState) : Type 0 where
  pub tickets : order.tickets ≡ tickets_in entries
  pub numbered : All (λ ticket. 0 < ticket.change) order.tickets
  pub finished : (change : ℕ) → 0 < change → mask_contains order.finished change ≡ is_ended_in change entries
