-- The queues of devices (this project's own): a change set waits behind each earlier one that shares a device with it.
use Rattle.std.specs.Prelude.{◌≡◌, ◌<◌, ◌&&◌, ◌==◌, ℕ, Bool, true, not, nat_eq, List, [], ◌∷◌, ◌++◌, map, bit_and, if◌then◌else◌}
use Rattle.std.specs.List.{list_any, IsDistinct}
use Rattle.nm_base.specs.Mask.{mask_contains}
use Rattle.nm_order.specs.declared.ticket.Ticket.{Ticket}

-- the change sets that were submitted, the first of them first; the set of those that are finished; and the set of
-- those that were taken
pub record OrderState : Type 0 where
  pub tickets : List Ticket
  pub finished : ℕ
  pub taken : ℕ

-- no change set was submitted
abbrev pub no_tickets : OrderState
no_tickets = record { tickets = []; finished = 0; taken = 0 }

-- the number of a ticket's change set
abbrev pub change_of : Ticket → ℕ
change_of ticket = ticket.change

-- a ticket is that of a change set
abbrev pub is_of : ℕ → Ticket → Bool
is_of change ticket = nat_eq change ticket.change

-- a change set was submitted
abbrev pub is_submitted : OrderState → ℕ → Bool
is_submitted order change = list_any (is_of change) order.tickets

-- a change set is finished
abbrev pub is_finished : OrderState → ℕ → Bool
is_finished order change = mask_contains order.finished change

-- two sets of devices have one in common
unfoldable pub share_device : ℕ → ℕ → Bool
share_device one other = not (bit_and one other == 0)

-- a ticket's change set is finished
abbrev pub is_done : ℕ → Ticket → Bool
is_done finished ticket = mask_contains finished ticket.change

-- a ticket is behind another, unfinished one in the queue of a device
abbrev pub waits_for : ℕ → Ticket → Ticket → Bool
waits_for finished ticket earlier = not (is_done finished earlier) && share_device earlier.devices.0 ticket.devices.0

-- a ticket, with those before it, is unfinished and heads the queues of all its devices
abbrev pub heads_all : ℕ → List Ticket → Ticket → Bool
heads_all finished before ticket = not (is_done finished ticket) && not (list_any (waits_for finished ticket) before)

-- the ready tickets among the later ones, behind those before
abbrev pub ready_behind : ℕ → List Ticket → List Ticket → List Ticket
ready_behind finished before [] = []
ready_behind finished before (ticket ∷ later) =
    if heads_all finished before ticket then ticket ∷ ready_behind finished (before ++ ticket ∷ []) later
    else ready_behind finished (before ++ ticket ∷ []) later

-- the ready tickets: each is unfinished and heads the queues of all its devices
abbrev pub ready_tickets : OrderState → List Ticket
ready_tickets order = ready_behind order.finished [] order.tickets

-- a change set is ready
abbrev pub is_ready : OrderState → ℕ → Bool
is_ready order change = list_any (is_of change) (ready_tickets order)

-- a change set is ready and nobody took it
abbrev pub is_free : OrderState → ℕ → Bool
is_free order change = is_ready order change && not (mask_contains order.taken change)

-- two tickets have a device in common
abbrev pub shares_with : Ticket → Ticket → Bool
shares_with one other = share_device one.devices.0 other.devices.0

-- no two of the tickets have a device in common
abbrev pub are_apart : List Ticket → Bool
are_apart [] = true
are_apart (ticket ∷ later) = not (list_any (shares_with ticket) later) && are_apart later

-- each change set was submitted once, and its number is from 1 to 64
pub record IsOnce (tickets : List Ticket) : Type 0 where
  pub once : IsDistinct nat_eq (0 ∷ map change_of tickets)
  pub bounded : (number : ℕ) → list_any (nat_eq number) (0 ∷ map change_of tickets) ≡ true → number < 65
