use Rattle.std.proofs.Common.{◌≡◌, ◌≤◌, ◌+◌, ◌++◌, List, take}
use Rattle.nm_history.specs.declared.event.Noted.{Noted}
use Rattle.nm_chronicle.specs.Phases.{Follow, went_along, called_along}
use Rattle.nm_chronicle.proofs.phases.Phases.tell.Given as goal

-- the phases and the board went along the entries so far, and each took one place at most
abbrev pub invariant-loop-entry : goal.invariant-loop-entry
invariant-loop-entry g l =
    (l.self ≡ went_along l.fn.self (take l.entry-index l.entries))
    × (l.board ≡ called_along l.fn.self l.fn.board l.device (take l.entry-index l.entries))
    × ((history : List Noted) → Follow l.fn.self history → Follow l.self (history ++ take l.entry-index l.entries))
    × (l.fn.board.spare ≤ l.board.spare + l.entry-index)
