use Rattle.std.proofs.Common.{◌≡◌, ◌++◌, ◌+◌, ◌-◌, length}
use Rattle.nm_decider.specs.Course.{seat_count, seats_from}
use Rattle.nm_decider.proofs.course.seats_of.Given as goal

-- what was made and what is left make the whole
abbrev pub invariant-loop-number : goal.invariant-loop-number
invariant-loop-number l =
    (length l.seats.items + 1 ≡ l.number)
    × (l.seats.items ++ seats_from l.devices.0 l.stage l.number (33 - l.number) ≡ seats_from l.devices.0 l.stage 1 seat_count)
