use Rattle.std.proofs.Common.{◌≡◌, ◌++◌, map, take, drop}
use Rattle.nm_decider.specs.Course.{decided_seat}
use Rattle.nm_decider.proofs.course.decide_all.Given as goal

-- the seats that were passed have the verdict, and the others are as they were
abbrev pub invariant-loop-place : goal.invariant-loop-place
invariant-loop-place l = l.seats ≡ map (decided_seat l.verdict) (take l.place l.fn.seats) ++ drop l.place l.fn.seats
