use Rattle.std.proofs.Common.{◌≡◌, ◌++◌, map, take, drop}
use Rattle.nm_work.specs.Work.{anew}
use Rattle.nm_work.proofs.work.all_anew.Given as goal

-- the sides that were passed are changed, and the others are as they were
abbrev pub invariant-loop-place : goal.invariant-loop-place
invariant-loop-place l = l.sides.items ≡ map (anew l.commit) (take l.place l.fn.sides.items) ++ drop l.place l.fn.sides.items
