use Rattle.std.proofs.Common.{◌≡◌, ◌++◌, ◌+◌, drop}
use Rattle.nm_scenario.specs.Changes.{planned_from}
use Rattle.nm_scenario.proofs.numbering.planned.Given as goal

-- what was planned and what is left make the whole
abbrev pub invariant-loop-place : goal.invariant-loop-place
invariant-loop-place g l = l.plans ++ planned_from (l.first + l.place) (drop l.place l.read-items) ≡ planned_from l.first l.fn.reads
