use Rattle.std.proofs.Common.{◌≡◌, ◌++◌, ◌+◌, drop}
use Rattle.nm_explore_mishaps.specs.Mishaps.{each_change}
use Rattle.nm_explore_mishaps.proofs.list.push_changes.Given as goal

-- what is listed and what is left make all
abbrev pub invariant-loop-place : goal.invariant-loop-place
invariant-loop-place l = l.all ++ each_change (l.place + 1) (drop l.place l.plans) ≡ l.fn.all ++ each_change 1 l.plans
