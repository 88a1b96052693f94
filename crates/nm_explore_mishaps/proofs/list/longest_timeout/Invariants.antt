use Rattle.std.proofs.Common.{◌≡◌, None, drop, fold}
use Rattle.nm_explore_mishaps.specs.Mishaps.{greater, timeouts_of}
use Rattle.nm_explore_mishaps.proofs.list.longest_timeout.Given as goal

-- the greatest so far and the timeouts that are left have the greatest of all
abbrev pub invariant-loop-plan : goal.invariant-loop-plan
invariant-loop-plan l = fold greater l.longest (timeouts_of l.device (drop l.plan-index l.plans)) ≡ fold greater None (timeouts_of l.device l.plans)
