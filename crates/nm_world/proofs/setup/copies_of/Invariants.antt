use Rattle.std.proofs.Common.{◌≡◌, take}
use Rattle.nm_world.proofs.setup.copies_of.Given as goal

-- the change sets so far
abbrev pub invariant-loop-plan : goal.invariant-loop-plan
invariant-loop-plan l = l.copies ≡ take l.plan-index l.plans
