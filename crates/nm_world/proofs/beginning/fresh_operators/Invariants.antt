use Rattle.std.proofs.Common.{◌≡◌, ◌++◌, ◌-◌, None, replicate}
use Rattle.nm_world.proofs.beginning.fresh_operators.Given as goal

-- what was made and what is left make the whole
abbrev pub invariant-loop : goal.invariant-loop
invariant-loop l = l.operators.items ++ replicate (l.count - l.counter) (replicate l.devices None) ≡ replicate l.count (replicate l.devices None)
