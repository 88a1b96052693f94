use Rattle.std.proofs.Common.{◌≡◌, ◌++◌, ◌-◌, replicate}
use Rattle.nm_work.specs.Work.{fresh_side}
use Rattle.nm_work.proofs.work.fresh_sides.Given as goal

-- what was made and what is left make the whole
abbrev pub invariant-loop : goal.invariant-loop
invariant-loop l = l.sides.items ++ replicate (32 - l.counter) fresh_side ≡ replicate 32 fresh_side
