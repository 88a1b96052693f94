use Rattle.std.proofs.Common.{◌≡◌, drop}
use Rattle.nm_decider.specs.Course.{fewest_from, chosen}
use Rattle.nm_decider.proofs.choice.fewest.Given as goal

-- the best of the places from this one on
abbrev pub invariant-loop-place : goal.invariant-loop-place
invariant-loop-place l = chosen l.best ≡ fewest_from l.verdict l.place (drop l.place l.seats)
