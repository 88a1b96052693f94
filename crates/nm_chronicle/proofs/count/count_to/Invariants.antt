use Rattle.std.proofs.Common.{◌≡◌, ◌≤◌}
use Rattle.nm_chronicle.specs.Line.{count_to}
use Rattle.nm_chronicle.proofs.count.count_to.Given as goal

-- the devices so far
abbrev pub invariant-loop-before : goal.invariant-loop-before
invariant-loop-before l = (l.count ≡ count_to l.mask.0 l.before) × (l.count ≤ l.before)
