use Rattle.std.proofs.Common.{◌≡◌, ◌≤◌, take, length}
use Rattle.nm_types.specs.Canonical.{shortened}
use Rattle.nm_types.proofs.write.shortened.Given as goal

abbrev pub invariant-loop-end : goal.invariant-loop-end
invariant-loop-end l = record {
  within : l.end ≤ length l.digits;
  same : shortened (take l.end l.digits) ≡ shortened l.digits;
}

abbrev pub decreases-loop-end : goal.decreases-loop-end
decreases-loop-end l = l.end
