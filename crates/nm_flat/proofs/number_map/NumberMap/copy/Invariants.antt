use Rattle.std.proofs.Common.{◌≡◌}
use Rattle.nm_flat.specs.NumberMap.{with_entries}
use Rattle.nm_flat.proofs.number_map.NumberMap.copy.Given as goal

abbrev pub invariant-loop-number : goal.invariant-loop-number
invariant-loop-number g l = with_entries l.copied l.number-iterator ≡ l.self
