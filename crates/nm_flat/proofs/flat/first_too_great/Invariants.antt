use Rattle.std.proofs.Common.{◌≡◌, find, nat_lt}
use Rattle.std.specs.FinMap as map
use Rattle.nm_flat.proofs.flat.first_too_great.Given as goal

abbrev pub invariant-loop-key : goal.invariant-loop-key
invariant-loop-key l = record {
  can : (goal.iterator-loop-key).can_next l.key-iterator;
  finite : (goal.iterator-loop-key).is_finite l.key-iterator;
  left : find (λ e. nat_lt 1000000 e.1) l.key-iterator ≡ find (λ e. nat_lt 1000000 e.1) (map.entries l.cells);
}
