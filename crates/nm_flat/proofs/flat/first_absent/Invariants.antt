use Rattle.std.proofs.Common.{◌≡◌, not, find}
use Rattle.std.specs.FinMap as map
use Rattle.nm_flat.proofs.flat.first_absent.Given as goal

abbrev pub invariant-loop-key : goal.invariant-loop-key
invariant-loop-key l = record {
  can : (goal.iterator-loop-key).can_next l.key-iterator;
  finite : (goal.iterator-loop-key).is_finite l.key-iterator;
  left : find (λ e. not (map.contains_key l.cells e.0)) l.key-iterator ≡ find (λ e. not (map.contains_key l.cells e.0)) (map.entries l.edit);
}
