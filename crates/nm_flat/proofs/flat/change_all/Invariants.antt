use Rattle.std.proofs.Common.{◌≡◌}
use Rattle.std.specs.FinMap as map
use Rattle.nm_flat.specs.Flat.{all_changed}
use Rattle.nm_flat.proofs.flat.change_all.Given as goal

abbrev pub invariant-loop-key : goal.invariant-loop-key
invariant-loop-key l = all_changed l.cells l.key-iterator ≡ all_changed l.fn.cells (map.entries l.edit)
