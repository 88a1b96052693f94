use Rattle.std.proofs.Common.{◌≡◌, ◌++◌}
use Rattle.std.specs.List.{flat_map}
use Rattle.std.specs.FinMap as map
use Rattle.nm_flat.specs.Flat.{cell_text}
use Rattle.nm_flat.proofs.flat.put_cells.Given as goal

abbrev pub invariant-loop-key : goal.invariant-loop-key
invariant-loop-key l = l.out.items ++ flat_map cell_text l.key-iterator ≡ l.fn.out.items ++ flat_map cell_text (map.entries l.cells)
