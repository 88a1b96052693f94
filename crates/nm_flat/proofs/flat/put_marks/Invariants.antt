use Rattle.std.proofs.Common.{◌≡◌, ◌++◌, decimal}
use Rattle.std.proofs.Common.{map as list_map}
use Rattle.std.specs.List.{flat_map, join_with_byte}
use Rattle.std.specs.FinMap as map
use Rattle.nm_flat.proofs.MarkLemmas.{later_mark}
use Rattle.nm_flat.proofs.flat.put_marks.Given as goal

abbrev pub invariant-loop-mark : goal.invariant-loop-mark
invariant-loop-mark l = l.out.items ++ flat_map later_mark l.mark-iterator ≡ l.fn.out.items ++ join_with_byte 44 (list_map decimal (map.keys l.marks))
