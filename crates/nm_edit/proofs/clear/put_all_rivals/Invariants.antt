use Rattle.std.proofs.Common.{◌≡◌, ◌++◌, ◌-◌, length}
use Rattle.std.specs.List.{flat_map, range_with_len}
use Rattle.nm_edit.specs.Rivals.{rival_at, rivals_of}
use Rattle.nm_edit.proofs.clear.put_all_rivals.Given as goal

abbrev pub invariant-loop-other : goal.invariant-loop-other
invariant-loop-other l =
    l.nodes.items ++ flat_map (rival_at l.schema l.above l.at) (range_with_len l.other (length l.schema.nodes - l.other)) ≡ l.fn.nodes.items ++ rivals_of l.schema l.above l.at
