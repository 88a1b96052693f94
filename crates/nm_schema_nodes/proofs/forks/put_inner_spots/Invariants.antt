use Rattle.std.proofs.Common.{◌≡◌, ◌++◌, map, take}
use Rattle.nm_schema_nodes.specs.Forks.{inner}
use Rattle.nm_schema_nodes.proofs.forks.put_inner_spots.Given as goal

abbrev pub invariant-loop-spot : goal.invariant-loop-spot
invariant-loop-spot l = l.spots.items ≡ l.initial.spots.items ++ map (inner l.outer) (take l.spot-index l.others)
