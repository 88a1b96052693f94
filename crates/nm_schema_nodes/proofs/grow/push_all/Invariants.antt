use Rattle.std.proofs.Common.{◌≡◌, ◌++◌, map, take}
use Rattle.nm_schema_nodes.specs.Growing.{instance}
use Rattle.nm_schema_nodes.proofs.grow.push_all.Given as goal

abbrev pub invariant-loop-row : goal.invariant-loop-row
invariant-loop-row l = l.nodes.items ≡ l.initial.nodes.items ++ map (instance l.parent l.owner) (take l.row-index l.rows)
