use Rattle.std.proofs.Common.{◌≡◌, map, drop}
use Rattle.nm_graph.specs.Value.{all_there}
use Rattle.nm_schema_keys.proofs.Ways.{in_front}
use Rattle.nm_schema.specs.Kind as spec
use Rattle.nm_schema.proofs.list.all_named.Given as goal

-- the nodes so far, before those of the rows that are left
abbrev pub invariant-loop-row : goal.invariant-loop-row
invariant-loop-row l = in_front l.nodes (all_there (map (spec.named_as l.grounds.rows l.grounds.facts l.number) (drop l.row-index l.rows))) ≡ all_there (map (spec.named_as l.grounds.rows l.grounds.facts l.number) l.rows)
