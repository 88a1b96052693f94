use Rattle.std.proofs.Common.{◌≡◌, map, drop}
use Rattle.nm_graph.specs.Value.{all_there}
use Rattle.nm_schema_keys.proofs.Ways.{in_front}
use Rattle.nm_schema.specs.Kind as spec
use Rattle.nm_schema.proofs.list.all_groups.Given as goal

-- the groups so far, before those of the statements that are left
abbrev pub invariant-loop-unique : goal.invariant-loop-unique
invariant-loop-unique l = in_front l.groups (all_there (map (spec.group_in l.grounds.rows l.grounds.facts l.number) (drop l.unique-index l.uniques))) ≡ all_there (map (spec.group_in l.grounds.rows l.grounds.facts l.number) l.uniques)
