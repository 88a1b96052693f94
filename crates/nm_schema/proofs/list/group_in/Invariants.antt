use Rattle.std.proofs.Common.{◌≡◌, map, drop}
use Rattle.nm_graph.specs.Value.{all_there}
use Rattle.nm_schema_keys.proofs.Ways.{in_front}
use Rattle.nm_schema.specs.Kind as spec
use Rattle.nm_schema.proofs.list.group_in.Given as goal

-- the leafs so far, before those of the words that are left
abbrev pub invariant-loop-way : goal.invariant-loop-way
invariant-loop-way l = in_front l.group (all_there (map (spec.reached l.grounds.rows l.grounds.facts l.number) (drop l.way-index l.way-items))) ≡ all_there (map (spec.reached l.grounds.rows l.grounds.facts l.number) l.way-items)
