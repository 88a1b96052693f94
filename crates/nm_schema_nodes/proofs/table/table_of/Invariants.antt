use Rattle.std.proofs.Common.{◌≡◌, ◌≤◌, length, drop}
use Rattle.std.specs.List.{position_from}
use Rattle.std.specs.BTreeMap.{get}
use Rattle.nm_schema_nodes.specs.declared.table.Key.{Key}
use Rattle.nm_schema_nodes.specs.Index.{key_cmp, has_key}
use Rattle.nm_schema_nodes.proofs.table.table_of.Given as goal

-- the map has the first of the nodes from here on for each key
abbrev pub invariant-loop-at : goal.invariant-loop-at
invariant-loop-at l = record {
  within : l.at ≤ length l.nodes;
  first : (key : Key) → get key_cmp l.map key ≡ position_from (has_key l.rows key.parent key.owner key.name.now) l.at (drop l.at l.nodes);
}

abbrev pub decreases-loop-at : goal.decreases-loop-at
decreases-loop-at l = l.at
