use Rattle.std.proofs.Common.{◌≡◌, ◌≤◌, length, drop}
use Rattle.std.specs.List.{position_from}
use Rattle.std.specs.BTreeMap.{get}
use Rattle.nm_schema_names.specs.declared.key.Key.{Key}
use Rattle.nm_schema_names.specs.Named.{has_key}
use Rattle.nm_schema_names.specs.Table.{key_cmp}
use Rattle.nm_schema_names.proofs.table.table_of.Given as goal

-- the map has the first of the rows from here on for each key
abbrev pub invariant-loop-at : goal.invariant-loop-at
invariant-loop-at l = record {
  within : l.at ≤ length l.rows;
  first : (key : Key) → get key_cmp l.map key ≡ position_from (has_key l.reach key.space key.number key.name.now) l.at (drop l.at l.rows);
}

abbrev pub decreases-loop-at : goal.decreases-loop-at
decreases-loop-at l = l.at
