use Rattle.std.proofs.Common.{drop}
use Rattle.nm_validate_places.proofs.Grouped.{AreListed}
use Rattle.nm_validate_places.proofs.areas.group_rows.Given as goal

abbrev pub invariant-loop-path : goal.invariant-loop-path
invariant-loop-path g l = AreListed l.schema (drop l.path-index l.path-items) l.path-items l.rows.items l.groups.items
