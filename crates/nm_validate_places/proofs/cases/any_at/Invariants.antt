use Rattle.std.proofs.Common.{◌≡◌, drop}
use Rattle.std.specs.List.{list_any}
use Rattle.nm_validate_rules.specs.Cases.{exists_at}
use Rattle.nm_validate_places.proofs.cases.any_at.Given as goal

abbrev pub invariant-loop-at : goal.invariant-loop-at
invariant-loop-at g l = list_any (exists_at l.schema (g.M.RowMap.rows l.config) l.above) (drop l.at-index l.nodes) ≡ list_any (exists_at l.schema (g.M.RowMap.rows l.config) l.above) l.nodes
