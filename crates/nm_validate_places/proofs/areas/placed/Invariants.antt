use Rattle.std.proofs.Common.{◌≡◌, ◌++◌, drop}
use Rattle.std.specs.List.{flat_map}
use Rattle.nm_validate_rules.specs.Places.{placed}
use Rattle.nm_validate_places.specs.Placing.{place_at}
use Rattle.nm_validate_places.proofs.areas.placed.Given as goal

abbrev pub invariant-loop-above : goal.invariant-loop-above
invariant-loop-above g l =
    l.paths.items ++ flat_map (place_at l.schema (g.M.RowMap.rows l.config) l.at) (drop l.above-index l.areas) ≡ placed l.schema (g.M.RowMap.rows l.config) l.areas l.at
