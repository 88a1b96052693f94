use Rattle.std.proofs.Common.{◌≡◌, drop}
use Rattle.std.specs.List.{flat_map}
use Rattle.nm_validate_places.specs.Choosing.{missing_by}
use Rattle.nm_validate_places.specs.Least.{least_with}
use Rattle.nm_validate_places.proofs.choices.least_among.Given as goal

abbrev pub invariant-loop-above : goal.invariant-loop-above
invariant-loop-above g l =
    least_with l.least (flat_map (missing_by l.schema (g.M.RowMap.rows l.config) l.choice l.nodes) (drop l.above-index l.areas))
    ≡ least_with l.fn.found (flat_map (missing_by l.schema (g.M.RowMap.rows l.config) l.choice l.nodes) l.areas)
