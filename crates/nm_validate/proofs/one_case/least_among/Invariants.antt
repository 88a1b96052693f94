use Rattle.std.proofs.Common.{◌≡◌, drop}
use Rattle.std.specs.List.{flat_map}
use Rattle.nm_validate_places.specs.Least.{least_with}
use Rattle.nm_validate.specs.Led.{paths_of}
use Rattle.nm_validate.specs.Others.{other_below}
use Rattle.nm_validate.proofs.one_case.least_among.Given as goal

abbrev pub invariant-loop-place : goal.invariant-loop-place
invariant-loop-place g l =
    least_with l.least (flat_map (other_below l.schema (g.M.RowMap.rows l.config) l.choice l.nodes) (paths_of (drop l.place-index l.places)))
    ≡ least_with l.fn.found (flat_map (other_below l.schema (g.M.RowMap.rows l.config) l.choice l.nodes) (paths_of l.places))
