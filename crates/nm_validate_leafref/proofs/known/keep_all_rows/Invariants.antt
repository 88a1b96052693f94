use Rattle.std.proofs.Common.{◌≡◌, map, drop}
use Rattle.std.specs.FinMap.{get}
use Rattle.nm_validate_leafref.specs.Kept.{with_values}
use Rattle.nm_validate_leafref.proofs.known.keep_all_rows.Given as goal

abbrev pub invariant-loop-path : goal.invariant-loop-path
invariant-loop-path g l =
    with_values l.at l.depth (get (g.M.RowMap.rows l.config)) l.kept (map (λ path. path.now) (drop l.path-index l.paths))
    ≡ with_values l.at l.depth (get (g.M.RowMap.rows l.config)) l.fn.kept (map (λ path. path.now) l.paths)
