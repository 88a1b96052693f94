use Rattle.std.proofs.Common.{◌≡◌, drop}
use Rattle.nm_validate_rules.specs.Values.{default_in_use}
use Rattle.nm_validate_leafref.specs.Kept.{with_values}
use Rattle.nm_validate_leafref.proofs.known.keep_all_defaults.Given as goal

abbrev pub invariant-loop-path : goal.invariant-loop-path
invariant-loop-path g l =
    with_values l.at l.depth (λ path. default_in_use l.schema (g.M.RowMap.rows l.config) path l.at) l.kept (drop l.path-index l.places)
    ≡ with_values l.at l.depth (λ path. default_in_use l.schema (g.M.RowMap.rows l.config) path l.at) l.fn.kept l.places
