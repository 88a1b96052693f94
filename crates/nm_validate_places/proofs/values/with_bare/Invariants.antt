use Rattle.std.proofs.Common.{◌≡◌, ◌++◌, map, drop}
use Rattle.nm_validate_rules.specs.Cases.{bare}
use Rattle.nm_validate_places.proofs.values.with_bare.Given as goal

abbrev pub invariant-loop-at : goal.invariant-loop-at
invariant-loop-at l = l.steps.items ++ map (bare l.schema.nodes) (drop l.at-index l.nodes) ≡ l.fn.path ++ map (bare l.schema.nodes) l.nodes
