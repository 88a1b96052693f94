use Rattle.std.proofs.Common.{◌≡◌, ◌-◌, length, None}
use Rattle.std.specs.Prelude.{filter}
use Rattle.std.specs.List.{flat_map, range_with_len}
use Rattle.nm_validate_rules.specs.declared.rule.Rule.TheVariants.{MaxElements}
use Rattle.nm_validate_rules.specs.Cases.{numbers}
use Rattle.nm_validate_rules.specs.Places.{places}
use Rattle.nm_validate_rules.specs.Violated.{violated}
use Rattle.nm_validate_places.specs.Least.{least_with}
use Rattle.nm_validate_places.proofs.too_many.least_too_many.Given as goal

abbrev pub invariant-loop-at : goal.invariant-loop-at
invariant-loop-at g l =
    least_with l.least (filter (violated l.schema (g.M.RowMap.rows l.config) MaxElements) (flat_map (places l.schema (g.M.RowMap.rows l.config)) (range_with_len l.at (length l.schema.nodes - l.at))))
    ≡ least_with None (filter (violated l.schema (g.M.RowMap.rows l.config) MaxElements) (flat_map (places l.schema (g.M.RowMap.rows l.config)) (numbers l.schema.nodes)))
