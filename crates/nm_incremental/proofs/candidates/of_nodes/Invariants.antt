use Rattle.std.proofs.Common.{◌≡◌, ◌-◌, ◌++◌, length}
use Rattle.std.specs.Prelude.{filter}
use Rattle.std.specs.List.{flat_map, range_with_len}
use Rattle.nm_validate_rules.specs.Cases.{numbers}
use Rattle.nm_validate_rules.specs.Candidates.{below_fronts}
use Rattle.nm_incremental.specs.Candidates.{has_rule}
use Rattle.nm_incremental.proofs.candidates.of_nodes.Given as goal

abbrev pub invariant-loop-at : goal.invariant-loop-at
invariant-loop-at l =
    l.paths.items ++ flat_map (below_fronts l.schema l.row) (filter (has_rule l.schema l.rule) (range_with_len l.at (length l.schema.nodes - l.at)))
    ≡ flat_map (below_fronts l.schema l.row) (filter (has_rule l.schema l.rule) (numbers l.schema.nodes))
