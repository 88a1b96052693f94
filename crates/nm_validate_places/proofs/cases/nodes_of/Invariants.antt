use Rattle.std.proofs.Common.{◌≡◌, ◌++◌, ◌-◌, length}
use Rattle.std.specs.Prelude.{filter}
use Rattle.std.specs.List.{range_with_len}
use Rattle.nm_validate_rules.specs.Cases.{is_in_case, numbers}
use Rattle.nm_validate_places.proofs.cases.nodes_of.Given as goal

abbrev pub invariant-loop-at : goal.invariant-loop-at
invariant-loop-at l = l.all.items ++ filter (is_in_case l.schema l.case) (range_with_len l.at (length l.schema.nodes - l.at)) ≡ filter (is_in_case l.schema l.case) (numbers l.schema.nodes)
