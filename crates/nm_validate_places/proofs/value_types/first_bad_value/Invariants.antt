use Rattle.std.proofs.Common.{◌≡◌, drop}
use Rattle.nm_validate_places.specs.Listed.{first_bad_value}
use Rattle.nm_validate_places.proofs.value_types.first_bad_value.Given as goal

abbrev pub invariant-loop-row : goal.invariant-loop-row
invariant-loop-row l = first_bad_value l.schema.nodes (drop l.row-index l.rows) ≡ first_bad_value l.schema.nodes l.rows
