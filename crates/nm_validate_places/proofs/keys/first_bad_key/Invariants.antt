use Rattle.std.proofs.Common.{◌≡◌, drop}
use Rattle.nm_validate_places.specs.Listed.{first_bad_key}
use Rattle.nm_validate_places.proofs.keys.first_bad_key.Given as goal

abbrev pub invariant-loop-row : goal.invariant-loop-row
invariant-loop-row l = first_bad_key l.schema.nodes (drop l.row-index l.rows) ≡ first_bad_key l.schema.nodes l.rows
