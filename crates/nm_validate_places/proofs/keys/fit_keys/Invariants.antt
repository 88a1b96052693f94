use Rattle.std.proofs.Common.{◌≡◌, length}
use Rattle.nm_validate_rules.specs.Violated.{fit_keys}
use Rattle.nm_validate_places.proofs.keys.fit_keys.Given as goal

abbrev pub invariant-keys : goal.invariant-keys
invariant-keys l = fit_keys l.schema.nodes l.keys_left l.values_left ≡ fit_keys l.schema.nodes l.keys l.values

abbrev pub decreases-keys : goal.decreases-keys
decreases-keys l = length l.keys_left
