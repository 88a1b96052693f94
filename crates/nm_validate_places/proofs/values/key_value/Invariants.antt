use Rattle.std.proofs.Common.{◌≡◌, length}
use Rattle.nm_validate_rules.specs.Values.{key_value}
use Rattle.nm_validate_places.proofs.values.key_value.Given as goal

abbrev pub invariant-keys : goal.invariant-keys
invariant-keys l = key_value l.keys_left l.at l.values_left ≡ key_value l.keys l.at l.values

abbrev pub decreases-keys : goal.decreases-keys
decreases-keys l = length l.keys_left
