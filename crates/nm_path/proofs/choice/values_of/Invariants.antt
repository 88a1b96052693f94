use Rattle.std.proofs.Common.{◌≡◌, length}
use Rattle.nm_path.specs.Reading.{all_with_front, values_of}
use Rattle.nm_path.proofs.choice.values_of.Given as goal

abbrev pub invariant-keys : goal.invariant-keys
invariant-keys l = all_with_front l.values.items (values_of l.schema.nodes l.rest l.predicates) ≡ values_of l.schema.nodes l.keys l.predicates

abbrev pub decreases-keys : goal.decreases-keys
decreases-keys l = length l.rest
