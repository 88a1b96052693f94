use Rattle.std.proofs.Common.{◌≡◌, length}
use Rattle.nm_json_text.specs.Passing.{ascends}
use Rattle.nm_json_text.proofs.held.ascends.Given as goal

abbrev pub invariant-keys : goal.invariant-keys
invariant-keys l = ascends l.schema.nodes l.rest ≡ ascends l.schema.nodes l.keys

abbrev pub decreases-keys : goal.decreases-keys
decreases-keys l = length l.rest
