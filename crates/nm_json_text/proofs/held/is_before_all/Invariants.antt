use Rattle.std.proofs.Common.{◌≡◌, length}
use Rattle.nm_json_text.specs.Passing.{is_before_all}
use Rattle.nm_json_text.proofs.held.is_before_all.Given as goal

abbrev pub invariant-keys : goal.invariant-keys
invariant-keys l = is_before_all l.schema.nodes l.name l.rest ≡ is_before_all l.schema.nodes l.name l.keys

abbrev pub decreases-keys : goal.decreases-keys
decreases-keys l = length l.rest
