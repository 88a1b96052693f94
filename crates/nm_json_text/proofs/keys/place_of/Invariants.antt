use Rattle.std.proofs.Common.{◌≡◌, ◌+◌, ◌≤◌, length}
use Rattle.nm_json_text.specs.Passing.{front_keys}
use Rattle.nm_json_text.proofs.keys.place_of.Given as goal

abbrev pub invariant-keys : goal.invariant-keys
invariant-keys l =
    (l.count + front_keys l.schema.nodes l.name l.rest ≡ front_keys l.schema.nodes l.name l.keys) × (l.count + length l.rest ≤ length l.keys)

abbrev pub decreases-keys : goal.decreases-keys
decreases-keys l = length l.rest
