use Rattle.std.proofs.Common.{◌≡◌, ◌++◌, length}
use Rattle.nm_json_text.specs.Passing.{front, held}
use Rattle.nm_json_text.proofs.held.write_held.Given as goal

-- what is left goes on from what is written
abbrev pub invariant-keys : goal.invariant-keys
invariant-keys l = l.out ++ front (held l.schema.nodes l.keys_left l.values_left) ≡ l.initial.out ++ front (held l.schema.nodes l.keys l.values)

abbrev pub decreases-keys : goal.decreases-keys
decreases-keys l = length l.keys_left
