use Rattle.std.proofs.Common.{◌≡◌, ◌++◌, length}
use Rattle.nm_json_text.specs.Passing.{front, taken, left_over}
use Rattle.nm_json_text.proofs.held.write_before.Given as goal

-- what is left goes on from what is written
abbrev pub invariant-keys : goal.invariant-keys
invariant-keys l =
    (l.out ++ front (taken l.schema.nodes l.name l.keys_left l.values_left) ≡ l.initial.out ++ front (taken l.schema.nodes l.name l.keys l.values))
    × (left_over l.schema.nodes l.name l.keys_left l.values_left ≡ left_over l.schema.nodes l.name l.keys l.values)

abbrev pub decreases-keys : goal.decreases-keys
decreases-keys l = length l.keys_left
