use Rattle.std.proofs.Common.{◌≡◌, length}
use Rattle.serde_json.specs.Data.{no_members}
use Rattle.nm_json.specs.Writing.{key_members}
use Rattle.nm_json_text.specs.Passing.{held}
use Rattle.nm_json_text.proofs.keys.sorted_keys.Given as goal

-- what is left goes on from what was put
abbrev pub invariant-keys : goal.invariant-keys
invariant-keys l =
    (key_members l.fn.schema.nodes l.keys_left l.values_left (held l.fn.schema.nodes l.sorted.keys.items l.sorted.values.items) ≡ key_members l.fn.schema.nodes l.fn.keys l.fn.values no_members)
    × (length l.sorted.keys.items ≡ length l.sorted.values.items)

abbrev pub decreases-keys : goal.decreases-keys
decreases-keys l = length l.keys_left
