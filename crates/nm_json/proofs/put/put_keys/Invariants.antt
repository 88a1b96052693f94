use Rattle.std.proofs.Common.{◌≡◌, length}
use Rattle.serde_json.specs.View.{members_view}
use Rattle.nm_json.specs.Writing.{key_members}
use Rattle.nm_json.proofs.put.put_keys.Given as goal

-- what is left goes on from what was put
abbrev pub invariant-keys : goal.invariant-keys
invariant-keys l =
    key_members l.fn.schema.nodes l.keys_left l.values_left (members_view l.members.entries) ≡ key_members l.fn.schema.nodes l.fn.keys l.fn.values (members_view l.fn.members.entries)

abbrev pub decreases-keys : goal.decreases-keys
decreases-keys l = length l.keys_left
