use Rattle.std.proofs.Common.{◌+◌, ◌*◌, ◌-◌, ◌≤◌, drop, length, map as each}
use Rattle.std.specs.Map.Iter.{deref_pair}
use Rattle.serde_json.specs.Data.{no_items}
use Rattle.nm_json_text.specs.Passing.{rests, held, members_of, items_after}
use Rattle.nm_json_text.proofs.Lists.{Itemed}
use Rattle.nm_json_text.proofs.Passed.{Passed}
use Rattle.nm_json_text.proofs.pass.+pass.Given as goal

abbrev pub decreases-write_members : goal.decreases-write_members
decreases-write_members l = 6 * l.levels

abbrev pub decreases-write_group : goal.decreases-write_group
decreases-write_group l = 6 * l.levels + 5

abbrev pub decreases-write_whole : goal.decreases-write_whole
decreases-write_whole l = 6 * l.levels + 4

abbrev pub decreases-write_items : goal.decreases-write_items
decreases-write_items l = 6 * l.levels + 4

abbrev pub decreases-write_item : goal.decreases-write_item
decreases-write_item l = 6 * l.levels + 3

abbrev pub decreases-write_entry : goal.decreases-write_entry
decreases-write_entry l = 6 * l.levels + 2

abbrev pub decreases-write_object : goal.decreases-write_object
decreases-write_object l = 6 * l.levels + 1

-- members are written, and keys and rows are left
abbrev pub invariant-write_members-groups : goal.invariant-write_members-groups
invariant-write_members-groups l =
    Passed l.schema l.place (members_of l.schema l.place (held l.schema.nodes l.keys l.values) (rests l.depth (each deref_pair l.rows))) l.initial.out l.out l.last
    (held l.schema.nodes l.keys_left l.values_left) (rests l.depth (each deref_pair (drop l.done l.rows)))
    × (l.done ≤ length l.rows)

abbrev pub decreases-write_members-groups : goal.decreases-write_members-groups
decreases-write_members-groups l = length l.rows - l.done

-- items are written, and rows are left
abbrev pub invariant-write_items-items : goal.invariant-write_items-items
invariant-write_items-items l =
    Itemed l.schema l.at (items_after l.schema l.at no_items (rests l.depth (each deref_pair l.group))) l.initial.out l.out (rests l.depth (each deref_pair (drop l.done l.group)))
    × (l.done ≤ length l.group)

abbrev pub decreases-write_items-items : goal.decreases-write_items-items
decreases-write_items-items l = length l.group - l.done
