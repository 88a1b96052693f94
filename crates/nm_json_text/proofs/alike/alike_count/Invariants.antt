use Rattle.std.proofs.Common.{◌≡◌, ◌+◌, ◌≤◌, length}
use Rattle.std.proofs.Common.{map as each}
use Rattle.std.specs.Map.Iter.{deref_pair}
use Rattle.nm_json_text.specs.Passing.{front_length, is_alike, rests}
use Rattle.nm_json_text.proofs.alike.alike_count.Given as goal

abbrev pub invariant-rows : goal.invariant-rows
invariant-rows l =
    (l.count + front_length (is_alike l.step) (rests l.depth (each deref_pair l.rest)) ≡ front_length (is_alike l.step) (rests l.depth (each deref_pair l.rows)))
    × (l.count + length l.rest ≤ length l.rows)

abbrev pub decreases-rows : goal.decreases-rows
decreases-rows l = length l.rest
