use Rattle.std.proofs.Common.{◌≡◌, ◌++◌, drop, map}
use Rattle.serde_json.specs.View.{members_view}
use Rattle.nm_json.specs.Findings.{bare, values_of, key_read}
use Rattle.nm_json.specs.Spots.{spot_of}
use Rattle.nm_edit_json.specs.Noted.{gathered}
use Rattle.nm_edit_json.specs.Findings.{faults_of}
use Rattle.nm_edit_json.proofs.keys.read_keys.Given as goal

-- what was read and what is left make the whole
abbrev pub invariant-loop-key : goal.invariant-loop-key
invariant-loop-key l =
    (l.values.items ++ values_of (map (key_read l.fn.schema (bare (spot_of l.fn.list)) (members_view l.fn.members.entries)) (drop l.key-index l.keys))
    ≡ values_of (map (key_read l.fn.schema (bare (spot_of l.fn.list)) (members_view l.fn.members.entries)) l.fn.keys))
    × (gathered l.gathered (faults_of (map (key_read l.fn.schema (bare (spot_of l.fn.list)) (members_view l.fn.members.entries)) (drop l.key-index l.keys)))
    ≡ gathered l.fn.gathered (faults_of (map (key_read l.fn.schema (bare (spot_of l.fn.list)) (members_view l.fn.members.entries)) l.fn.keys)))
