use Rattle.std.proofs.Common.{◌≡◌, drop}
use Rattle.serde_json.specs.View.{items_view, members_view}
use Rattle.nm_json.specs.Spots.{spot_of}
use Rattle.nm_edit_json.specs.Noted.{gathered}
use Rattle.nm_edit_json.specs.Around.{around_of}
use Rattle.nm_edit_json.specs.Findings.{items_found, members_found, list_item}
use Rattle.nm_edit_json.proofs.walk.+walk.Given as goal

-- what is left goes on from what was found
abbrev pub invariant-read_members-loop-name : goal.invariant-read_members-loop-name
invariant-read_members-loop-name l =
    gathered l.gathered (members_found l.fn.schema (around_of l.fn.around) (members_view l.name-iterator))
    ≡ gathered l.fn.gathered (members_found l.fn.schema (around_of l.fn.around) (members_view l.fn.members.entries))

abbrev pub invariant-read_entries-loop-item : goal.invariant-read_entries-loop-item
invariant-read_entries-loop-item l =
    gathered l.gathered (items_found l.fn.schema (list_item (spot_of l.fn.spot) l.fn.keys l.fn.held) (items_view (drop l.item-index l.items)))
    ≡ gathered l.fn.gathered (items_found l.fn.schema (list_item (spot_of l.fn.spot) l.fn.keys l.fn.held) (items_view l.fn.items))
