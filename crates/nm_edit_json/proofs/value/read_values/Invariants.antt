use Rattle.std.proofs.Common.{◌≡◌, drop}
use Rattle.serde_json.specs.View.{items_view}
use Rattle.nm_json.specs.Spots.{spot_of}
use Rattle.nm_edit_json.specs.Noted.{gathered}
use Rattle.nm_edit_json.specs.Findings.{values_found}
use Rattle.nm_edit_json.proofs.value.read_values.Given as goal

-- what is left goes on from what was found
abbrev pub invariant-loop-at : goal.invariant-loop-at
invariant-loop-at l =
    gathered l.gathered (values_found (spot_of l.fn.spot) l.fn.leaf_type l.fn.held (items_view (drop l.at l.fn.items)) (items_view (drop l.at l.fn.notes)))
    ≡ gathered l.fn.gathered (values_found (spot_of l.fn.spot) l.fn.leaf_type l.fn.held (items_view l.fn.items) (items_view l.fn.notes))
