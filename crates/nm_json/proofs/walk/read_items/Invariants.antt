use Rattle.std.proofs.Common.{◌≡◌, drop}
use Rattle.serde_json.specs.View.{items_view}
use Rattle.nm_json.specs.Noted.{gathered}
use Rattle.nm_json.specs.Findings.{items_found, leaf_item}
use Rattle.nm_json.specs.Spots.{spot_of}
use Rattle.nm_json.proofs.walk.read_items.Given as goal

-- what is left goes on from what was found
abbrev pub invariant-loop-item : goal.invariant-loop-item
invariant-loop-item l =
    gathered l.gathered (items_found l.fn.schema (leaf_item (spot_of l.fn.spot) l.fn.leaf_type) (items_view (drop l.item-index l.items)))
    ≡ gathered l.fn.gathered (items_found l.fn.schema (leaf_item (spot_of l.fn.spot) l.fn.leaf_type) (items_view l.fn.items))
