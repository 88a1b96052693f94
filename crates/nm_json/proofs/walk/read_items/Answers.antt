use Rattle.nm_json.specs.Findings.{leaf_item}
use Rattle.nm_json.specs.Spots.{spot_of}
use Rattle.nm_json.proofs.Gathering.{items_step, items_end}
use Rattle.nm_json.proofs.walk.read_items.Goals as goal

pub loop-item-preserved : goal.loop-item-preserved
loop-item-preserved c =
    items_step c.args.schema.now (leaf_item (spot_of c.args.spot.now) c.args.leaf_type.now) c.args.items.now c.loop-item.item-index c.item-item.result c.loop-item.gathered c.read_item.new.gathered _
    c.loop-item-test.true c.item-item.is c.in_ok-read_item.ensures c.loop-item.invariant

pub returns : goal.returns
returns c =
    items_end c.args.schema.now (leaf_item (spot_of c.args.spot.now) c.args.leaf_type.now) c.args.items.now c.loop-item.item-index c.loop-item.gathered _ c.loop-item-test.false c.loop-item.invariant
