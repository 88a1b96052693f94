use Rattle.std.proofs.Common.{option_map, slice_get}
use Rattle.serde_json.specs.View.{view}
use Rattle.nm_json.specs.Spots.{spot_of}
use Rattle.nm_edit_json.proofs.Gathering.{at_view, entries_step, entries_end}
use Rattle.nm_edit_json.proofs.value.read_values.Goals as goal

pub loop-at-preserved : goal.loop-at-preserved
loop-at-preserved c =
    entries_step (spot_of c.args.spot.now) c.args.leaf_type.now c.args.held c.args.items.now c.args.notes.now c.loop-at.at c.index-items-at.result (option_map (λ part. view part.now) c.noted_at.result)
    c.said_item-said.result c.loop-at.gathered c.read_value.new.gathered _ c.loop-at-test.true c.index-items-at.is
    (at_view c.noted_at.result (slice_get c.args.notes.now c.loop-at.at) c.noted_at.ensures) c.said_item-said.ensures c.in_ok-read_value.ensures c.loop-at.invariant

pub returns : goal.returns
returns c =
    entries_end (spot_of c.args.spot.now) c.args.leaf_type.now c.args.held c.args.items.now c.args.notes.now c.loop-at.at c.loop-at.gathered _ c.loop-at-test.false c.loop-at.invariant
