use Rattle.nm_overlay.proofs.Copied.{copied_one, copied_all}
use Rattle.nm_overlay.proofs.places.copy_pairs.Goals as goal

pub loop-pair-preserved : goal.loop-pair-preserved
loop-pair-preserved c =
    copied_one c.args.pairs.now c.loop-pair.pair-index c.pair-item.result c.loop-pair.copies.items c.put_copy.new.copies.items _ c.loop-pair-test.true c.pair-item.is
    c.in_ok-put_copy.ensures c.loop-pair.invariant

pub returns : goal.returns
returns c = copied_all c.args.pairs.now c.loop-pair.pair-index c.loop-pair.copies.items _ c.loop-pair-test.false c.loop-pair.invariant
