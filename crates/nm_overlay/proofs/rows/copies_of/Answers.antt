use Rattle.std.specs.Map.Iter.{deref_pair}
use Rattle.nm_overlay.proofs.Copied.{seen_one, seen_all}
use Rattle.nm_overlay.proofs.rows.copies_of.Goals as goal

pub loop-path-preserved : goal.loop-path-preserved
loop-path-preserved c =
    seen_one deref_pair c.args.rows.now c.loop-path.path-index c.loop-path-item.result c.loop-path.copies.items c.put_copy.new.copies.items _ c.loop-path-test.true c.loop-path-item.is
    c.in_ok-put_copy.ensures c.loop-path.invariant

pub returns : goal.returns
returns c = seen_all deref_pair c.args.rows.now c.loop-path.path-index c.loop-path.copies.items _ c.loop-path-test.false c.loop-path.invariant
