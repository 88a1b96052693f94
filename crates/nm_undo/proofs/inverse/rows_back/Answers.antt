use Rattle.nm_overlay.proofs.Copied.{seen_one, seen_all}
use Rattle.nm_undo.specs.Inverse.{row_back}
use Rattle.nm_undo.proofs.inverse.rows_back.Goals as goal

pub loop-change-preserved : goal.loop-change-preserved
loop-change-preserved g c =
    seen_one (row_back (g.M.RowMap.rows c.args.old.now)) c.args.changes.now c.loop-change.change-index c.change-item.result c.loop-change.rows.items c.put_back.new.rows.items _
    c.loop-change-test.true c.change-item.is c.in_ok-put_back.ensures c.loop-change.invariant

pub returns : goal.returns
returns g c =
    seen_all (row_back (g.M.RowMap.rows c.args.old.now)) c.args.changes.now c.loop-change.change-index c.loop-change.rows.items _ c.loop-change-test.false c.loop-change.invariant
