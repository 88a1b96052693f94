use Rattle.nm_edit.proofs.Steps.{put_one, put_all}
use Rattle.nm_undo.specs.Inverse.{said_at}
use Rattle.nm_undo.proofs.said.said_of.Goals as goal

pub loop-change-preserved : goal.loop-change-preserved
loop-change-preserved g c =
    put_one (said_at c.args.schema.now (g.M.RowMap.rows c.args.old.now)) c.args.changes.now c.loop-change.change-index c.change-item.result _ _ _ c.loop-change-test.true c.change-item.is
    c.in_ok-put_said.ensures c.loop-change.invariant

pub returns : goal.returns
returns g c =
    put_all (said_at c.args.schema.now (g.M.RowMap.rows c.args.old.now)) c.args.changes.now c.loop-change.change-index _ _ c.loop-change-test.false c.loop-change.invariant
