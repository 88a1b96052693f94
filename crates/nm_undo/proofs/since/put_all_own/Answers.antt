use Rattle.nm_edit.proofs.Steps.{put_one, put_all}
use Rattle.nm_undo.specs.Since.{own_alone}
use Rattle.nm_undo.proofs.since.put_all_own.Goals as goal

pub loop-row-preserved : goal.loop-row-preserved
loop-row-preserved c =
    put_one (own_alone c.args.schema.now) c.args.rows.now c.loop-row.row-index c.row-item.result _ _ _ c.loop-row-test.true c.row-item.is c.in_ok-put_own.ensures c.loop-row.invariant

pub returns : goal.returns
returns c = put_all (own_alone c.args.schema.now) c.args.rows.now c.loop-row.row-index _ _ c.loop-row-test.false c.loop-row.invariant
