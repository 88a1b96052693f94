use Rattle.nm_edit.specs.Edited.{gone_at}
use Rattle.nm_edit.proofs.Steps.{put_one, put_all}
use Rattle.nm_edit.proofs.clear.gone_of.Goals as goal

pub loop-act-preserved : goal.loop-act-preserved
loop-act-preserved c = put_one gone_at c.args.acts.now c.loop-act.act-index c.act-item.result _ _ _ c.loop-act-test.true c.act-item.is c.in_ok-put_gone.ensures c.loop-act.invariant

pub returns : goal.returns
returns c = put_all gone_at c.args.acts.now c.loop-act.act-index _ _ c.loop-act-test.false c.loop-act.invariant
