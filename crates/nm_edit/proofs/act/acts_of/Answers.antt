use Rattle.std.proofs.Common.{◌++◌, ap, ◌∙◌}
use Rattle.nm_edit.specs.Standing.{said}
use Rattle.nm_edit.specs.Acts.{acts_at}
use Rattle.nm_edit.proofs.Steps.{put_one, put_all}
use Rattle.nm_edit.proofs.act.acts_of.Goals as goal

pub loop-node-preserved : goal.loop-node-preserved
loop-node-preserved c =
    let put = acts_at (said c.args.edit.now) c.args.default_operation in
    let made = c.in_ok-put_act.ensures ∙ ap (λ told. c.loop-node.acts.items ++ acts_at told c.args.default_operation c.node-item.result) (c.in_ok-said.ensures ∙ ap said (c.deref.ensures.value ∙ c.edit.view_is)) in
    record {
      items = c.loop-node.invariant.items;
      left = put_one put _ c.loop-node.node-index c.node-item.result _ _ _ c.loop-node-test.true c.node-item.is made c.loop-node.invariant.left;
    }

pub returns : goal.returns
returns c = put_all (acts_at (said c.args.edit.now) c.args.default_operation) _ c.loop-node.node-index _ _ c.loop-node-test.false c.loop-node.invariant.left
