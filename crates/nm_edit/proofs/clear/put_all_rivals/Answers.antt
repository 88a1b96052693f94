use Rattle.std.proofs.Common.{◌<◌, length, ◌∙◌, arith}
use Rattle.nm_edit.specs.Rivals.{rival_at}
use Rattle.nm_edit.proofs.GoingNodes.{one_more}
use Rattle.nm_edit.proofs.clear.put_all_rivals.Goals as goal

pub loop-other-preserved : goal.loop-other-preserved
loop-other-preserved c =
    let t = c.args.schema.now in
    let test_is = c.loop-other-test.true in
    let end_is = c.len-other-end.ensures in
    let lt : c.loop-other.other < length t.nodes = omega (arith, test_is, end_is) in
    one_more (rival_at t c.args.above.now c.args.at) c.loop-other.other (length t.nodes) _ _ lt c.in_ok-put_rival.ensures ∙ c.loop-other.invariant
