use Rattle.std.proofs.Common.{◌<◌, ◌≤◌, arith}
use Rattle.nm_make.specs.Made.{submit_text}
use Rattle.nm_make.proofs.Numbered.{one_more, all_done}
use Rattle.nm_make.proofs.text.write_submits.Goals as goal

pub loop-change-preserved : goal.loop-change-preserved
loop-change-preserved c =
    let within : c.loop-change.change < 65 = omega (arith, c.loop-change-test.true) in
    one_more (submit_text) c.loop-change.change 65 c.loop-change.out.items c.write_submit.new.out.items _ within c.in_ok-write_submit.ensures c.loop-change.invariant

pub returns : goal.returns
returns c =
    let over : 65 ≤ c.loop-change.change = omega (arith, c.loop-change-test.false) in
    all_done (submit_text) c.loop-change.change 65 c.loop-change.out.items _ over c.loop-change.invariant
