use Rattle.std.proofs.Common.{◌<◌, ◌≤◌, arith}
use Rattle.nm_make.specs.Made.{interfaces_of}
use Rattle.nm_make.proofs.Numbered.{one_more, all_done}
use Rattle.nm_make.proofs.text.write_interfaces.Goals as goal

pub loop-number-preserved : goal.loop-number-preserved
loop-number-preserved c =
    let within : c.loop-number.number < 10 = omega (arith, c.loop-number-test.true) in
    one_more (interfaces_of c.args.device) c.loop-number.number 10 c.loop-number.out.items c.write_interfaces_of.new.out.items _ within c.in_ok-write_interfaces_of.ensures c.loop-number.invariant

pub returns : goal.returns
returns c =
    let over : 10 ≤ c.loop-number.number = omega (arith, c.loop-number-test.false) in
    all_done (interfaces_of c.args.device) c.loop-number.number 10 c.loop-number.out.items _ over c.loop-number.invariant
