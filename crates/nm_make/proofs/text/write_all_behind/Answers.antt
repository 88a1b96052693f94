use Rattle.std.proofs.Common.{◌<◌, ◌≤◌, arith}
use Rattle.nm_make.specs.Made.{interfaces_behind}
use Rattle.nm_make.proofs.Numbered.{one_more, all_done}
use Rattle.nm_make.proofs.text.write_all_behind.Goals as goal

pub loop-digit-preserved : goal.loop-digit-preserved
loop-digit-preserved c =
    let within : c.loop-digit.digit < 10 = omega (arith, c.loop-digit-test.true) in
    one_more (interfaces_behind c.args.device c.args.number) c.loop-digit.digit 10 c.loop-digit.out.items c.write_at.new.out.items _ within c.in_ok-write_at.ensures c.loop-digit.invariant

pub returns : goal.returns
returns c =
    let over : 10 ≤ c.loop-digit.digit = omega (arith, c.loop-digit-test.false) in
    all_done (interfaces_behind c.args.device c.args.number) c.loop-digit.digit 10 c.loop-digit.out.items _ over c.loop-digit.invariant
