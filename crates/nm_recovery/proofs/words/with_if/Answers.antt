use Rattle.std.proofs.Common.{arith, ◌∙◌, ◌-◌}
use Rattle.std.specs.Int.{w64}
use Rattle.nm_base.specs.Mask.{mask_contains}
use Rattle.nm_base.proofs.Masks.{with_is}
use Rattle.nm_recovery.proofs.Ended.{came}
use Rattle.nm_recovery.proofs.words.with_if.Goals as goal

pub returns-then-comes-clause-contains : goal.returns-then-comes-clause-contains
returns-then-comes-clause-contains c = λ other positive.
    let change = c.get.result in
    with_is w64 c.args.mask (change - 1) change (omega arith) (omega arith) (omega arith) other positive ∙ came (mask_contains c.args.mask other) other change c.args.change c.args.comes (c.get.ensures.value) (c.if-comes.true)
