use Rattle.std.proofs.Common.{arith}
use Rattle.nm_validate_unique.proofs.Apart.{one_step}
use Rattle.nm_validate_unique.proofs.marks.+with_front.Goals as goal

pub returns-in-len1 : goal.returns-in-len1
returns-in-len1 t c =
    let low = c.in-len1.len_at_least in
    let high = c.in-len1.len_below in
    one_step c.args.mark c.args.steps.now (omega (arith, low, high))
