use Rattle.std.proofs.Common.{arith}
use Rattle.std.proofs.lemmas.Grind.{common_steps}
use Rattle.nm_work.specs.Work.{fresh_side}
use Rattle.nm_manager.proofs.Lists.{replicate_left}
use Rattle.nm_work.proofs.work.fresh_sides.Goals as goal

pub loop-preserved : goal.loop-preserved
loop-preserved c =
    let e = replicate_left fresh_side 32 c.loop.counter (omega arith) in
    grind (arith, common_steps, e)
