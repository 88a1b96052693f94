use Rattle.std.proofs.Common.{ℕ, Option, None, replicate, arith}
use Rattle.std.proofs.lemmas.Grind.{common_steps}
use Rattle.nm_world.proofs.Loops.{replicate-left}
use Rattle.nm_world.proofs.beginning.fresh_operators.Goals as goal

pub loop-preserved : goal.loop-preserved
loop-preserved c =
    let e = replicate-left (replicate {A = Option ℕ} c.args.devices None) c.args.count c.loop.counter (omega arith) in
    grind (arith, common_steps, e)
