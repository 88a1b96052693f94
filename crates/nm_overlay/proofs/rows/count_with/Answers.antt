use Rattle.std.proofs.Common.{arith}
use Rattle.nm_overlay.proofs.Count.{counts}
use Rattle.nm_overlay.proofs.rows.count_with.Goals as goal

pub overflow_sub-result : goal.overflow_sub-result
overflow_sub-result g c = let all = counts (g.M.RowMap.rows c.args.base.now) c.args.pairs.now c.requires.ascends c.requires.changes in
    omega (arith, all, c.requires.before, c.added_of.ensures, c.gone_of.ensures)

pub returns : goal.returns
returns g c = let all = counts (g.M.RowMap.rows c.args.base.now) c.args.pairs.now c.requires.ascends c.requires.changes in
    omega (arith, all, c.requires.before, c.added_of.ensures, c.gone_of.ensures)
