use Rattle.std.proofs.Common.{◌≡◌, None, fold}
use Rattle.nm_undo.specs.Since.{noted, differs_at}
use Rattle.nm_undo.proofs.since.least_other.Given as goal

abbrev pub invariant-loop-pair : goal.invariant-loop-pair
invariant-loop-pair g l =
    fold (noted (differs_at (g.M.RowMap.rows l.made) (g.M.RowMap.rows l.later))) l.least l.pair-iterator.rest.items
    ≡ fold (noted (differs_at (g.M.RowMap.rows l.made) (g.M.RowMap.rows l.later))) None l.fn.paths.items
