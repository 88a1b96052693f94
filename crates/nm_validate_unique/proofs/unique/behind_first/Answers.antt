use Rattle.std.proofs.Common.{drop}
use Rattle.nm_validate_places.proofs.Rows.{rows_taken, rows_dropped}
use Rattle.nm_validate_unique.proofs.unique.behind_first.Goals as goal

pub returns : goal.returns
returns c m h = rows_taken m (drop 1 c.args.rows.now) _ (rows_dropped m c.args.rows.now 1 h)
