use Rattle.std.proofs.Common.{drop}
use Rattle.nm_validate_places.proofs.Rows.{rows_taken, rows_dropped}
use Rattle.nm_validate_unique.proofs.unique.from_first.Goals as goal

pub returns-then-eq : goal.returns-then-eq
returns-then-eq c m h = c.rows.invariant m h

pub rows-preserved : goal.rows-preserved
rows-preserved c m h = rows_taken m (drop 1 c.rows.rest.now) _ (rows_dropped m c.rows.rest.now 1 (c.rows.invariant m h))
