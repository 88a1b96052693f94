use Rattle.std.proofs.Common.{sym, subst}
use Rattle.nm_config.specs.Rows.{Rows}
use Rattle.nm_validate_leafref.specs.Known.{Knows}
use Rattle.nm_validate_leafref.proofs.Knowing.{knows_nothing}
use Rattle.nm_incremental.proofs.rows.is_lost.Goals as goal

pub is_lost_row-requires-clause-knows : goal.is_lost_row-requires-clause-knows
is_lost_row-requires-clause-knows g c =
    let rows = g.M.RowMap.rows c.args.config.now in
    subst (λ (m : Rows). Knows c.args.schema.now rows m) (sym c.new-kept.ensures) (knows_nothing c.args.schema.now rows)
