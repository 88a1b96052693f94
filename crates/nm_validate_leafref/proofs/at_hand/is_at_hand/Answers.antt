use Rattle.std.proofs.Common.{sym, ◌∙◌}
use Rattle.nm_validate_leafref.proofs.AtHand.{reached_by_leaf}
use Rattle.nm_validate_leafref.proofs.at_hand.is_at_hand.Goals as goal

pub returns : goal.returns
returns g c there =
    reached_by_leaf c.args.schema.now (g.M.RowMap.rows c.args.config.now) c.args.place.now c.args.target c.args.value.now c.in_ok-path.path c.laws.ensures (sym c.in_ok-there.ensures ∙ there)
