use Rattle.std.proofs.Common.{sym, ◌∙◌}
use Rattle.nm_validate_leafref.proofs.AtHand.{reached_at_hand}
use Rattle.nm_validate_leafref.proofs.at_hand.is_entry_at_hand.Goals as goal

pub returns : goal.returns
returns g c there =
    reached_at_hand c.args.schema.now (g.M.RowMap.rows c.args.config.now) c.args.place.now c.args.target c.args.value.now c.in_ok-entry.entry (sym c.in_ok-there.ensures ∙ there)
