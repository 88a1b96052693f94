use Rattle.std.proofs.Common.{sym, ◌∙◌}
use Rattle.nm_validate_places.proofs.Rows.{first_at}
use Rattle.nm_validate_places.proofs.values.is_first.Goals as goal

pub returns : goal.returns
returns c m h same = first_at m c.args.near.now c.row-item.result c.args.path.now c.in-len1-up.len_at_least c.row-item.is (sym c.eq.ensures ∙ same) h
