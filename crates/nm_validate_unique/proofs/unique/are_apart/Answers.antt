use Rattle.std.proofs.Common.{map, ◌∙◌}
use Rattle.nm_validate_unique.proofs.Apart.{are_apart, one_count}
use Rattle.nm_validate_unique.proofs.unique.are_apart.Goals as goal

pub returns : goal.returns
returns g c same =
    let count = one_count c.in_ok-different.different c.len-all.result same ∙ c.len-all.ensures ∙ c.in_ok-marks.marks.ok.0 in
    are_apart c.args.schema.now (g.M.RowMap.rows c.args.config.now) c.args.leafs.now (map (λ entry. entry.now) c.args.entries.now) c.in_ok-marks.marks.items c.in_ok-different.different
    c.in_ok-marks.ensures c.in_ok-different.ensures count
