use Rattle.std.proofs.Common.{map, ap, sym, ◌∙◌}
use Rattle.std.specs.FinMap.{get}
use Rattle.nm_validate_leafref.specs.Kept.{with_values}
use Rattle.nm_validate_leafref.proofs.Grouping.{no_rows, group_rows}
use Rattle.nm_validate_leafref.proofs.known.keep_rows.Goals as goal

pub returns-in_default : goal.returns-in_default
returns-in_default g c =
    let rows = g.M.RowMap.rows c.args.config.now in
    ap (λ ps. with_values c.args.at c.args.depth (get rows) c.args.kept.now ps) (sym (no_rows c.args.schema.now rows c.args.grouped.now.groups.items c.args.at c.requires.groups_are c.in_default.ensures))

pub returns : goal.returns
returns g c =
    let rows = g.M.RowMap.rows c.args.config.now in
    c.in_ok-keep_all_rows.ensures
    ∙ ap (λ ps. with_values c.args.at c.args.depth (get rows) c.args.kept.now (map (λ path. path.now) ps)) c.deref.ensures.value
    ∙ ap (λ ps. with_values c.args.at c.args.depth (get rows) c.args.kept.now ps)
    (group_rows c.args.schema.now rows c.args.grouped.now.groups.items c.args.at c.in-Some.paths.now c.requires.groups_are c.in-Some.ensures)
