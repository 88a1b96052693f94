use Rattle.std.proofs.Common.{ap, sym, ◌∙◌}
use Rattle.nm_validate_rules.specs.Places.{places}
use Rattle.nm_validate_rules.specs.Values.{default_in_use}
use Rattle.nm_validate_leafref.specs.Kept.{with_values}
use Rattle.nm_validate_leafref.proofs.Grouping.{no_defaults}
use Rattle.nm_validate_leafref.proofs.known.keep_defaults.Goals as goal

pub returns-in_default : goal.returns-in_default
returns-in_default g c =
    let rows = g.M.RowMap.rows c.args.config.now in
    no_defaults c.args.schema.now rows c.args.at c.args.depth c.args.kept.now (places c.args.schema.now rows c.args.at) (sym c.in_default.ensures)

pub returns : goal.returns
returns g c =
    let rows = g.M.RowMap.rows c.args.config.now in
    c.in_ok-keep_all_defaults.ensures
    ∙ ap (λ ps. with_values c.args.at c.args.depth (λ path. default_in_use c.args.schema.now rows path c.args.at) c.args.kept.now ps) (c.deref.ensures.value ∙ c.in_ok-paths.ensures)
