use Rattle.std.proofs.Common.{ap, ◌∙◌}
use Rattle.nm_config.specs.Rows.{Rows}
use Rattle.nm_validate_rules.specs.Places.{places}
use Rattle.nm_validate_rules.specs.Values.{key_in_entry, default_in_use}
use Rattle.nm_validate_leafref.specs.Kept.{with_values}
use Rattle.nm_validate_leafref.specs.Known.{entries_of}
use Rattle.nm_validate_leafref.proofs.known.keep_target.Goals as goal

pub returns : goal.returns
returns g c =
    let t = c.args.schema.now in
    let rows = g.M.RowMap.rows c.args.config.now in
    let x = c.args.at in
    let d = c.args.depth in
    let by_key = c.in_ok-keep_keys.ensures ∙ ap (λ (m : Rows). with_values x d (key_in_entry t x) m (entries_of t rows x)) c.in_ok-keep_rows.ensures in
    c.in_ok-keep_defaults.ensures ∙ ap (λ (m : Rows). with_values x d (λ path. default_in_use t rows path x) m (places t rows x)) by_key
