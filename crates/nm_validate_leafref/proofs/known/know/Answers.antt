use Rattle.std.proofs.Common.{is_some, ap, sym, ◌∙◌}
use Rattle.std.specs.FinMap.{insert, contains_key}
use Rattle.nm_types.specs.declared.value.Value.TheVariants.{Present}
use Rattle.nm_validate_leafref.specs.Known.{with_target}
use Rattle.nm_validate_leafref.proofs.Knowing.{known_new}
use Rattle.nm_validate_leafref.proofs.known.know.Goals as goal

pub returns : goal.returns
returns g c =
    let t = c.args.schema.now in
    let rows = g.M.RowMap.rows c.args.config.now in
    let x = c.args.at in
    let d = c.args.depth in
    let new = ap (λ k. contains_key c.args.kept.now k) (sym c.in_ok-mark.ensures) ∙ ap is_some (sym c.in_ok-put.ensures.before) ∙ sym c.is_some.ensures ∙ c.if-is_some.false in
    let put = c.in_ok-put.ensures.ok ∙ ap (λ k. insert c.args.kept.now k Present) c.in_ok-mark.ensures in
    c.in_ok-keep_target.ensures ∙ ap (with_target t rows x d) put ∙ known_new t rows x d c.args.kept.now new
