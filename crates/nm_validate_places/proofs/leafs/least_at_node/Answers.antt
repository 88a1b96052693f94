use Rattle.std.proofs.Common.{not, ap, sym, ◌∙◌}
use Rattle.std.specs.Prelude.{filter}
use Rattle.std.specs.FinMap.{contains_key}
use Rattle.nm_validate_places.specs.Least.{least_with}
use Rattle.nm_validate_places.proofs.Missing.{missing_places, no_places}
use Rattle.nm_validate_places.proofs.leafs.least_at_node.Goals as goal

pub returns-then-not-is_mandatory : goal.returns-then-not-is_mandatory
returns-then-not-is_mandatory g c =
    let rows = g.M.RowMap.rows c.args.config.now in
    ap (least_with c.args.found) (sym (no_places c.args.schema.now rows c.requires.sound c.args.at c.requires.within (sym c.is_mandatory.ensures ∙ c.if-not-is_mandatory.true)))

pub returns : goal.returns
returns g c =
    let rows = g.M.RowMap.rows c.args.config.now in
    c.least_missing-least.ensures ∙ ap (λ l. least_with c.args.found l) (ap (filter (λ p. not (contains_key rows p))) c.in_ok-paths.ensures ∙ missing_places c.args.schema.now rows c.requires.sound c.args.at c.requires.within (sym c.is_mandatory.ensures ∙ c.if-not-is_mandatory.false))
