use Rattle.std.proofs.Common.{ap, sym, ◌∙◌, subst}
use Rattle.std.specs.Prelude.{filter}
use Rattle.nm_validate_places.specs.Least.{least_with}
use Rattle.nm_validate_places.specs.Tables.{AreOfCases}
use Rattle.nm_validate_places.specs.Wanted.{is_short}
use Rattle.nm_validate_places.proofs.Elements.{below_min, no_min}
use Rattle.nm_validate_places.proofs.too_few.least_at_node.Goals as goal

pub others_of-requires : goal.others_of-requires
others_of-requires g c = subst (λ gs. AreOfCases c.args.schema.now gs) (sym c.deref.ensures.value) c.requires.grouped.cases_are

pub returns-in_default : goal.returns-in_default
returns-in_default g c =
    let rows = g.M.RowMap.rows c.args.config.now in
    ap (least_with c.args.found) (sym (no_min c.args.schema.now rows c.requires.sound c.args.at c.requires.within (ap (λ e. e.min) (sym c.elements.ensures) ∙ c.in_default.is)))

pub returns : goal.returns
returns g c =
    let rows = g.M.RowMap.rows c.args.config.now in
    let others = c.in_ok-others.others in
    c.in_ok-least.ensures
    ∙ ap (λ l. least_with c.args.found l) (ap (filter (is_short c.args.schema.now rows c.in-Some.min others)) c.in_ok-paths.ensures ∙ below_min c.args.schema.now rows c.requires.sound c.args.at c.requires.within c.in-Some.min others (ap (λ e. e.min) (sym c.elements.ensures) ∙ c.in-Some.is) c.in_ok-others.ensures)
