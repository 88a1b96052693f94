use Rattle.std.proofs.Common.{length, ap, sym, ◌∙◌}
use Rattle.std.specs.Prelude.{filter, nat_lt}
use Rattle.nm_validate_rules.specs.Values.{count_at}
use Rattle.nm_validate_places.specs.Least.{least_with}
use Rattle.nm_validate_places.proofs.Elements.{above_max, no_max}
use Rattle.nm_validate_places.proofs.Rowless.{small_group}
use Rattle.nm_validate_places.proofs.Loops.{lent_groups}
use Rattle.nm_validate_places.proofs.too_many.least_at_node.Goals as goal

pub returns-in_default : goal.returns-in_default
returns-in_default g c =
    let rows = g.M.RowMap.rows c.args.config.now in
    ap (least_with c.args.found) (sym (no_max c.args.schema.now rows c.requires.sound c.args.at c.requires.within (ap (λ e. e.max) (sym c.elements.ensures) ∙ c.in_default.is)))

pub returns-then-not-has_more_in : goal.returns-then-not-has_more_in
returns-then-not-has_more_in g c =
    let t = c.args.schema.now in
    let rows = g.M.RowMap.rows c.args.config.now in
    let groups = lent_groups t rows c.args.grouped.now c.as_slice.result.now c.requires.grouped c.as_slice.ensures.value in
    let most = ap (λ e. e.max) (sym c.elements.ensures) ∙ c.in-Some.is in
    ap (least_with c.args.found) (sym (small_group t rows c.requires.sound c.as_slice.result.now c.args.at c.requires.within groups c.in-Some-get.group.now c.in-Some-get.ensures.lookup.1 c.in-Some.max most
    (sym (c.has_more_in.ensures ∙ ap (λ l. nat_lt c.in-Some.max (length l)) c.deref.ensures.value) ∙ c.if-not-has_more_in.true)))

pub returns : goal.returns
returns g c =
    let rows = g.M.RowMap.rows c.args.config.now in
    c.least_above-least.ensures ∙ ap (λ l. least_with c.args.found l) (ap (filter (λ p. nat_lt c.in-Some.max (count_at rows p))) c.in_ok-paths.ensures ∙ above_max c.args.schema.now rows c.requires.sound c.args.at c.requires.within c.in-Some.max (ap (λ e. e.max) (sym c.elements.ensures) ∙ c.in-Some.is))
