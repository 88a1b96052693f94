use Rattle.std.proofs.Common.{ap, sym, ◌∙◌}
use Rattle.std.specs.List.{flat_map}
use Rattle.nm_validate_places.specs.Choosing.{missing_by}
use Rattle.nm_validate_places.specs.Least.{least_with}
use Rattle.nm_validate_places.proofs.Choosing.{not_there, not_wanted, beyond, choice_missing}
use Rattle.nm_validate_places.proofs.choices.least_at_choice.Goals as goal

pub returns-in_default : goal.returns-in_default
returns-in_default g c = ap (least_with c.args.found) (sym (not_there c.args.schema.now (g.M.RowMap.rows c.args.config.now) c.args.at c.in_default.ensures))

pub returns-then-not-choice : goal.returns-then-not-choice
returns-then-not-choice g c =
    ap (least_with c.args.found) (sym (not_wanted c.args.schema.now (g.M.RowMap.rows c.args.config.now) c.args.at c.in-Some.choice.now c.in-Some.ensures c.if-not-choice.true))

pub returns-then-not-is_within : goal.returns-then-not-is_within
returns-then-not-is_within g c =
    ap (least_with c.args.found) (sym (beyond c.args.schema.now (g.M.RowMap.rows c.args.config.now) c.args.at c.in-Some.choice.now c.in-Some.ensures (sym c.is_within.ensures ∙ c.if-not-is_within.true)))

pub returns : goal.returns
returns g c =
    let t = c.args.schema.now in
    let rows = g.M.RowMap.rows c.args.config.now in
    let choice = c.in-Some.choice.now in
    let nodes = c.args.nodes.now in
    c.in_ok-least.ensures
    ∙ ap (λ l. least_with c.args.found (flat_map (missing_by t rows choice nodes) l)) (c.deref.ensures.value ∙ c.in_ok-above.ensures)
    ∙ ap (least_with c.args.found) (choice_missing t rows c.requires.sound c.args.at choice nodes c.in-Some.ensures c.if-not-choice.false
    (sym c.is_within.ensures ∙ c.if-not-is_within.false) c.requires.nodes)
