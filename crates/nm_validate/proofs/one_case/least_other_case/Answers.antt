use Rattle.std.proofs.Common.{◌≡◌, ◌<◌, ◌-◌, length, ap, sym, ◌∙◌, arith}
use Rattle.nm_validate_places.specs.Tables.{nodes_in}
use Rattle.nm_validate_places.specs.Least.{least_with}
use Rattle.nm_validate_places.proofs.Leasts.{turn_all}
use Rattle.nm_validate.specs.Led.{paths_of}
use Rattle.nm_validate.specs.Others.{others_of}
use Rattle.nm_validate.proofs.Placed.{listed_places}
use Rattle.nm_validate.proofs.Cased.{all_choices, no_choices}
use Rattle.nm_validate.proofs.one_case.least_other_case.Goals as goal

pub returns-then-choice_count-eq0 : goal.returns-then-choice_count-eq0
returns-then-choice_count-eq0 g c =
    let none = c.if-choice_count-eq0.true in
    let count = c.choice_count.ensures in
    sym (no_choices c.args.schema.now (g.M.RowMap.rows c.args.config.now) (omega (arith, none, count)))

pub least_of_choice-requires-clause-nodes : goal.least_of_choice-requires-clause-nodes
least_of_choice-requires-clause-nodes g c =
    let test_is = c.loop-choice-test.true in
    let end_is = c.choice_count-choice-end.ensures in
    let lt : c.loop-choice.choice < length c.args.schema.now.choices = omega (arith, test_is, end_is) in
    c.nodes_in-nodes.ensures ∙ ap (λ gs. nodes_in gs c.loop-choice.choice) c.as_slice-choices.ensures.value ∙ c.in_ok-table.ensures.each c.loop-choice.choice lt

pub loop-choice-preserved : goal.loop-choice-preserved
loop-choice-preserved g c =
    let t = c.args.schema.now in
    let rows = g.M.RowMap.rows c.args.config.now in
    let places = paths_of c.in_ok-places.places.items in
    let test_is = c.loop-choice-test.true in
    let end_is = c.choice_count-choice-end.ensures in
    let lt : c.loop-choice.choice < length t.choices = omega (arith, test_is, end_is) in
    let found = c.in_ok-least.ensures ∙ ap (λ ps. least_with c.loop-choice.least (others_of t rows c.loop-choice.choice (paths_of ps))) c.deref-in-loop-choice.ensures.value in
    turn_all (λ k. others_of t rows k places) c.loop-choice.choice (length t.choices) c.loop-choice.least c.in_ok-least.least lt found ∙ c.loop-choice.invariant

pub returns : goal.returns
returns g c =
    let t = c.args.schema.now in
    let rows = g.M.RowMap.rows c.args.config.now in
    let places = paths_of c.in_ok-places.places.items in
    let test_is = c.loop-choice-test.false in
    let end_is = c.choice_count-choice-end.ensures in
    let done : length t.choices - c.loop-choice.choice ≡ 0 = omega (arith, test_is, end_is) in
    let are = c.in_ok-places.ensures.paths ∙ c.deref-2.ensures.value ∙ listed_places t rows c.args.grouped.now c.deref.result.now c.in_ok-paths.paths.items c.deref.ensures.value c.requires c.in_ok-paths.ensures in
    all_choices t rows c.laws.ensures places are c.loop-choice.choice c.loop-choice.least done c.loop-choice.invariant
