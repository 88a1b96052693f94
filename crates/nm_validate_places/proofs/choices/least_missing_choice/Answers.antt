use Rattle.nm_validate_places.specs.Least.{least_with}
use Rattle.std.specs.List.{flat_map, range_with_len}
use Rattle.std.proofs.Common.{◌≡◌, ◌<◌, ◌-◌, length, ap, ◌∙◌, arith, None}
use Rattle.nm_validate_places.specs.Tables.{nodes_in}
use Rattle.nm_validate_places.specs.Choosing.{missing_places}
use Rattle.nm_validate_places.proofs.Leasts.{turn_all}
use Rattle.nm_validate_places.proofs.Choosing.{all_choices}
use Rattle.nm_validate_places.proofs.choices.least_missing_choice.Goals as goal

pub loop-at-init : goal.loop-at-init
loop-at-init g c =
    let n = length c.args.schema.now.choices in
    let all : n - 0 ≡ n = omega arith in
    ap (λ k. least_with None (flat_map (missing_places c.args.schema.now (g.M.RowMap.rows c.args.config.now)) (range_with_len 0 k))) all

pub least_at_choice-requires-clause-nodes : goal.least_at_choice-requires-clause-nodes
least_at_choice-requires-clause-nodes g c =
    let test_is = c.loop-at-test.true in
    let end_is = c.choice_count-at-end.ensures in
    let lt : c.loop-at.at < length c.args.schema.now.choices = omega (arith, test_is, end_is) in
    c.nodes_in-nodes.ensures ∙ ap (λ gs. nodes_in gs c.loop-at.at) c.as_slice-choices.ensures.value ∙ c.in_ok-table.ensures.each c.loop-at.at lt

pub loop-at-preserved : goal.loop-at-preserved
loop-at-preserved g c =
    let rows = g.M.RowMap.rows c.args.config.now in
    let test_is = c.loop-at-test.true in
    let end_is = c.choice_count-at-end.ensures in
    let lt : c.loop-at.at < length c.args.schema.now.choices = omega (arith, test_is, end_is) in
    turn_all (missing_places c.args.schema.now rows) c.loop-at.at (length c.args.schema.now.choices) c.loop-at.least c.in_ok-least.least lt c.in_ok-least.ensures ∙ c.loop-at.invariant

pub returns : goal.returns
returns g c =
    let test_is = c.loop-at-test.false in
    let end_is = c.choice_count-at-end.ensures in
    let done : length c.args.schema.now.choices - c.loop-at.at ≡ 0 = omega (arith, test_is, end_is) in
    all_choices c.args.schema.now (g.M.RowMap.rows c.args.config.now) c.requires.sound.tree c.loop-at.at c.loop-at.least done c.loop-at.invariant
