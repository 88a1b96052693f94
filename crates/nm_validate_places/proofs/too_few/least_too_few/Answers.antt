use Rattle.nm_validate_places.specs.Least.{least_with}
use Rattle.std.specs.List.{flat_map, range_with_len}
use Rattle.std.specs.Prelude.{filter}
use Rattle.std.proofs.Common.{◌≡◌, ◌<◌, ◌-◌, length, refl, ◌∙◌, arith, ap, None}
use Rattle.nm_validate_rules.specs.declared.rule.Rule.TheVariants.{MinElements}
use Rattle.nm_validate_rules.specs.Places.{places}
use Rattle.nm_validate_rules.specs.Violated.{violated}
use Rattle.nm_validate_places.proofs.Leasts.{turn}
use Rattle.nm_validate_places.proofs.Loops.{all_looked}
use Rattle.nm_validate_places.proofs.too_few.least_too_few.Goals as goal

pub loop-at-init : goal.loop-at-init
loop-at-init g c =
    let n = length c.args.schema.now.nodes in
    let all : n - 0 ≡ n = omega arith in
    ap (λ k. least_with None (filter (violated c.args.schema.now (g.M.RowMap.rows c.args.config.now) MinElements) (flat_map (places c.args.schema.now (g.M.RowMap.rows c.args.config.now)) (range_with_len 0 k)))) all

pub loop-at-preserved : goal.loop-at-preserved
loop-at-preserved g c =
    let rows = g.M.RowMap.rows c.args.config.now in
    let test_is = c.loop-at-test.true in
    let end_is = c.len-at-end.ensures in
    let lt : c.loop-at.at < length c.args.schema.now.nodes = omega (arith, test_is, end_is) in
    turn (violated c.args.schema.now rows MinElements) (places c.args.schema.now rows) c.loop-at.at (length c.args.schema.now.nodes) c.loop-at.least c.in_ok-least.least lt c.in_ok-least.ensures ∙ c.loop-at.invariant

pub returns : goal.returns
returns g c =
    let test_is = c.loop-at-test.false in
    let end_is = c.len-at-end.ensures in
    let done : length c.args.schema.now.nodes - c.loop-at.at ≡ 0 = omega (arith, test_is, end_is) in
    all_looked c.args.schema.now (g.M.RowMap.rows c.args.config.now) MinElements refl c.loop-at.at c.loop-at.least done c.loop-at.invariant
