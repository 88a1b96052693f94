use Rattle.std.proofs.Common.{◌≡◌, ◌<◌, ◌-◌, length, ◌∙◌, arith}
use Rattle.nm_validate_places.specs.Groups.{in_group}
use Rattle.nm_validate_unique.specs.Repeated.{repeated_at}
use Rattle.nm_validate_places.proofs.Leasts.{turn_all}
use Rattle.nm_validate_unique.proofs.Repeated.{all_lists}
use Rattle.nm_validate_unique.proofs.unique.least_repeated_entry.Goals as goal

pub loop-at-preserved : goal.loop-at-preserved
loop-at-preserved g c =
    let rows = g.M.RowMap.rows c.args.config.now in
    let test_is = c.loop-at-test.true in
    let end_is = c.len-at-end.ensures in
    let lt : c.loop-at.at < length c.args.schema.now.nodes = omega (arith, test_is, end_is) in
    turn_all (λ x. repeated_at c.args.schema.now rows (in_group c.args.grouped.now.groups.items x) x) c.loop-at.at (length c.args.schema.now.nodes) c.loop-at.least c.in_ok-least.least lt c.in_ok-least.ensures ∙ c.loop-at.invariant

pub returns : goal.returns
returns g c =
    let rows = g.M.RowMap.rows c.args.config.now in
    let test_is = c.loop-at-test.false in
    let end_is = c.len-at-end.ensures in
    let done : length c.args.schema.now.nodes - c.loop-at.at ≡ 0 = omega (arith, test_is, end_is) in
    all_lists c.args.schema.now rows c.args.grouped.now.groups.items c.requires.groups_are c.loop-at.at c.loop-at.least done c.loop-at.invariant
