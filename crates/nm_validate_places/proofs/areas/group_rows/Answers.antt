use Rattle.std.proofs.Common.{◌≤◌, length, map, drop, refl, ap, ◌∙◌, arith}
use Rattle.std.proofs.lemmas.List.{drop_all}
use Rattle.std.specs.Map.Iter.{deref_pair}
use Rattle.nm_validate_places.proofs.Grouped.{listed_turn, all_listed}
use Rattle.nm_validate_places.proofs.areas.group_rows.Goals as goal

pub loop-path-preserved : goal.loop-path-preserved
loop-path-preserved g c =
    listed_turn c.args.schema.now c.deref-path-items.result.now c.loop-path.path-index c.loop-path-item.result c.loop-path.rows.items c.push.new.self.items c.loop-path.groups.items c.put_into.new.groups.items _
    c.loop-path-test.true c.loop-path-item.is refl c.node_of-node.ensures.value c.in_ok-put_into.ensures c.in_ok-push.ensures.items c.loop-path.invariant

pub returns : goal.returns
returns g c =
    let end_is = c.loop-path-test.false in
    let ends = c.loop-path.auto.path-index-end in
    let past : length c.deref-path-items.result.now ≤ c.loop-path.path-index = omega (arith, end_is, ends) in
    all_listed c.args.schema.now (g.M.RowMap.rows c.args.config.now) (drop c.loop-path.path-index c.deref-path-items.result.now) c.deref-path-items.result.now _
    (drop_all c.loop-path.path-index c.deref-path-items.result.now past) (ap (map deref_pair) c.deref-path-items.ensures.value ∙ c.in_ok-all.ensures) c.loop-path.invariant c.in_ok-cases.ensures
