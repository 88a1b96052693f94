use Rattle.std.proofs.Common.{◌∙◌, ℕ, List, map, sym, ap}
use Rattle.nm_graph.specs.Value.{all_there}
use Rattle.nm_schema.specs.Kind.{reached, group_in}
use Rattle.nm_schema.proofs.Fronts.{front_more, front_missing, front_over}
use Rattle.nm_schema.proofs.list.group_in.Goals as goal

pub loop-way-preserved : goal.loop-way-preserved
loop-way-preserved c =
    let reach = reached c.args.grounds.now.rows c.args.grounds.now.facts c.args.number in
    front_more reach c.ways-way-items.result.now c.loop-way.way-index c.way-item.result c.loop-way.group c.push.new.self c.in-Some.leaf _ c.loop-way-test.true c.in_ok-push-in-Some.ensures.pushed
    (sym c.in-Some.is ∙ c.reached.ensures ∙ ap reach c.way-item.is) c.loop-way.invariant

pub returns-in-None : goal.returns-in-None
unfolding group_in
returns-in-None c =
    let reach = reached c.args.grounds.now.rows c.args.grounds.now.facts c.args.number in
    front_missing reach c.ways-way-items.result.now c.loop-way.way-index c.way-item.result c.loop-way.group _ c.loop-way-test.true (sym c.in-None.is ∙ c.reached.ensures ∙ ap reach c.way-item.is) c.loop-way.invariant
    ∙ ap (λ (ways : List (List ℕ)). all_there (map reach ways)) c.ways-way-items.ensures

pub returns : goal.returns
unfolding group_in
returns c =
    let reach = reached c.args.grounds.now.rows c.args.grounds.now.facts c.args.number in
    front_over reach c.ways-way-items.result.now c.loop-way.way-index c.loop-way.group _ c.loop-way-test.false c.loop-way.invariant
    ∙ ap (λ (ways : List (List ℕ)). all_there (map reach ways)) c.ways-way-items.ensures
