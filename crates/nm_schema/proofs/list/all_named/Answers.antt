use Rattle.std.proofs.Common.{◌∙◌, sym}
use Rattle.nm_schema.specs.Kind.{named_as}
use Rattle.nm_schema.proofs.Fronts.{front_more, front_missing, front_over}
use Rattle.nm_schema.proofs.list.all_named.Goals as goal

pub loop-row-preserved : goal.loop-row-preserved
loop-row-preserved c =
    let named = named_as c.args.grounds.now.rows c.args.grounds.now.facts c.args.number in
    front_more named c.args.rows.now c.loop-row.row-index 0 c.loop-row.nodes c.push.new.self c.in-Some.node _ c.loop-row-test.true c.in_ok-push-in-Some.ensures.pushed (sym c.in-Some.is ∙ c.named_as.ensures) c.loop-row.invariant

pub returns-in-None : goal.returns-in-None
returns-in-None c =
    let named = named_as c.args.grounds.now.rows c.args.grounds.now.facts c.args.number in
    front_missing named c.args.rows.now c.loop-row.row-index 0 c.loop-row.nodes _ c.loop-row-test.true (sym c.in-None.is ∙ c.named_as.ensures) c.loop-row.invariant

pub returns : goal.returns
returns c = front_over (named_as c.args.grounds.now.rows c.args.grounds.now.facts c.args.number) c.args.rows.now c.loop-row.row-index c.loop-row.nodes _ c.loop-row-test.false c.loop-row.invariant
