use Rattle.std.proofs.Common.{◌∙◌, sym, ap}
use Rattle.nm_schema.specs.Kind.{group_in}
use Rattle.nm_schema.proofs.Fronts.{front_more, front_missing, front_over}
use Rattle.nm_schema.proofs.list.all_groups.Goals as goal

pub loop-unique-preserved : goal.loop-unique-preserved
loop-unique-preserved c =
    let group = group_in c.args.grounds.now.rows c.args.grounds.now.facts c.args.number in
    front_more group c.args.uniques.now c.loop-unique.unique-index c.unique-item.result c.loop-unique.groups c.push.new.self c.in-Ok-Some.group _ c.loop-unique-test.true c.in_ok-push-in-Ok-Some.ensures.pushed
    (sym c.in-Ok-Some.field-0-is ∙ c.in-Ok-Some.ensures ∙ ap group c.unique-item.is) c.loop-unique.invariant

pub returns-in-Ok-None : goal.returns-in-Ok-None
returns-in-Ok-None c =
    let group = group_in c.args.grounds.now.rows c.args.grounds.now.facts c.args.number in
    front_missing group c.args.uniques.now c.loop-unique.unique-index c.unique-item.result c.loop-unique.groups _ c.loop-unique-test.true
    (sym c.in-Ok-None.field-0-is ∙ c.in-Ok-None.ensures ∙ ap group c.unique-item.is) c.loop-unique.invariant

pub returns : goal.returns
returns c =
    front_over (group_in c.args.grounds.now.rows c.args.grounds.now.facts c.args.number) c.args.uniques.now c.loop-unique.unique-index c.loop-unique.groups _ c.loop-unique-test.false c.loop-unique.invariant
