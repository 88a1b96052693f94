use Rattle.nm_schema_statements.specs.Rows.{IsIndexed}
use Rattle.nm_schema_statements.proofs.Putting.{modules_start, modules_next, modules_all}
use Rattle.nm_schema_statements.proofs.Indexes.{indexed_none}
use Rattle.nm_schema_statements.proofs.rows.draft_of.Goals as goal

pub loop-owner-init : goal.loop-owner-init
loop-owner-init c =
    let indexed : IsIndexed c.new.result.items c.new-2.result.items c.new-3.result = rw (c.new.ensures.items, c.new-2.ensures.items, c.new-3.ensures) indexed_none in
    modules_start c.args.modules.now c.new.result.items c.new-2.result.items c.new-3.result c.new.ensures.items indexed

pub loop-owner-preserved : goal.loop-owner-preserved
loop-owner-preserved c =
    modules_next c.loop-owner.draft.rows.items c.put_module.new.draft.rows.items c.loop-owner.draft.below.items c.put_module.new.draft.below.items c.loop-owner.draft.top c.put_module.new.draft.top
    c.args.modules.now c.loop-owner.owner c.index-modules-owner.result c.loop-owner.invariant c.loop-owner-test.true c.index-modules-owner.is c.in_ok-put_module.ensures.put c.in_ok-put_module.ensures.indexed

pub returns-clause-rows : goal.returns-clause-rows
returns-clause-rows c =
    modules_all c.loop-owner.draft.rows.items c.loop-owner.draft.below.items c.loop-owner.draft.top c.args.modules.now c.loop-owner.owner c.loop-owner.invariant c.loop-owner-test.false
