use Rattle.nm_path.proofs.Loops.{path_some, path_fail, path_end}
use Rattle.nm_path.proofs.read.path_from.Goals as goal

pub returns-in-Err : goal.returns-in-Err
returns-in-Err c = path_fail c.args.schema.now.nodes c.steps.all.items c.steps.place c.steps.rest.now c.step-item.result _ c.in-Err.error c.in-len1-up.len_at_least c.step-item.is c.in-Err.ensures c.steps.invariant

pub steps-preserved : goal.steps-preserved
steps-preserved c = rw c.in_ok-push-in-Ok.ensures.items (path_some c.args.schema.now.nodes c.steps.all.items c.steps.place c.in-Ok.at c.in-Ok.next c.steps.rest.now c.step-item.result _ c.in-len1-up.len_at_least c.step-item.is c.in-Ok.ensures c.steps.invariant)

pub returns : goal.returns
returns c = path_end c.args.schema.now.nodes c.steps.all.items c.steps.place c.steps.rest.now _ c.in_default.len_below c.steps.invariant
