use Rattle.nm_path.proofs.Loops.{values_some, values_fail, values_end}
use Rattle.nm_path.proofs.choice.values_of.Goals as goal

pub returns-in-Err : goal.returns-in-Err
returns-in-Err c = values_fail c.args.schema.now.nodes c.args.predicates.now c.keys.values.items c.keys.rest.now _ c.in-Err.error c.in-len1-up.len_at_least c.name_of.result.now c.name_of.ensures c.in-Err.ensures c.keys.invariant

pub keys-preserved : goal.keys-preserved
keys-preserved c = rw c.in_ok-push-in-Ok.ensures.items (values_some c.args.schema.now.nodes c.args.predicates.now c.keys.values.items c.in-Ok.value c.keys.rest.now _ c.in-len1-up.len_at_least c.name_of.result.now c.name_of.ensures c.in-Ok.ensures c.keys.invariant)

pub returns : goal.returns
returns c = values_end c.args.schema.now.nodes c.args.predicates.now c.keys.values.items c.keys.rest.now _ c.in_default.len_below c.keys.invariant
