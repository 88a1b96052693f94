use Rattle.nm_explain.proofs.Saying.{fine_explains, fault_explains}
use Rattle.nm_explain.proofs.telling.explain_bytes.Goals as goal

pub returns-in-Ok-clause-told : goal.returns-in-Ok-clause-told
returns-in-Ok-clause-told c = fine_explains c.args.bytes.now c.read_scenario.result _ c.say_fine.result c.in-Ok.is c.read_scenario.ensures c.say_fine.ensures.told

pub returns-in-Err-Bad-clause-told : goal.returns-in-Err-Bad-clause-told
returns-in-Err-Bad-clause-told c = fault_explains c.args.bytes.now c.read_scenario.result c.in-Err-Bad.fault c.say_fault.result (cc (c.in-Err-Bad.is, c.in-Err-Bad.fault-is, c.in-Err-Bad.field-0-is)) c.read_scenario.ensures c.say_fault.ensures.told
