use Rattle.std.proofs.Common.{ap}
use Rattle.serde_json.specs.View.{view}
use Rattle.nm_scenario.specs.Scenario.{parsed}
use Rattle.nm_scenario.proofs.Json.{json_some, json_none, told_of_bytes}
use Rattle.nm_scenario.proofs.read.parse_text.Goals as goal

pub returns-in-Ok-clause-whole : goal.returns-in-Ok-clause-whole
returns-in-Ok-clause-whole c = ap parsed (json_some c.args.bytes.now (view c.in-Ok.whole) c.in-Ok.ensures.ok.0 c.in-Ok.ensures.ok.1)

pub returns-in-Err-2-clause-fault : goal.returns-in-Err-2-clause-fault
returns-in-Err-2-clause-fault c = λ fault e.
    told_of_bytes c.args.bytes.now fault c.fault_here.result (json_none c.args.bytes.now (c.in-Err.ensures.err (λ m. cc (c.is_memory.ensures.1 m, c.if-is_memory.false)))) e c.fault_here.ensures
