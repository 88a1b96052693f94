use Rattle.nm_json.proofs.Long.{not_long}
use Rattle.nm_json.proofs.names.may_be_long.Goals as goal

pub returns-in-None : goal.returns-in-None
returns-in-None c =
    not_long c.args.text.now c.args.module.now c.args.name.now c.as_bytes.result.now c.as_bytes-2.result.now c.as_bytes.ensures.value c.as_bytes-2.ensures.value c.in-None.ensures.cases
