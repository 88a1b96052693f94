use Rattle.nm_schema_names.proofs.Within.{found_within}
use Rattle.nm_schema_names.proofs.names.RowNames.leads_to.Goals as goal

pub returns-clause-within : goal.returns-clause-within
returns-clause-within c = found_within c.args.self.now c.args.at c.led_to.result c.led_to.ensures
