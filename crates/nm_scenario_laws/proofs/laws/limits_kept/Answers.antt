use Rattle.nm_scenario_laws.proofs.Whole.{bytes_keep}
use Rattle.nm_scenario_laws.proofs.laws.limits_kept.Goals as goal

pub returns : goal.returns
returns c = bytes_keep
