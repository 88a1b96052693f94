use Rattle.nm_json.proofs.Only.{config_law}
use Rattle.nm_json.proofs.laws.configs_only.Goals as goal

pub returns : goal.returns
returns c = config_law
