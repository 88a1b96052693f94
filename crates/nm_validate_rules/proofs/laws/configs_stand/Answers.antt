use Rattle.nm_validate_rules.proofs.Configs.{config_stands}
use Rattle.nm_validate_rules.proofs.laws.configs_stand.Goals as goal

pub returns : goal.returns
returns c = config_stands
