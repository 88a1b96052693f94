use Rattle.serde_json.specs.View.{view}
use Rattle.nm_json.proofs.Rounds.{value_law}
use Rattle.nm_json.proofs.write.config_value.Goals as goal

pub returns-clause-same_config : goal.returns-clause-same_config
returns-clause-same_config c = value_law c.whole_value.result view c.args.schema.now c.args.config.now c.whole_value.ensures
