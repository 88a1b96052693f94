use Rattle.nm_json.proofs.Rounds.{round_law}
use Rattle.nm_json.proofs.laws.written_configs.Goals as goal

pub returns : goal.returns
returns c = round_law
