use Rattle.nm_json.proofs.Rounds.{round_law}
use Rattle.nm_json.proofs.Only.{config_law}
use Rattle.nm_json.proofs.laws.read_again.Goals as goal

pub returns : goal.returns
returns c = λ t d rows sound e. round_law t rows sound (config_law t d rows sound.bounds e)
