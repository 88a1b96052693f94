use Rattle.nm_json.proofs.WrittenValues.{value_law}
use Rattle.nm_json.proofs.laws.written_values.Goals as goal

pub returns : goal.returns
returns c = value_law
