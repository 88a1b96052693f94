use Rattle.nm_json.proofs.Depths.{depth_law}
use Rattle.nm_json.proofs.laws.shallow_values.Goals as goal

pub returns : goal.returns
returns c = depth_law
