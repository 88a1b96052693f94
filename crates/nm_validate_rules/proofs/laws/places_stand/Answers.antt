use Rattle.nm_validate_rules.proofs.Placed.{placed_law}
use Rattle.nm_validate_rules.proofs.laws.places_stand.Goals as goal

pub returns : goal.returns
returns c = placed_law
