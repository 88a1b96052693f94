use Rattle.nm_schema_nodes.proofs.Spots.{have-spots}
use Rattle.nm_schema_nodes.proofs.choice_laws.spots_of_members.Goals as goal

pub returns : goal.returns
returns c = have-spots
