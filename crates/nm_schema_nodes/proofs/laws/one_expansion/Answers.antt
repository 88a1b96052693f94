use Rattle.nm_schema_nodes.proofs.Single.{single}
use Rattle.nm_schema_nodes.proofs.laws.one_expansion.Goals as goal

pub returns : goal.returns
returns c = single
