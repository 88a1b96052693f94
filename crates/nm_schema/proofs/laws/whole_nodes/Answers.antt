use Rattle.nm_schema.proofs.Wholes.{modules_whole}
use Rattle.nm_schema.proofs.laws.whole_nodes.Goals as goal

pub returns : goal.returns
returns c = modules_whole
