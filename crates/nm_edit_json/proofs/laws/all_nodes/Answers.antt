use Rattle.nm_edit_json.proofs.Least.{nodes_law}
use Rattle.nm_edit_json.proofs.laws.all_nodes.Goals as goal

pub returns : goal.returns
returns c = nodes_law
