use Rattle.nm_path.proofs.Nodes.{full-is-path}
use Rattle.nm_path.proofs.laws.full_paths.Goals as goal

pub returns : goal.returns
returns c = full-is-path
