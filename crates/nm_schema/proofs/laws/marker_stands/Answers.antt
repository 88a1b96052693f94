use Rattle.nm_schema.proofs.Marked.{modules_marked}
use Rattle.nm_schema.proofs.laws.marker_stands.Goals as goal

pub returns : goal.returns
returns c = modules_marked
