use Rattle.nm_path.proofs.Answering.{spells-one}
use Rattle.nm_path.proofs.laws.one_path.Goals as goal

pub returns : goal.returns
returns c = spells-one
