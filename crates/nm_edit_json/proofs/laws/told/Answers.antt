use Rattle.nm_edit_json.proofs.Told.{told_law}
use Rattle.nm_edit_json.proofs.laws.told.Goals as goal

pub returns : goal.returns
returns c = told_law
