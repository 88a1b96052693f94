use Rattle.nm_edit.proofs.After.{values_are}
use Rattle.nm_edit.proofs.laws.values_after.Goals as goal

pub returns : goal.returns
returns c = values_are
