use Rattle.nm_access.proofs.Decisions.{tells_first}
use Rattle.nm_access.proofs.laws.denials_tell_the_first_row.Goals as goal

pub returns : goal.returns
returns c = tells_first
