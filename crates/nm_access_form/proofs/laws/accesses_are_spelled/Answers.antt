use Rattle.nm_access_form.proofs.Spelled.{spelled}
use Rattle.nm_access_form.proofs.laws.accesses_are_spelled.Goals as goal

pub returns : goal.returns
returns c = spelled
