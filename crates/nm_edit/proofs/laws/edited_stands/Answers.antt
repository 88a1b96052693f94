use Rattle.nm_edit.proofs.Data.{edited_stand}
use Rattle.nm_edit.proofs.laws.edited_stands.Goals as goal

pub returns : goal.returns
returns c = λ t old nodes d rows stands edit e. edited_stand t old nodes d stands edit rows e
