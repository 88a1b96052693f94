use Rattle.nm_access_laws.proofs.Judging.{closed_row}
use Rattle.nm_access_laws.proofs.laws.nobody_writes_what_is_closed.Goals as goal

pub returns : goal.returns
returns c access t setting running events path test place first r proper closed out begins there passes managers =
    closed_row access t setting running events proper path test place first r closed out begins there passes managers
