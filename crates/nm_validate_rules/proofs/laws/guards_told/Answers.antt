use Rattle.nm_validate_rules.proofs.Sampled.{nothing-told, bare-told, few-told, same-told, valid-told}
use Rattle.nm_validate_rules.proofs.laws.guards_told.Goals as goal

pub returns-clause-nothing : goal.returns-clause-nothing
returns-clause-nothing c = nothing-told

pub returns-clause-missing : goal.returns-clause-missing
returns-clause-missing c = bare-told

pub returns-clause-few : goal.returns-clause-few
returns-clause-few c = few-told

pub returns-clause-same : goal.returns-clause-same
returns-clause-same c = same-told

pub returns-clause-valid : goal.returns-clause-valid
returns-clause-valid c = valid-told
