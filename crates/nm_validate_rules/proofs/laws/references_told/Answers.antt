use Rattle.nm_validate_rules.proofs.Sampled.{lost-told, doubled-told}
use Rattle.nm_validate_rules.proofs.laws.references_told.Goals as goal

pub returns-clause-lost : goal.returns-clause-lost
returns-clause-lost c = lost-told

pub returns-clause-doubled : goal.returns-clause-doubled
returns-clause-doubled c = doubled-told
