use Rattle.nm_validate_rules.proofs.PlacedReads.{read_at_candidates}
use Rattle.nm_validate_rules.proofs.read_laws.is_candidate.Goals as goal

pub returns : goal.returns
returns c = read_at_candidates
