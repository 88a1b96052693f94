use Rattle.nm_validate_rules.specs.Candidates.{candidates}
use Rattle.nm_validate_rules.proofs.Among.{contains_among}
use Rattle.nm_validate_rules.proofs.PlacedReads.{read_at_candidates}
use Rattle.nm_incremental.proofs.Placing.{candidate_placed}
use Rattle.nm_incremental.proofs.laws.a_row_is_read_at_its_places.Goals as goal

pub returns : goal.returns
returns c = λ t rule path row sound has read. candidate_placed t row rule path (contains_among (candidates t rule row) path (read_at_candidates t rule path row sound has read))
