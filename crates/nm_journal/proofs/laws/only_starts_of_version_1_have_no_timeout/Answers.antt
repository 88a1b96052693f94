use Rattle.nm_journal.proofs.Versions.{read_is_timed}
use Rattle.nm_journal.proofs.laws.only_starts_of_version_1_have_no_timeout.Goals as goal

pub returns : goal.returns
returns c = read_is_timed
