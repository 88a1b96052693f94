use Rattle.std.proofs.Common.{rules}
use Rattle.nm_journal.specs.Entries.{is_within}
use Rattle.nm_journal.proofs.follow.is_within.Goals as goal

pub returns : goal.returns
unfolding is_within
returns c = search rules
