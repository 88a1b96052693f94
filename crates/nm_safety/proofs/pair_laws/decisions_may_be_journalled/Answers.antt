use Rattle.nm_safety.proofs.Journal.{commit_follows, abort_follows}
use Rattle.nm_safety.proofs.pair_laws.decisions_may_be_journalled.Goals as goal

pub returns-clause-commit : goal.returns-clause-commit
returns-clause-commit c = commit_follows

pub returns-clause-abort : goal.returns-clause-abort
returns-clause-abort c = abort_follows
