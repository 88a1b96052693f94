use Rattle.std.proofs.Common.{◌≡◌, Err, ap}
use Rattle.nm_journal.specs.declared.fault.JournalFault.TheVariants.{NotEmpty}
use Rattle.nm_journal.proofs.journal.Journal.fresh.Goals as goal

pub returns-in-Err-clause-not_empty : goal.returns-in-Err-clause-not_empty
returns-in-Err-clause-not_empty g c = λ size is. let same : c.in-Err.fault ≡ NotEmpty size = cc in c.in-Err.ensures.not_empty size (ap Err same)
