use Rattle.std.proofs.Common.{◌≡◌, Err, inl, ap}
use Rattle.nm_journal.specs.declared.fault.JournalFault.TheVariants.{Damaged, NoMemory}
use Rattle.nm_journal.proofs.Reopen.{not_memory}
use Rattle.nm_journal.proofs.journal.read_disk.Goals as goal

pub returns-in-Err-clause-damaged : goal.returns-in-Err-clause-damaged
returns-in-Err-clause-damaged g c = λ offset is. let same : c.in-Err.fault ≡ Damaged offset = cc in c.in-Err.ensures.damaged_some offset (ap Err same)

pub returns-in-Err-clause-no_memory : goal.returns-in-Err-clause-no_memory
returns-in-Err-clause-no_memory g c = λ is. let memory : c.in-Err.fault ≡ NoMemory = cc in absurd (not_memory c.in-Err.fault c.in-Err.ensures.no_other memory)

pub returns-in-Err-clause-no_other : goal.returns-in-Err-clause-no_other
returns-in-Err-clause-no_other g c = inl c.in-Err.ensures.no_other
