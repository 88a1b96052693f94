use Rattle.std.proofs.Common.{◌≡◌, Err}
use Rattle.nm_journal.specs.declared.fault.JournalFault.TheVariants.{Damaged}
use Rattle.nm_console.proofs.Journals.{damaged_told}
use Rattle.nm_console.proofs.journal.journal_answer.Goals as goal

pub returns-in-Err-Damaged-clause-told : goal.returns-in-Err-Damaged-clause-told
returns-in-Err-Damaged-clause-told g c =
    let is : c.read_disk.result ≡ Err (Damaged c.in-Err-Damaged.offset) = cc in
    damaged_told (g.D.Disk.state c.args.disk.now).contents c.in-Err-Damaged.offset c.say_damaged.result (c.read_disk.ensures.damaged c.in-Err-Damaged.offset is) c.say_damaged.ensures.told
