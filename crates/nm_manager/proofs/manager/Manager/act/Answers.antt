use Rattle.nm_manager.specs.Manager.{journal_of}
use Rattle.nm_manager.proofs.Moments.{still_reads}
use Rattle.nm_manager.proofs.manager.Manager.act.Goals as goal

pub returns-in-Wait-clause-any_moment : goal.returns-in-Wait-clause-any_moment
returns-in-Wait-clause-any_moment g c =
    still_reads (journal_of c.args.self.now) (g.D.Disk.state c.args.disk.now) _
    c.requires.whole c.requires.fits (g.met.D.Disk.only_now c.args.disk.now)

pub returns-in-Ok-clause-any_moment : goal.returns-in-Ok-clause-any_moment
returns-in-Ok-clause-any_moment g c =
    still_reads (journal_of c.args.self.now) (g.D.Disk.state c.args.disk.now) _
    c.requires.whole c.requires.fits (g.met.D.Disk.only_now c.args.disk.now)

pub returns-in-Err-clause-any_moment : goal.returns-in-Err-clause-any_moment
returns-in-Err-clause-any_moment g c =
    still_reads (journal_of c.args.self.now) (g.D.Disk.state c.args.disk.now) _
    c.requires.whole c.requires.fits (g.met.D.Disk.only_now c.args.disk.now)
