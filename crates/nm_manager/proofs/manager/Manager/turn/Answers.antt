use Rattle.std.proofs.Common.{◌≡◌, None, false, sym, ap, ◌∙◌}
use Rattle.nm_manager.specs.Manager.{Managing, journal_of}
use Rattle.nm_manager.proofs.Moments.{still_reads}
use Rattle.nm_manager.proofs.manager.Manager.turn.Goals as goal

pub returns-then-not-is_ready-clause-any_moment : goal.returns-then-not-is_ready-clause-any_moment
returns-then-not-is_ready-clause-any_moment g c =
    let going : c.self.inside.journal_queues.has_failed ≡ false = ap (λ (m : Managing). m.has_failed) c.self.view_is ∙ c.requires.going in
    let whole : c.args.self.now.failed ≡ None = sym (ap (λ (m : Managing). m.failed) c.self.view_is) ∙ c.is_ready.ensures.whole going in
    still_reads (journal_of c.args.self.now) (g.D.Disk.state c.args.disk.now) _
    whole c.requires.fits (g.met.D.Disk.only_now c.args.disk.now)
