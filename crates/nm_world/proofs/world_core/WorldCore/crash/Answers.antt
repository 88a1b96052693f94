use Rattle.std.proofs.Common.{◌≡◌, ◌∙◌, refl, sym, ap, Err, rules}
use Rattle.nm_world.specs.World.{CoreValue, core_journal}
use Rattle.nm_world.proofs.Crashing.{same_fault, same_read, crash_moment}
use Rattle.nm_world.proofs.world_core.WorldCore.crash.Goals as goal

pub returns-in_err-recover-clause-damaged : goal.returns-in_err-recover-clause-damaged
returns-in_err-recover-clause-damaged g c =
    let why = c.in_err-recover.field-0.0 in
    let failed : c.from_residual.result ≡ Err why = search rules in
    rw (← c.self.view_is) (λ offset is. c.in_err-recover.ensures.damaged offset (ap Err (same_fault c.from_residual.result why _ failed is)))

pub returns-in_err-recover-clause-any_moment : goal.returns-in_err-recover-clause-any_moment
returns-in_err-recover-clause-any_moment g c =
    crash_moment (core_journal c.args.self.now) (g.D.Disk.state c.args.disk.now) (g.D.Disk.state c.recover.new.disk)
    (g.D.Disk.state c.args.disk.now).contents refl c.requires.whole c.requires.fits (g.met.D.Disk.as_read c.args.disk.now) c.recover.ensures.any_moment

pub returns-clause-straight : goal.returns-clause-straight
returns-clause-straight g c = λ there.
    let same = same_read (core_journal c.args.self.now) (g.D.Disk.state c.args.disk.now) (g.D.Disk.state c.args.disk.now).contents
    c.recover.new.self.state.entries refl c.requires.whole c.requires.fits (g.met.D.Disk.as_read c.args.disk.now) c.in_ok-recover.ensures.read there in
    let read : c.entries-2.result.now ≡ c.as_slice.result.now =
    c.entries-2.ensures.value ∙ same ∙ ap (λ (w : CoreValue _ _ _ _). w.state.entries) (sym c.self.view_is) ∙ sym c.entries.ensures.value ∙ sym c.in-Ok.ensures ∙ sym c.as_slice.ensures.value in
    c.diverges_now-self-inside.ensures.same read ∙ ap (λ (w : CoreValue _ _ _ _). w.state.has_diverged) c.self.view_is

pub returns-clause-any_moment : goal.returns-clause-any_moment
returns-clause-any_moment g c =
    crash_moment (core_journal c.args.self.now) (g.D.Disk.state c.args.disk.now) (g.D.Disk.state c.recover.new.disk)
    (g.D.Disk.state c.args.disk.now).contents refl c.requires.whole c.requires.fits (g.met.D.Disk.as_read c.args.disk.now) c.recover.ensures.any_moment

pub returns-clause-same : goal.returns-clause-same
returns-clause-same g c = λ is.
    let read : c.entries-2.result.now ≡ c.as_slice.result.now =
    c.entries-2.ensures.value ∙ is ∙ ap (λ (w : CoreValue _ _ _ _). w.state.entries) (sym c.self.view_is) ∙ sym c.entries.ensures.value ∙ sym c.in-Ok.ensures ∙ sym c.as_slice.ensures.value in
    c.diverges_now-self-inside.ensures.same read ∙ ap (λ (w : CoreValue _ _ _ _). w.state.has_diverged) c.self.view_is
