use Rattle.std.proofs.Common.{sym, subst}
use Rattle.nm_journal.specs.Fits.{Fits}
use Rattle.nm_manager.specs.Manager.{submitted}
use Rattle.nm_world.specs.World.{CoreValue, core_journal}
use Rattle.nm_world.proofs.Staging.{by_so}
use Rattle.nm_world.proofs.world_core.WorldCore.submit.Goals as goal

pub submit-requires-clause-fits : goal.submit-requires-clause-fits
submit-requires-clause-fits g c =
    subst (λ (w : CoreValue _ _ _ _). Fits (core_journal w) (g.D.Disk.state c.args.disk.now)) (sym c.self.view_is) c.requires.fits

pub returns-clause-came : goal.returns-clause-came
returns-clause-came g c =
    let s = c.self.inside in
    rw (← c.self.view_is) (by_so s.setup.value s.has_diverged c.happened_of.result s.devices.items s.operators.items s.manager c.submit.new.self
    (submitted s.manager.plans s.manager.state c.args.change) c.in_ok-action.action c.in_ok-action.ensures.stepped c.in_ok-action.ensures.others c.happened_of.ensures)

pub returns-clause-any_moment : goal.returns-clause-any_moment
returns-clause-any_moment g c = rw (← c.self.view_is) c.submit.ensures.any_moment

pub returns-in_err-action-clause-any_moment : goal.returns-in_err-action-clause-any_moment
returns-in_err-action-clause-any_moment g c = rw (← c.self.view_is) c.submit.ensures.any_moment
