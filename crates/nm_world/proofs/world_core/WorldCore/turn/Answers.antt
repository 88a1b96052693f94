use Rattle.std.proofs.Common.{◌≡◌, sym, subst, Err, rules}
use Rattle.nm_journal.specs.Fits.{Fits}
use Rattle.nm_manager.specs.Manager.{entry_turned, turned}
use Rattle.nm_world.specs.World.{CoreValue, core_journal, turning}
use Rattle.nm_world.proofs.Failing.{turn_fails}
use Rattle.nm_world.proofs.Staging.{by_so, core_value}
use Rattle.nm_world.proofs.world_core.WorldCore.turn.Goals as goal

pub turn-requires-clause-fits : goal.turn-requires-clause-fits
turn-requires-clause-fits g c =
    subst (λ (w : CoreValue _ _ _ _). Fits (core_journal w) (g.D.Disk.state c.args.disk.now)) (sym c.self.view_is) c.requires.fits

pub returns-clause-came : goal.returns-clause-came
returns-clause-came g c =
    let s = c.self.inside in
    rw (← c.self.view_is) (by_so s.setup.value s.has_diverged c.happened_of.result s.devices.items s.operators.items s.manager c.turn.new.self
    (turned s.manager.plans s.manager.state c.args.change) c.in_ok-action.action
    c.in_ok-action.ensures.stepped c.in_ok-action.ensures.others c.happened_of.ensures)

pub returns-clause-any_moment : goal.returns-clause-any_moment
returns-clause-any_moment g c = rw (← c.self.view_is) c.turn.ensures.any_moment

pub returns-in_err-action-clause-any_moment : goal.returns-in_err-action-clause-any_moment
returns-in_err-action-clause-any_moment g c = rw (← c.self.view_is) c.turn.ensures.any_moment

pub returns-in_err-action-clause-came : goal.returns-in_err-action-clause-came
returns-in_err-action-clause-came g c =
    let s = c.self.inside in
    let failed : c.from_residual.result ≡ Err c.in_err-action.field-0.0 = search rules in
    rw (← c.self.view_is) (turn_fails s.setup.value s.has_diverged s.devices.items s.operators.items c.from_residual.result c.in_err-action.field-0.0
    (entry_turned s.manager.state c.args.change) s.manager c.turn.new.self (turning s.manager.plans (core_value s.setup.value s.has_diverged s.manager s.devices.items s.operators.items).state c.args.change)
    failed c.in_err-action.ensures.no_other (λ is. (c.in_err-action.ensures.no_memory is).0) c.in_err-action.ensures.failed)
