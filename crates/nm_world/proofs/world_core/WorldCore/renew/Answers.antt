use Rattle.nm_manager.specs.Manager.{renewed}
use Rattle.nm_world.proofs.Staging.{by_so}
use Rattle.nm_world.proofs.world_core.WorldCore.renew.Goals as goal

pub returns-clause-came : goal.returns-clause-came
returns-clause-came g c =
    let s = c.self.inside in
    rw (← c.self.view_is) (by_so s.setup.value s.has_diverged c.happened_of.result s.devices.items s.operators.items s.manager c.renew.new.self
    (renewed s.manager.plans s.manager.state c.args.change c.args.device) c.in_ok-action.action
    c.in_ok-action.ensures.stepped c.in_ok-action.ensures.others c.happened_of.ensures)
