use Rattle.nm_manager.specs.Manager.{forgotten}
use Rattle.nm_world.proofs.Staging.{by_so}
use Rattle.nm_world.proofs.world_core.WorldCore.forget.Goals as goal

pub returns-clause-came : goal.returns-clause-came
returns-clause-came g c =
    let s = c.self.inside in
    rw (← c.self.view_is) (by_so s.setup.value s.has_diverged c.happened_of.result s.devices.items s.operators.items s.manager c.forget-action.new.self
    (forgotten s.manager.plans s.manager.state c.args.change) c.forget-action.result c.forget-action.ensures.stepped c.forget-action.ensures.others c.happened_of.ensures)
