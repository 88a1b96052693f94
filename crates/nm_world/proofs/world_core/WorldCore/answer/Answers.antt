use Rattle.nm_manager.specs.Manager.{received}
use Rattle.nm_world.proofs.Staging.{by_so}
use Rattle.nm_world.proofs.world_core.WorldCore.answer.Goals as goal

pub returns-clause-came : goal.returns-clause-came
returns-clause-came g c =
    let s = c.self.inside in
    rw (← c.self.view_is) (by_so s.setup.value s.has_diverged c.happened_of.result s.devices.items s.operators.items s.manager c.receive-action.new.self
    (received s.manager.state c.args.change c.args.device c.args.link c.args.number) c.receive-action.result c.receive-action.ensures.stepped c.receive-action.ensures.others c.happened_of.ensures)
