use Rattle.nm_manager.specs.Manager.{broken}
use Rattle.nm_world.proofs.Staging.{by_so}
use Rattle.nm_world.proofs.world_core.WorldCore.break_link.Goals as goal

pub returns-clause-came : goal.returns-clause-came
returns-clause-came g c =
    let s = c.self.inside in
    rw (← c.self.view_is) (by_so s.setup.value s.has_diverged c.happened_of.result s.devices.items s.operators.items s.manager c.break_link-action.new.self
    (broken s.manager.state c.args.change c.args.device) c.break_link-action.result c.break_link-action.ensures.stepped c.break_link-action.ensures.others c.happened_of.ensures)
