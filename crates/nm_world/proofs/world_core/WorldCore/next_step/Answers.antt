use Rattle.std.proofs.Common.{ap, ◌∙◌, length}
use Rattle.nm_world.specs.Drain.{drain_of}
use Rattle.nm_world.proofs.world_core.WorldCore.next_step.Goals as goal

pub returns : goal.returns
returns g c =
    let manager = c.self.inside.manager in
    rw (← c.self.view_is) (c.next_step.ensures
    ∙ ap (λ devices. drain_of devices manager.state (length manager.plans) c.deref-2.result.now) c.deref.ensures.value
    ∙ ap (λ operators. drain_of c.self.inside.devices.items manager.state (length manager.plans) operators) c.deref-2.ensures.value)
