use Rattle.std.proofs.Common.{◌-◌, ◌∙◌, slice_get, ap}
use Rattle.nm_world.specs.World.{operator_at, session_by}
use Rattle.nm_world.proofs.world_core.WorldCore.operator_session.Goals as goal

pub returns : goal.returns
returns g c =
    let place = c.args.device - 1 in
    rw (← c.self.view_is) (c.session_of.ensures
    ∙ ap (λ devices. session_by place (operator_at c.deref-2.result.now c.args.number) (slice_get devices place)) c.deref.ensures.value
    ∙ ap (λ operators. session_by place (operator_at operators c.args.number) (slice_get c.self.inside.devices.items place)) c.deref-2.ensures.value)
