use Rattle.std.proofs.Common.{subst}
use Rattle.nm_world.specs.World.{SetupState, AreSound}
use Rattle.nm_world.proofs.world_core.WorldCore.new.Goals as goal

pub invariant_of-result : goal.invariant_of-result
invariant_of-result g c = (
  subst (λ (u : SetupState _ _ _). AreSound (g.C.Content.meaning u.content) c.in_ok-devices.devices.items) c.deref-setup.ensures c.in_ok-devices.ensures.sound,
  c.in_ok-devices.ensures.few,
)
