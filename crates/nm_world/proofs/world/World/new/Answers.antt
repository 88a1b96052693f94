use Rattle.std.proofs.Common.{ap, sym, subst}
use Rattle.std.specs.Arc.{arc_value}
use Rattle.nm_world.specs.Runs.{HasTime}
use Rattle.nm_world.specs.World.{CoreValue}
use Rattle.nm_world.proofs.Clocks.{fresh_time}
use Rattle.nm_world.proofs.world.World.new.Goals as goal

pub returns-clause-in_time : goal.returns-clause-in_time
returns-clause-in_time g c = λ seconds enough.
    subst (HasTime seconds) (sym (ap (λ (s : CoreValue _ _ _ _). s.state.devices) c.in_ok-core.ensures)) (fresh_time seconds (arc_value c.args.setup).first_configs enough)
