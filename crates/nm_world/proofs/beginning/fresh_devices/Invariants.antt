use Rattle.std.proofs.Common.{◌≡◌, map, take}
use Rattle.nm_history.specs.History.{recorded}
use Rattle.nm_world.proofs.beginning.fresh_devices.Given as goal

-- the devices so far
abbrev pub invariant-loop-config : goal.invariant-loop-config
invariant-loop-config g l = l.devices.items ≡ map recorded (take l.config-index l.first_configs)
