use Rattle.nm_flat.specs.FlatContent.{flat_meaning}
use Rattle.nm_device.specs.Device.{IsSound}
use Rattle.nm_device_tests.proofs.device.follower.Given as goal

-- the device stays one with which the content may go on
abbrev pub invariant-loop-entry : goal.invariant-loop-entry
invariant-loop-entry g l = IsSound flat_meaning l.device.device
