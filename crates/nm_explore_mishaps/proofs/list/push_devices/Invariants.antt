use Rattle.std.proofs.Common.{◌≡◌, ◌++◌, ◌+◌, ◌-◌}
use Rattle.nm_explore_mishaps.specs.Mishaps.{each_device}
use Rattle.nm_explore_mishaps.proofs.list.push_devices.Given as goal

-- what is listed and what is left make all
abbrev pub invariant-loop-place : goal.invariant-loop-place
invariant-loop-place l = l.all ++ each_device l.plans (l.place + 1) (l.devices - l.place) ≡ l.fn.all ++ each_device l.plans 1 l.devices
