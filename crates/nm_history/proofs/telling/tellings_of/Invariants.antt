use Rattle.std.proofs.Common.{◌≡◌, ◌++◌, drop}
use Rattle.nm_history.proofs.telling.tellings_of.Given as goal

-- those so far and those that are left are all
abbrev pub invariant-loop-device : goal.invariant-loop-device
invariant-loop-device g l = l.tellings.items ++ drop l.device-index l.devices ≡ l.fn.devices
