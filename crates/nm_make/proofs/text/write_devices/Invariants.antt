use Rattle.std.proofs.Common.{◌≡◌, ◌++◌, ◌-◌}
use Rattle.nm_make.specs.Made.{numbered, device_text}
use Rattle.nm_make.proofs.text.write_devices.Given as goal

-- what is written and what is left make all
abbrev pub invariant-loop-device : goal.invariant-loop-device
invariant-loop-device l = l.out.items ++ numbered (device_text) l.device (33 - l.device) ≡ l.initial.out.items ++ numbered device_text 1 32
