use Rattle.std.proofs.Common.{◌≡◌, ◌++◌, drop, map}
use Rattle.nm_console.specs.Rows.{data_rows_told}
use Rattle.nm_console.proofs.rows.data_rows_of.Given as goal

-- the counts so far and those that are left make all
abbrev pub invariant-loop-device : goal.invariant-loop-device
invariant-loop-device l = l.rows.items ++ map data_rows_told (drop l.device-index l.devices) ≡ map data_rows_told l.fn.devices
