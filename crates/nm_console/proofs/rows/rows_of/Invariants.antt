use Rattle.std.proofs.Common.{◌≡◌, ◌++◌, drop, map}
use Rattle.nm_console.specs.Rows.{rows_told}
use Rattle.nm_console.proofs.rows.rows_of.Given as goal

-- the counts so far and those that are left make all
abbrev pub invariant-loop-device : goal.invariant-loop-device
invariant-loop-device g l = l.rows.items ++ map (rows_told (g.C.Content.meaning l.fn.content)) (drop l.device-index l.devices) ≡ map (rows_told (g.C.Content.meaning l.fn.content)) l.fn.devices
