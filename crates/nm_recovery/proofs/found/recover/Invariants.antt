use Rattle.std.proofs.Common.{◌≡◌, take}
use Rattle.std.specs.List.{flat_map}
use Rattle.nm_recovery.specs.Recovery.{found_by}
use Rattle.nm_recovery.proofs.found.recover.Given as goal

-- what the entries so far start
abbrev pub invariant-loop-entry : goal.invariant-loop-entry
invariant-loop-entry l = l.found.items ≡ flat_map (found_by l.entries) (take l.entry-index l.entries)
