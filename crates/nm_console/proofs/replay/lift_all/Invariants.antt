use Rattle.std.proofs.Common.{◌≡◌, ◌++◌, length, map}
use Rattle.std.specs.List.{All}
use Rattle.nm_content.specs.Meaning.{lifted}
use Rattle.nm_scenario_laws.specs.Kept.{DataKeeps}
use Rattle.nm_console.proofs.replay.lift_all.Given as goal

-- what was lifted and what is left make the whole
abbrev pub invariant-loop-device : goal.invariant-loop-device
invariant-loop-device l = record {
  whole : l.begun ++ map lifted l.devices ≡ map lifted l.fn.devices;
  left : All (DataKeeps l.content) l.devices;
}

abbrev pub decreases-loop-device : goal.decreases-loop-device
decreases-loop-device l = length l.devices
