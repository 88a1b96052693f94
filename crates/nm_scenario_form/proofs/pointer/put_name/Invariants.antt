use Rattle.std.proofs.Common.{◌≡◌, ◌++◌, ◌≤◌, length, take, drop}
use Rattle.std.specs.List.{flat_map}
use Rattle.nm_scenario_form.specs.Pointer.{escaped}
use Rattle.nm_scenario_form.proofs.pointer.put_name.Given as goal

-- what is left goes on from what was written
abbrev pub invariant-loop-byte : goal.invariant-loop-byte
invariant-loop-byte l = record {
  short : length l.front.items ≤ l.room;
  goes_on : take l.room (l.front.items ++ flat_map escaped (drop l.byte-index l.name)) ≡ take l.room (l.fn.front.items ++ flat_map escaped l.name);
}
