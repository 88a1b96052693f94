use Rattle.std.proofs.Common.{◌≡◌, None, map}
use Rattle.std.specs.List.{range_with_len}
use Rattle.nm_schema_faults.specs.Fault.{first_some, fault_at}
use Rattle.nm_schema_faults.proofs.grounds.Grounds.first_fault.Given as goal

-- no row so far has a fault
abbrev pub invariant-loop-at : goal.invariant-loop-at
invariant-loop-at l = first_some (map (fault_at l.self.rows l.self.facts) (range_with_len 0 l.at)) ≡ None
