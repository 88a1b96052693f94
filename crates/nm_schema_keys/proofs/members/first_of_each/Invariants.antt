use Rattle.std.proofs.Common.{◌≤◌, length, drop}
use Rattle.nm_schema_keys.specs.Membership.{Leads}
use Rattle.nm_schema_keys.proofs.members.first_of_each.Given as goal

-- the map leads to the first of the nodes from here on for each name
abbrev pub invariant-loop-at : goal.invariant-loop-at
invariant-loop-at l = record {
  within : l.at ≤ length l.nodes;
  first : Leads l.names (drop l.at l.nodes) l.first;
}

abbrev pub decreases-loop-at : goal.decreases-loop-at
decreases-loop-at l = l.at
