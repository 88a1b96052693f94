use Rattle.nm_schema_faults.proofs.Defining.{AreDefined}
use Rattle.nm_schema_faults.proofs.names.definitions.Given as goal

-- the definitions so far
abbrev pub invariant-loop-at : goal.invariant-loop-at
invariant-loop-at l = AreDefined l.names l.at l.found.items
