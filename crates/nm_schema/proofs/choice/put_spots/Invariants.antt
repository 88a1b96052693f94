use Rattle.std.proofs.Common.{◌≡◌, drop}
use Rattle.nm_schema.specs.Choices as spec
use Rattle.nm_schema.proofs.choice.put_spots.Given as goal

-- the nodes that are left get their cases
abbrev pub invariant-loop-at : goal.invariant-loop-at
invariant-loop-at l = spec.with_spots l.case_in.items (drop l.at l.nodes) (drop l.at l.spots) l.cases ≡ spec.with_spots l.fn.case_in.items l.nodes l.spots l.cases
