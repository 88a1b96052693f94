use Rattle.std.proofs.Common.{◌≡◌, ◌+◌, replicate}
use Rattle.nm_chronicle.proofs.reserve.cells_of.Given as goal

-- the shares so far, and the parts that are left
abbrev pub invariant-loop-made : goal.invariant-loop-made
invariant-loop-made g l = (l.cells.items ≡ replicate l.made 0) × (l.rest.parts + l.made ≡ l.initial.rest.parts) × (l.rest.amount ≡ 0)
