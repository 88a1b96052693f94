use Rattle.std.proofs.Common.{◌≡◌, ◌+◌, replicate}
use Rattle.nm_chronicle.specs.Shares.{fresh_slot}
use Rattle.nm_chronicle.proofs.reserve.slots_of.Given as goal

-- the slots so far, and the parts that are left
abbrev pub invariant-loop-made : goal.invariant-loop-made
invariant-loop-made g l = (l.slots.items ≡ replicate l.made fresh_slot) × (l.rest.parts + l.made ≡ l.initial.rest.parts) × (l.rest.amount ≡ 0)
