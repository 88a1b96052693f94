use Rattle.std.proofs.Common.{◌≡◌, map, take}
use Rattle.nm_schema_typing.specs.Restricting as spec
use Rattle.nm_schema_typing.proofs.restricting.listed_of.Given as goal

abbrev pub invariant-loop-at : goal.invariant-loop-at
invariant-loop-at l = l.listed.items ≡ map (spec.listed_at l.rows l.number) (take l.at-index l.numbers)
