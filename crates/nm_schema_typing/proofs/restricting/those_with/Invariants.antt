use Rattle.std.proofs.Common.{◌≡◌, ◌++◌, drop}
use Rattle.nm_schema_typing.specs.Restricting as spec
use Rattle.nm_schema_typing.proofs.restricting.those_with.Given as goal

-- the rows so far, before those that are left
abbrev pub invariant-loop-number : goal.invariant-loop-number
invariant-loop-number l = l.found.items ++ spec.those_with l.rows l.wanted (drop l.number-index l.numbers) ≡ spec.those_with l.rows l.wanted l.numbers
