use Rattle.std.proofs.Common.{◌≡◌, drop}
use Rattle.nm_schema_statements.specs.Rows.{first_with}
use Rattle.nm_schema_statements.proofs.rows.Rows.first_with.Given as goal

abbrev pub invariant-loop-number : goal.invariant-loop-number
invariant-loop-number l = first_with l.self l.wanted l.numbers ≡ first_with l.self l.wanted (drop l.number-index l.numbers)
