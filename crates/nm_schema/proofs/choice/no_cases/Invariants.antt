use Rattle.std.proofs.Common.{◌≡◌, None, replicate}
use Rattle.nm_schema.proofs.choice.no_cases.Given as goal

abbrev pub invariant-loop-at : goal.invariant-loop-at
invariant-loop-at l = l.case_in.items ≡ replicate l._at None
