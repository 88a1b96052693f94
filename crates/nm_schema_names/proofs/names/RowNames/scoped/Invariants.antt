use Rattle.std.proofs.Common.{◌≡◌}
use Rattle.nm_schema_names.specs.Leads.{enclosing_within, innermost, scoped}
use Rattle.nm_schema_names.proofs.names.RowNames.scoped.Given as goal

-- what is left to look at finds what all of it does
abbrev pub invariant-loop-steps : goal.invariant-loop-steps
invariant-loop-steps l = scoped l.self l.at l.word l.name ≡ innermost l.self l.word l.name (enclosing_within l.steps l.self l.scope)

abbrev pub decreases-loop-steps : goal.decreases-loop-steps
decreases-loop-steps l = l.steps
