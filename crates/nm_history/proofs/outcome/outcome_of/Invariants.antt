use Rattle.std.proofs.Common.{◌≡◌, drop}
use Rattle.nm_history.specs.Outcome.{standing_from, outcome_of}
use Rattle.nm_history.proofs.outcome.outcome_of.Given as goal

-- the entries that are left lead from here to where all of them lead
abbrev pub invariant-loop-entry : goal.invariant-loop-entry
invariant-loop-entry l =
    (standing_from l.token (record { outcome = l.standing.outcome; other = l.standing.other }) (drop l.entry-index l.history)).outcome
    ≡ outcome_of l.fn.token l.fn.history
