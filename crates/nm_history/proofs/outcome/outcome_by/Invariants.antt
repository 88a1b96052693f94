use Rattle.std.proofs.Common.{◌≡◌, drop, map}
use Rattle.nm_history.specs.Outcome.{standing_from, outcome_of}
use Rattle.nm_history.proofs.outcome.outcome_by.Given as goal

-- the entries that are left lead from here to where all of them lead
abbrev pub invariant-loop-entry : goal.invariant-loop-entry
invariant-loop-entry l =
    (standing_from l.token (record { outcome = l.standing.outcome; other = l.standing.other }) (map (λ entry. entry.now) (drop l.entry-index l.entries))).outcome
    ≡ outcome_of l.fn.token (map (λ entry. entry.now) l.fn.entries)
