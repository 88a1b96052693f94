use Rattle.std.proofs.Common.{◌≡◌, ◌++◌, length}
use Rattle.nm_scenario.specs.Changes.{plans_from, edits_of}
use Rattle.nm_scenario.proofs.numbering.with_numbers.Given as goal

-- what was numbered and what is left make the whole
abbrev pub invariant-loop-read : goal.invariant-loop-read
invariant-loop-read g l =
    (l.changes ++ plans_from (length l.edits) l.reads ≡ plans_from 0 l.fn.reads)
    × (l.edits ++ edits_of l.reads ≡ edits_of l.fn.reads)

abbrev pub decreases-loop-read : goal.decreases-loop-read
decreases-loop-read g l = length l.reads
