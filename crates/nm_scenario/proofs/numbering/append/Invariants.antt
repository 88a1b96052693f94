use Rattle.std.proofs.Common.{◌≡◌, ◌++◌, map, length}
use Rattle.nm_scenario.proofs.numbering.append.Given as goal

-- what was appended and what is left make the whole
abbrev pub invariant-loop-read : goal.invariant-loop-read
invariant-loop-read g l = l.edits ++ map (λ e. e.edit) l.reads ≡ l.fn.edits ++ map (λ e. e.edit) l.fn.reads

abbrev pub decreases-loop-read : goal.decreases-loop-read
decreases-loop-read g l = length l.reads
