use Rattle.std.proofs.Common.{◌≡◌, ◌++◌, map}
use Rattle.std.specs.Vec.Iter.{into_iter_items, into_iter_len}
use Rattle.nm_scenario.specs.Head.{text_of, statement_of}
use Rattle.nm_scenario.proofs.head.parts_of.Given as goal

-- what was parted and what is left make the whole
abbrev pub invariant-loop-module : goal.invariant-loop-module
invariant-loop-module l =
    (l.texts ++ map text_of (into_iter_items l.rest) ≡ map text_of l.fn.modules)
    × (l.statements ++ map statement_of (into_iter_items l.rest) ≡ map statement_of l.fn.modules)

abbrev pub decreases-loop-module : goal.decreases-loop-module
decreases-loop-module l = into_iter_len l.rest
