use Rattle.nm_schema_faults.proofs.Marking.{AreMarked}
use Rattle.nm_schema_faults.proofs.grounds.Grounds.misfits.Given as goal

-- the nodes so far are marked
abbrev pub invariant-loop-number : goal.invariant-loop-number
invariant-loop-number l = AreMarked l.self.rows l.self.facts l.number l.marks.items
