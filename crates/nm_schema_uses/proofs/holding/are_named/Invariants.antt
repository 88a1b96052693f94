use Rattle.std.proofs.Common.{All, take}
use Rattle.nm_schema_uses.proofs.Graphs.{IsNamed}
use Rattle.nm_schema_uses.proofs.holding.are_named.Given as goal

abbrev pub invariant-loop-grouping : goal.invariant-loop-grouping
invariant-loop-grouping l = All (IsNamed l.rows) (take l.grouping-index l.groupings)
