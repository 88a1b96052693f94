use Rattle.std.proofs.Common.{length}
use Rattle.nm_schema_uses.proofs.Graphs.{IsDrawn}
use Rattle.nm_schema_names.specs.Clash.{claiming_to}
use Rattle.nm_schema_names.proofs.claims.named_claims.Given as goal

abbrev pub invariant-loop-at : goal.invariant-loop-at
invariant-loop-at l = IsDrawn (claiming_to l.rows l.groupings 0) (length l.rows) l.graph.items l.at
