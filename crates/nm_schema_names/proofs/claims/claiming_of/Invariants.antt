use Rattle.nm_schema_names.specs.Clash.{AreClaiming}
use Rattle.nm_schema_names.proofs.claims.claiming_of.Given as goal

abbrev pub invariant-loop-at : goal.invariant-loop-at
invariant-loop-at l = AreClaiming l.rows l.groupings l.at l.graph.items
