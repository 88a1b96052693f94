use Rattle.nm_schema_names.specs.Clash.{AreHolders}
use Rattle.nm_schema_names.proofs.claims.holders_of.Given as goal

abbrev pub invariant-loop-at : goal.invariant-loop-at
invariant-loop-at l = AreHolders l.rows l.at l.holders.items
