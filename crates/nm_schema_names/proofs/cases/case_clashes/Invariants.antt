use Rattle.nm_schema_uses.specs.Worth.{AreWorth}
use Rattle.nm_schema_names.specs.Clash.{AreCasesTaken, case_clash}
use Rattle.nm_schema_names.proofs.cases.case_clashes.Given as goal

abbrev pub invariant-loop-at : goal.invariant-loop-at
invariant-loop-at l = record {
  taken : AreCasesTaken l.rows l.at l.taken.items;
  found : AreWorth (case_clash l.rows) l.at l.clashes.items;
}
