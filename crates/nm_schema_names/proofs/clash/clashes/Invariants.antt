use Rattle.std.proofs.Common.{◌≡◌}
use Rattle.nm_schema_names.specs.Clash.{AreTaken, known_at, knowledge, clash_by}
use Rattle.nm_schema_uses.specs.Worth.{AreWorth}
use Rattle.nm_schema_names.proofs.clash.clashes.Given as goal

abbrev pub invariant-loop-at : goal.invariant-loop-at
invariant-loop-at l = record {
  same : l.known ≡ knowledge l.rows l.brought;
  taken : AreTaken (knowledge l.rows l.brought) l.at l.taken.items;
  found : AreWorth (clash_by (known_at l.brought) l.rows) l.at l.clashes.items;
}
