use Rattle.std.proofs.Common.{◌≡◌, drop}
use Rattle.nm_config.specs.Under as under
use Rattle.nm_config.proofs.under.is_under.Given as goal

abbrev pub invariant-loop-depth : goal.invariant-loop-depth
invariant-loop-depth l = record {
  items : l.step-items ≡ l.node;
  rest : under.is_under (drop l.depth l.node) (drop l.depth l.path) ≡ under.is_under l.node l.path;
}
