use Rattle.std.proofs.Common.{◌≡◌, ◌++◌}
use Rattle.nm_config.specs.Under.{rows_under}
use Rattle.nm_config.proofs.Ranges.{IsTail}
use Rattle.nm_config.proofs.config.copies_under.Given as goal

abbrev pub invariant-loop-path : goal.invariant-loop-path
invariant-loop-path l = record {
  copied : l.copies.items ++ rows_under l.node l.path-iterator ≡ rows_under l.node l.tree.entries;
  tail : IsTail l.node l.path-iterator;
}
