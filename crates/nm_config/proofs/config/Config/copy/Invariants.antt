use Rattle.std.proofs.Common.{◌≡◌}
use Rattle.nm_config.specs.Rows.{with_entries}
use Rattle.nm_config.proofs.config.Config.copy.Given as goal

abbrev pub invariant-loop-path : goal.invariant-loop-path
invariant-loop-path l = with_entries l.copied l.path-iterator ≡ l.self
