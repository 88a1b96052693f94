use Rattle.std.proofs.Common.{◌≡◌}
use Rattle.nm_config.specs.Rows.{with_entries}
use Rattle.nm_undo.proofs.front.put_all.Given as goal

abbrev pub invariant-loop-path : goal.invariant-loop-path
invariant-loop-path l = with_entries l.nodes l.path-iterator.rest.items ≡ with_entries l.fn.nodes l.fn.said.items
