use Rattle.std.proofs.Common.{◌≡◌}
use Rattle.nm_config.specs.Rows.{with_entries}
use Rattle.nm_edit.proofs.bring.put_rows.Given as goal

abbrev pub invariant-loop-path : goal.invariant-loop-path
invariant-loop-path g l = record {
  left : with_entries (g.M.RowMap.rows l.config) l.path-iterator.rest.items ≡ with_entries (g.M.RowMap.rows l.fn.config) l.fn.rows.items;
  base : g.M.RowMap.base l.config ≡ g.M.RowMap.base l.fn.config;
}
