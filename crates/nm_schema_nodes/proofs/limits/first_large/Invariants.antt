use Rattle.std.proofs.Common.{◌≡◌, ◌≤◌, length}
use Rattle.nm_schema_statements.specs.Rows.{roots}
use Rattle.nm_schema_nodes.specs.Expansion.{counts_before, is_large, first_large}
use Rattle.nm_schema_nodes.proofs.Bounds.{from}
use Rattle.nm_schema_nodes.proofs.limits.first_large.Given as goal

-- the modules so far are small, and their nodes are counted
abbrev pub invariant-loop-owner : goal.invariant-loop-owner
invariant-loop-owner l = record {
  few : l.total ≤ 20000;
  total : l.total ≡ counts_before l.shape.rows l.shape.groupings l.owner;
  rest : from (is_large l.shape.rows l.shape.groupings) l.owner (length (roots l.shape.rows)) ≡ first_large l.shape.rows l.shape.groupings;
}
