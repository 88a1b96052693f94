use Rattle.std.proofs.Common.{◌≡◌}
use Rattle.nm_schema.specs.Node.{AreNodes}
use Rattle.nm_schema.proofs.tree.put_nodes.Given as goal

-- the nodes so far are put
abbrev pub invariant-loop-number : goal.invariant-loop-number
invariant-loop-number l = record {
  put : AreNodes l.grounds.rows l.grounds.facts l.number l.schema.nodes;
  modules : l.schema.modules ≡ l.fn.schema.modules;
  choices : l.schema.choices ≡ l.fn.schema.choices;
  cases : l.schema.cases ≡ l.fn.schema.cases;
}
