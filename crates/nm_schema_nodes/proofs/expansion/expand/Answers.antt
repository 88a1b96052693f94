use Rattle.nm_schema_nodes.proofs.Indexing.{parents-all, owners-all}
use Rattle.nm_schema_nodes.proofs.expansion.expand.Goals as goal

pub index_of-requires-clause-parents : goal.index_of-requires-clause-parents
index_of-requires-clause-parents c = rw c.deref.ensures.value (parents-all c.args.shape.now.rows c.args.shape.now.groupings c.in_ok-nodes.nodes.items c.in_ok-nodes.ensures)

pub index_of-requires-clause-owners : goal.index_of-requires-clause-owners
index_of-requires-clause-owners c = rw (c.deref.ensures.value, c.roots.ensures, c.rows.ensures) (owners-all c.args.shape.now.rows c.args.shape.now.groupings c.in_ok-nodes.nodes.items c.in_ok-nodes.ensures)
