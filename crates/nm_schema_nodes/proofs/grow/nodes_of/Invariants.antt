use Rattle.std.proofs.Common.{◌-◌, length}
use Rattle.nm_schema_statements.specs.Rows.{roots}
use Rattle.nm_schema_nodes.specs.Growing.{IsGrowing}
use Rattle.nm_schema_nodes.proofs.grow.nodes_of.Given as goal

abbrev pub invariant-loop-next : goal.invariant-loop-next
invariant-loop-next l = IsGrowing l.shape.rows l.shape.groupings (length (roots l.shape.rows)) l.next l.nodes.items

abbrev pub decreases-loop-next : goal.decreases-loop-next
decreases-loop-next l = 20000 - l.next
