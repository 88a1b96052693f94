use Rattle.nm_schema_nodes.specs.Growing.{IsGrowing}
use Rattle.nm_schema_nodes.proofs.grow.seeds.Given as goal

abbrev pub invariant-loop-owner : goal.invariant-loop-owner
invariant-loop-owner l = IsGrowing l.shape.rows l.shape.groupings l.owner 0 l.nodes.items
