use Rattle.std.proofs.Common.{subst}
use Rattle.nm_graph.specs.Graph.{Graph}
use Rattle.nm_graph.specs.Value.{strict, Holds}
use Rattle.nm_schema_nodes.specs.Choices.{fork_step}
use Rattle.nm_schema_nodes.proofs.Forked.{are-forked}
use Rattle.nm_schema_nodes.proofs.choices.choices_of.Goals as goal

pub invariant_of-result : goal.invariant_of-result
invariant_of-result c =
    let rows = c.args.shape.now.rows in
    let groupings = c.args.shape.now.groupings in
    are-forked rows groupings c.in_ok-graph.graph.items c.in_ok-values.values.items c.in_ok-graph.ensures.kept
    (subst (λ (g : Graph). Holds (strict (fork_step rows groupings)) g c.in_ok-values.values.items) c.deref-2.ensures.value c.in_ok-values.ensures)
