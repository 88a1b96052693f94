use Rattle.std.proofs.Common.{sym, subst}
use Rattle.nm_graph.specs.Graph.{Graph}
use Rattle.nm_schema_names.specs.Graph.{IsGraphOf}
use Rattle.nm_schema_faults.proofs.Cycling.{cycle_is}
use Rattle.nm_schema_faults.proofs.cycle.cycle_of.Goals as goal

pub returns : goal.returns
returns c =
    let graph_is : IsGraphOf c.args.names.now c.deref.result.now = subst (λ (g : Graph). IsGraphOf c.args.names.now g) (sym c.deref.ensures.value) c.in_ok-graph.ensures in
    cycle_is c.args.names.now c.deref.result.now graph_is c.in_ok-ordered.ordered.cycle c.in_ok-ordered.ensures.cycle c.in_ok-ordered.ensures.acyclic
