use Rattle.std.proofs.Common.{◌≡◌, ◌+◌, ◌∙◌, ◌<◌, ℕ, sym, ap, subst, rules, arith, length, List, ◌++◌, ◌∷◌, []}
use Rattle.nm_graph.specs.Graph.{Graph, successors_of}
use Rattle.nm_schema_typing.specs.TypeGraph as spec
use Rattle.nm_schema_typing.proofs.TypeGraphs.{grows, is_graph}
use Rattle.nm_schema_typing.proofs.edges.type_graph.Goals as goal

pub loop-at-preserved : goal.loop-at-preserved
loop-at-preserved c =
    let items : c.push.new.self.items ≡ c.loop-at.graph.items ++ c.in_ok-nexts.nexts ∷ [] = search rules in
    let size : length c.push.new.self.items ≡ c.loop-at.at + 1 = search (rules, items, c.loop-at.invariant.0) in
    let next : c.in_ok-nexts.nexts.items ≡ spec.leads c.args.rows.now c.args.typedefs.now (length c.loop-at.graph.items) = rw c.loop-at.invariant.0 (c.in_ok-nexts.ensures ∙ c.leads.ensures) in
    (size, subst (λ (graph : Graph). (i : ℕ) → i < length graph → successors_of graph i ≡ spec.leads c.args.rows.now c.args.typedefs.now i) (sym items) (grows c.loop-at.graph.items c.in_ok-nexts.nexts (spec.leads c.args.rows.now c.args.typedefs.now) c.loop-at.invariant.1 next))

pub returns-clause-graph : goal.returns-clause-graph
returns-clause-graph c = is_graph c.args.rows.now c.args.typedefs.now c.loop-at.graph.items (search (rules, arith))
