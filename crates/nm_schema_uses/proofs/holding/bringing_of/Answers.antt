use Rattle.std.proofs.Common.{◌≡◌, length, subst, arith}
use Rattle.nm_schema_uses.specs.Holding.{bringing}
use Rattle.nm_schema_uses.proofs.Graphs.{IsDrawn, drawn_more, drawn_all, drawn-graph, bringing-within, bringing-past}
use Rattle.nm_schema_uses.proofs.holding.bringing_of.Goals as goal

pub loop-at-preserved : goal.loop-at-preserved
loop-at-preserved c = rw c.in_ok-push.ensures.items (drawn_more (bringing c.args.rows.now c.args.groupings.now) (length c.args.rows.now) c.loop-at.graph.items c.loop-at.at c.in_ok-nodes.nodes
    (bringing-within c.args.rows.now c.args.groupings.now c.loop-at.at c.laws.ensures c.requires) c.loop-at.invariant c.in_ok-nodes.ensures)

pub returns-clause-bringing : goal.returns-clause-bringing
returns-clause-bringing c =
    let all : c.loop-at.at ≡ length c.args.rows.now = omega arith in
    drawn_all (bringing c.args.rows.now c.args.groupings.now) (length c.args.rows.now) c.loop-at.graph.items
    (subst (λ n. IsDrawn (bringing c.args.rows.now c.args.groupings.now) (length c.args.rows.now) c.loop-at.graph.items n) all c.loop-at.invariant)
    (λ i le. bringing-past c.args.rows.now c.args.groupings.now i le)

pub returns-clause-graph : goal.returns-clause-graph
returns-clause-graph c =
    let all : c.loop-at.at ≡ length c.args.rows.now = omega arith in
    drawn-graph (bringing c.args.rows.now c.args.groupings.now) (length c.args.rows.now) c.loop-at.graph.items
    (subst (λ n. IsDrawn (bringing c.args.rows.now c.args.groupings.now) (length c.args.rows.now) c.loop-at.graph.items n) all c.loop-at.invariant)
