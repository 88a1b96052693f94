use Rattle.std.proofs.Common.{◌≡◌, List, length, ap, subst, arith}
use Rattle.nm_schema_statements.specs.declared.row.Row.{Row}
use Rattle.nm_schema_uses.specs.Holding.{bringing}
use Rattle.nm_schema_uses.specs.Config.{kept_of}
use Rattle.nm_schema_uses.proofs.Graphs.{IsDrawn, drawn_more, drawn_all, drawn-graph}
use Rattle.nm_schema_nodes.proofs.Leading.{bringing-leading, kept_bringing-past}
use Rattle.nm_schema_nodes.proofs.graph.kept_graph.Goals as goal

pub loop-at-preserved : goal.loop-at-preserved
loop-at-preserved c = rw c.in_ok-push.ensures.items (drawn_more (kept_of (bringing c.args.shape.now.rows c.args.shape.now.groupings) c.args.shape.now.rows) (length c.args.shape.now.rows) c.loop-at.graph.items c.loop-at.at c.in_ok-nodes.nodes
    (bringing-leading c.args.shape.now.rows c.args.shape.now.groupings c.laws.ensures c.loop-at.at) c.loop-at.invariant c.in_ok-nodes.ensures)

pub returns-clause-kept : goal.returns-clause-kept
returns-clause-kept c =
    let rows = c.args.shape.now.rows in
    let next = kept_of (bringing rows c.args.shape.now.groupings) rows in
    let all : c.loop-at.at ≡ length rows = omega (arith, c.loop-at-test.false, c.loop-at.auto.at-end, c.len-at-end.ensures, ap (λ (l : List Row). length l) c.rows-2.ensures) in
    drawn_all next (length rows) c.loop-at.graph.items (subst (λ n. IsDrawn next (length rows) c.loop-at.graph.items n) all c.loop-at.invariant) (λ i le. kept_bringing-past rows c.args.shape.now.groupings i le)

pub returns-clause-graph : goal.returns-clause-graph
returns-clause-graph c =
    let rows = c.args.shape.now.rows in
    let next = kept_of (bringing rows c.args.shape.now.groupings) rows in
    let all : c.loop-at.at ≡ length rows = omega (arith, c.loop-at-test.false, c.loop-at.auto.at-end, c.len-at-end.ensures, ap (λ (l : List Row). length l) c.rows-2.ensures) in
    drawn-graph next (length rows) c.loop-at.graph.items (subst (λ n. IsDrawn next (length rows) c.loop-at.graph.items n) all c.loop-at.invariant)
