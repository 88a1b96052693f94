use Rattle.std.proofs.Common.{◌≡◌, length, subst, arith}
use Rattle.nm_schema_uses.proofs.Graphs.{IsDrawn, drawn_more, drawn_all}
use Rattle.nm_schema_leafref.specs.Known.{targets_in}
use Rattle.nm_schema_leafref.proofs.Targets.{target-in, targets_in-past}
use Rattle.nm_schema_leafref.proofs.graph.graph_of.Goals as goal

pub loop-node-preserved : goal.loop-node-preserved
loop-node-preserved c = rw c.in_ok-push.ensures.items (drawn_more (targets_in c.args.leds.now) (length c.args.leds.now) c.loop-node.graph.items c.loop-node.node c.in_ok-nodes.nodes (c.requires c.loop-node.node) c.loop-node.invariant
    (target-in c.args.leds.now c.loop-node.node c.in_ok-nodes.nodes.items c.led_at.result c.in_ok-nodes.ensures c.led_at.ensures))

pub returns-clause-draws : goal.returns-clause-draws
returns-clause-draws c =
    let all : c.loop-node.node ≡ length c.args.leds.now = omega arith in
    drawn_all (targets_in c.args.leds.now) (length c.args.leds.now) c.loop-node.graph.items
    (subst (λ n. IsDrawn (targets_in c.args.leds.now) (length c.args.leds.now) c.loop-node.graph.items n) all c.loop-node.invariant)
    (λ i le. targets_in-past c.args.leds.now i le)
