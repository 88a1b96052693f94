use Rattle.std.proofs.Common.{◌≡◌, ◌∙◌, ap, length, List, None, arith}
use Rattle.nm_schema_nodes.specs.declared.instance.Instance.{Instance}
use Rattle.nm_schema_nodes.specs.Expansion.{Expanded}
use Rattle.nm_schema_leafref.specs.Walk.{led_to}
use Rattle.nm_schema_leafref.proofs.Lists.{lists_more, lists_all}
use Rattle.nm_schema_leafref.proofs.Targets.{led_to-past}
use Rattle.nm_schema_leafref.proofs.leds.leds.Goals as goal

pub loop-node-preserved : goal.loop-node-preserved
loop-node-preserved c = rw c.in_ok-push.ensures.items (lists_more (led_to c.args.scene.now.typedefs c.args.scene.now.tree) None c.loop-node.node c.loop-node.leds.items c.led_to.result c.loop-node.invariant c.led_to.ensures)

pub returns-clause-exact : goal.returns-clause-exact
returns-clause-exact c =
    let size : length c.nodes-count.result.now ≡ length c.args.scene.now.tree.nodes = ap (λ (l : List Instance). length l) (c.nodes-count.ensures ∙ ap (λ (t : Expanded). t.nodes) c.tree.ensures) in
    lists_all (led_to c.args.scene.now.typedefs c.args.scene.now.tree) None c.loop-node.node c.loop-node.leds.items c.loop-node.invariant (λ i le. led_to-past c.args.scene.now.typedefs c.args.scene.now.tree i (omega arith))
