use Rattle.std.proofs.Common.{◌≡◌, ◌∙◌, ap, length, List, arith}
use Rattle.nm_schema_nodes.specs.declared.instance.Instance.{Instance}
use Rattle.nm_schema_nodes.specs.Expansion.{Expanded}
use Rattle.nm_schema_leafref.specs.Target.{up_of}
use Rattle.nm_schema_leafref.proofs.Lists.{lists_more, lists_all}
use Rattle.nm_schema_leafref.proofs.Targets.{up_of-past}
use Rattle.nm_schema_leafref.proofs.leds.ups.Goals as goal

pub loop-node-preserved : goal.loop-node-preserved
loop-node-preserved c = rw c.in_ok-push.ensures.items (lists_more (up_of c.args.scene.now.typedefs c.args.scene.now.tree) 0 c.loop-node.node c.loop-node.ups.items c.up_of.result c.loop-node.invariant c.up_of.ensures)

pub returns : goal.returns
returns c =
    let size : length c.nodes-count.result.now ≡ length c.args.scene.now.tree.nodes = ap (λ (l : List Instance). length l) (c.nodes-count.ensures ∙ ap (λ (t : Expanded). t.nodes) c.tree.ensures) in
    lists_all (up_of c.args.scene.now.typedefs c.args.scene.now.tree) 0 c.loop-node.node c.loop-node.ups.items c.loop-node.invariant (λ i le. up_of-past c.args.scene.now.typedefs c.args.scene.now.tree i (omega arith))
