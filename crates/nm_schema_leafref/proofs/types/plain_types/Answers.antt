use Rattle.std.proofs.Common.{◌≡◌, ◌∙◌, ap, length, List, None, arith}
use Rattle.nm_schema_nodes.specs.declared.instance.Instance.{Instance}
use Rattle.nm_schema_nodes.specs.Expansion.{Expanded, row_of}
use Rattle.nm_schema_leafref.proofs.Lists.{lists_more, lists_all}
use Rattle.nm_schema_leafref.proofs.Typings.{own_type, own_type-past, own-type-is}
use Rattle.nm_schema_leafref.proofs.types.plain_types.Goals as goal

pub loop-node-preserved : goal.loop-node-preserved
loop-node-preserved c =
    let row : c.row_of.result ≡ row_of c.args.scene.now.tree.nodes c.loop-node.node = c.row_of.ensures ∙ ap (λ (t : Expanded). row_of t.nodes c.loop-node.node) c.tree-tree.ensures in
    record {
      kept = c.in-Ok.ensures.kept;
      listed = rw c.in_ok-push-in-Ok.ensures.items (lists_more (own_type c.args.scene.now.typedefs c.args.scene.now.tree) None c.loop-node.node c.loop-node.all.items c.in-Ok.found c.loop-node.invariant.listed
          (own-type-is c.args.scene.now.typedefs c.args.scene.now.tree c.types-types.result.now.meanings c.loop-node.node c.row_of.result c.in-Ok.found c.types-types.ensures row c.in-Ok.ensures.value));
    }

pub returns : goal.returns
unfolding own_type
returns c =
    let size : length c.nodes-count.result.now ≡ length c.args.scene.now.tree.nodes = ap (λ (l : List Instance). length l) (c.nodes-count.ensures ∙ ap (λ (t : Expanded). t.nodes) c.tree-tree.ensures) in
    lists_all (own_type c.args.scene.now.typedefs c.args.scene.now.tree) None c.loop-node.node c.loop-node.all.items c.loop-node.invariant.listed (λ i le. own_type-past c.args.scene.now.typedefs c.args.scene.now.tree i (omega arith))
