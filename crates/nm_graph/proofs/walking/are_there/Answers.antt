use Rattle.std.proofs.Common.{◌≡◌, ◌<◌, ◌∙◌, ℕ, Option, None, is_some, slice_index_or, length, sym, ap}
use Rattle.std.proofs.lemmas.List.{get_or_default}
use Rattle.std.proofs.lemmas.List.Elements.{All-more, Contains-get_or}
use Rattle.nm_graph.proofs.Orders.{all_of_take}
use Rattle.nm_graph.proofs.Valuing.{HasValue, all_there-each, all_there-missing}
use Rattle.nm_graph.proofs.walking.are_there.Goals as goal

pub returns-in-None : goal.returns-in-None
returns-in-None g c =
    let node : ℕ = slice_index_or c.args.nodes.now c.loop-node.node-index 0 in
    let within : node < length c.args.values.now = c.requires c.loop-node.node-index 0 c.loop-node-test.true in
    let missing : slice_index_or c.args.values.now node None ≡ None = get_or_default c.args.values.now node None c.index-values-node.result within ∙ sym c.index-values-node.is ∙ c.in-None.is in
    sym (ap is_some (all_there-missing c.args.values.now c.args.nodes.now node (Contains-get_or c.args.nodes.now c.loop-node.node-index 0 c.loop-node-test.true) missing))

pub loop-node-preserved : goal.loop-node-preserved
loop-node-preserved g c =
    let node : ℕ = slice_index_or c.args.nodes.now c.loop-node.node-index 0 in
    let within : node < length c.args.values.now = c.requires c.loop-node.node-index 0 c.loop-node-test.true in
    let there : HasValue c.args.values.now node = ap is_some (get_or_default c.args.values.now node None c.index-values-node.result within ∙ sym c.index-values-node.is ∙ c.in-Some.is) in
    All-more (HasValue c.args.values.now) c.args.nodes.now c.loop-node.node-index 0 c.loop-node-test.true c.loop-node.invariant there

pub returns : goal.returns
returns g c = sym (all_there-each c.args.values.now c.args.nodes.now (all_of_take (HasValue c.args.values.now) c.loop-node.node-index c.args.nodes.now c.loop-node-test.false c.loop-node.invariant))
