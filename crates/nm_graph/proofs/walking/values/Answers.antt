use Rattle.std.proofs.Common.{◌≡◌, ◌<◌, ◌≤◌, ◌∙◌, ℕ, List, length, slice_index_or, subst, take, sym}
use Rattle.std.proofs.lemmas.List.{get_or_default, take_all}
use Rattle.nm_graph.specs.Graph.{successors_of}
use Rattle.nm_graph.specs.Value.{strict, values_at, Valued}
use Rattle.nm_graph.specs.ValueLaws.{strict-is_strict}
use Rattle.nm_graph.proofs.Leading.{successors-within}
use Rattle.nm_graph.proofs.Valuing.{valued_none, valued_more, valued_all}
use Rattle.nm_graph.proofs.walking.values.Goals as goal

pub next_value-requires : goal.next_value-requires
next_value-requires g c =
    rw (c.successors_of-nexts.ensures, c.deref.ensures.value, c.loop-node.invariant.size) (successors-within c.args.successors.now c.requires.graph (slice_index_or c.args.order.now c.loop-node.node-index 0))

pub loop-node-init : goal.loop-node-init
loop-node-init g c = valued_none (strict (g.V.Visitor.step c.args.visitor.now)) c.args.successors.now c.in_ok-values.values.items c.in_ok-values.ensures

pub loop-node-preserved : goal.loop-node-preserved
loop-node-preserved g c =
    let node : ℕ = slice_index_or c.args.order.now c.loop-node.node-index 0 in
    valued_more (strict (g.V.Visitor.step c.args.visitor.now)) c.args.successors.now c.args.order.now c.loop-node.node-index c.loop-node.values.items c.in-Ok.value node c.requires.order c.loop-node-test.true
    (get_or_default c.args.order.now c.loop-node.node-index 0 node c.loop-node-test.true)
    (c.requires.order.within c.loop-node.node-index 0 c.loop-node-test.true)
    c.loop-node.invariant
    (rw (c.deref.ensures.value, c.successors_of-nexts.ensures) at c.in-Ok.ensures)

pub returns : goal.returns
returns g c =
    let all : take c.loop-node.node-index c.args.order.now ≡ c.args.order.now = take_all c.loop-node.node-index c.args.order.now c.loop-node-test.false in
    valued_all (strict (g.V.Visitor.step c.args.visitor.now)) c.args.successors.now c.args.order.now c.loop-node.values.items (strict-is_strict (g.V.Visitor.step c.args.visitor.now)) c.requires.graph c.requires.order
    (rw all at c.loop-node.invariant)
