use Rattle.std.proofs.Common.{◌≡◌, ◌≤◌, ◌<◌, length, arith}
use Rattle.nm_graph.proofs.Reaching.{reaching-begin, reaching-within, reaching-more, reaching-done}
use Rattle.nm_graph.proofs.reach.reached.Goals as goal

pub loop-next-init : goal.loop-next-init
loop-next-init c =
    let size : length c.in_ok-is_found.is_found.items ≡ length c.args.successors.now = omega (arith, c.in_ok-is_found.ensures.len) in
    reaching-begin c.args.successors.now c.args.starts.now (record { is_found = c.in_ok-is_found.is_found; nodes = c.new.result }) c.find_all.new.search c.new.ensures.items size c.in_ok-find_all.ensures.sound c.in_ok-find_all.ensures.found

pub find_all-requires-in-loop-next-clause-within : goal.find_all-requires-in-loop-next-clause-within
find_all-requires-in-loop-next-clause-within c =
    reaching-within c.args.successors.now c.args.starts.now c.loop-next.next c.loop-next.search c.index-node.result.now c.successors_of.result.now c.requires.graph c.loop-next.invariant c.successors_of.ensures

pub loop-next-preserved : goal.loop-next-preserved
loop-next-preserved c =
    let within : c.loop-next.next < length c.loop-next.search.nodes.items = omega arith in
    reaching-more c.args.successors.now c.args.starts.now c.loop-next.next c.loop-next.search c.find_all-in-loop-next.new.search c.index-node.result.now c.successors_of.result.now c.loop-next.invariant within c.index-node.ensures c.successors_of.ensures c.in_ok-find_all-2.ensures.sound c.in_ok-find_all-2.ensures.found

pub returns-clause-exactly : goal.returns-clause-exactly
returns-clause-exactly c =
    let done : length c.loop-next.search.nodes.items ≤ c.loop-next.next = omega arith in
    reaching-done c.args.successors.now c.args.starts.now c.loop-next.next c.loop-next.search c.loop-next.invariant done
