use Rattle.std.proofs.Common.{◌≡◌, ◌<◌, ◌∙◌, sym, false, length, slice_index_or, arith}
use Rattle.std.proofs.lemmas.List.{get_or_default}
use Rattle.nm_graph.proofs.Leading.{successors-within}
use Rattle.nm_graph.proofs.Acyclic.{itself-from_reached, reached-from_itself}
use Rattle.nm_graph.proofs.sorting.leads_to_itself.Goals as goal

pub reached-requires-clause-starts : goal.reached-requires-clause-starts
reached-requires-clause-starts c = rw (c.successors_of.ensures) (successors-within c.args.successors.now c.requires.graph c.args.node)

pub returns : goal.returns
returns c =
    let within : c.args.node < length c.in_ok-reached.reached.items = omega (arith, c.requires.within, c.in_ok-reached.ensures.size) in
    let is : c.index.result.now ≡ slice_index_or c.in_ok-reached.reached.items c.args.node false = c.index.ensures ∙ get_or_default c.in_ok-reached.reached.items c.args.node c.index.result.now false within in
    let exactly = c.in_ok-reached.ensures.exactly c.args.node in (
      (λ yes. itself-from_reached c.args.successors.now c.args.node (rw c.successors_of.ensures at (exactly.0 (sym is ∙ yes)))),
      (λ leads. is ∙ exactly.1 (rw c.successors_of.ensures (reached-from_itself c.args.successors.now c.args.node leads))),
    )
