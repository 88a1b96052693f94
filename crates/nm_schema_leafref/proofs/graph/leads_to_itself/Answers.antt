use Rattle.std.proofs.Common.{◌≡◌, ◌∙◌, sym, ap, subst, List, ℕ, Bool, false, true, slice_index_or, ◌↔◌}
use Rattle.nm_graph.specs.Graph.{successors_of, ReachedFrom}
use Rattle.nm_graph.proofs.Acyclic.{itself-from_reached, reached-from_itself}
use Rattle.nm_schema_uses.proofs.Graphs.{successors-read}
use Rattle.nm_schema_leafref.proofs.graph.leads_to_itself.Goals as goal

pub returns : goal.returns
returns c =
    let starts : c.as_slice.result.now ≡ successors_of c.args.graph.now c.args.node = c.as_slice.ensures.value ∙ successors-read c.args.graph.now c.args.node c.index-graph-node.result c.requires.within c.index-graph-node.is in
    let exactly : (slice_index_or c.in_ok-found.found.items c.args.node false ≡ true) ↔ ReachedFrom c.args.graph.now (successors_of c.args.graph.now c.args.node) c.args.node =
    subst (λ (l : List ℕ). (slice_index_or c.in_ok-found.found.items c.args.node false ≡ true) ↔ ReachedFrom c.args.graph.now l c.args.node) starts (c.in_ok-found.ensures.exactly c.args.node) in
    let is : c.is_marked.result ≡ slice_index_or c.in_ok-found.found.items c.args.node false = c.is_marked.ensures ∙ ap (λ (l : List Bool). slice_index_or l c.args.node false) c.deref.ensures.value in (
      (λ yes. itself-from_reached c.args.graph.now c.args.node (exactly.0 (sym is ∙ yes))),
      (λ leads. is ∙ exactly.1 (reached-from_itself c.args.graph.now c.args.node leads)),
    )
