use Rattle.std.proofs.Common.{List, [], ◌∷◌, ◌++◌, ℕ, ap, sym, ◌∙◌}
use Rattle.nm_validate_rules.specs.Places.{chain}
use Rattle.nm_validate_places.proofs.InUse.{chain_more}
use Rattle.nm_validate_places.proofs.values.+chain.Goals as goal

pub returns : goal.returns
returns t c =
    let nodes = c.args.schema.now.nodes in
    c.in_ok-push.ensures.items ∙ ap (λ (l : List ℕ). l ++ c.in-Some.node ∷ []) (c.in_ok-nodes.ensures ∙ ap (chain nodes) c.parent.ensures)
    ∙ chain_more c.args.schema.now c.laws.ensures c.in-Some.node ∙ ap (chain nodes) (sym c.in-Some.is)
