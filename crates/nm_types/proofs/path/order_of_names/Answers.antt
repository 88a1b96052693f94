use Rattle.std.proofs.Common.{append_assoc, ◌≡◌, [], ◌∷◌, refl, ◌∙◌}
use Rattle.std.proofs.lemmas.Iterator.Search.{cmp_from_yields_List}
use Rattle.std.proofs.lemmas.Iterator.Adapters.{YieldsList-from_bytes}
use Rattle.std.proofs.lemmas.Iterator.Consumers.{YieldsList-from_chain, YieldsList-at}
use Rattle.std.specs.Ordering.{nat_cmp}
use Rattle.nm_types.proofs.path.order_of_names.Goals as goal

pub returns : goal.returns
returns c =
    let ours = YieldsList-from_chain
    (YieldsList-at c.chain-ours.ensures.first (YieldsList-from_chain
    (YieldsList-at c.chain.ensures.first (YieldsList-from_bytes c.args.owner.now (c.bytes.ensures.rest ∙ c.as_str.ensures)))
    (YieldsList-at c.chain.ensures.second (YieldsList-from_bytes (58 ∷ []) c.bytes-2.ensures.rest))
    c.chain.ensures.first_done c.chain.ensures.second_done))
    (YieldsList-at c.chain-ours.ensures.second (YieldsList-from_bytes c.args.name.now (c.bytes-3.ensures.rest ∙ c.as_str-2.ensures)))
    c.chain-ours.ensures.first_done c.chain-ours.ensures.second_done in
    let theirs = YieldsList-from_chain
    (YieldsList-at c.chain-theirs.ensures.first (YieldsList-from_chain
    (YieldsList-at c.chain-2.ensures.first (YieldsList-from_bytes c.args.other_owner.now (c.bytes-4.ensures.rest ∙ c.as_str-3.ensures)))
    (YieldsList-at c.chain-2.ensures.second (YieldsList-from_bytes (58 ∷ []) c.bytes-5.ensures.rest))
    c.chain-2.ensures.first_done c.chain-2.ensures.second_done))
    (YieldsList-at c.chain-theirs.ensures.second (YieldsList-from_bytes c.args.other_name.now (c.bytes-6.ensures.rest ∙ c.as_str-4.ensures)))
    c.chain-theirs.ensures.first_done c.chain-theirs.ensures.second_done in
    let e = cmp_from_yields_List (λ x y. y ≡ x) _ nat_cmp c.cmp.result c.cmp.ensures.ran ours (λ it same. YieldsList-at same theirs) (λ x y. refl) in
    simp append_assoc at e
