use Rattle.std.proofs.Common.{◌≡◌, ◌∙◌, IfOk, List, ℕ, Bor, map, subst}
use Rattle.nm_schema_keys.proofs.Parting.{texts_same, white_parts}
use Rattle.nm_schema_keys.proofs.words.words_of.Goals as goal

pub returns : goal.returns
returns c =
    let now : Bor (List ℕ) → List ℕ = λ t. t.now in
    subst (λ (l : List (List ℕ)). IfOk c.some_texts.result (λ words. map now words.items ≡ l))
    (white_parts c.args.text.now (map now c.deref.result.now) (map now c.deref-2.result.now) (map now c.deref-3.result.now) (map now c.deref-4.result.now)
    (texts_same c.deref.ensures.value ∙ c.in_ok-pieces.ensures)
    (texts_same c.deref-2.ensures.value ∙ c.in_ok-pieces-2.ensures)
    (texts_same c.deref-3.ensures.value ∙ c.in_ok-pieces-3.ensures)
    (texts_same c.deref-4.ensures.value ∙ c.in_ok-pieces-4.ensures))
    c.some_texts.ensures
