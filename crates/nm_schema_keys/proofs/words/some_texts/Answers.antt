use Rattle.std.proofs.Common.{◌∙◌, List, ℕ, Bor, map, filter, ap}
use Rattle.std.proofs.lemmas.List.{take_all}
use Rattle.nm_schema_statements.specs.Text.{is_some_text}
use Rattle.nm_schema_keys.proofs.words.some_texts.Goals as goal

pub returns : goal.returns
returns c =
    c.loop-text.invariant
    ∙ ap (λ (texts : List (Bor (List ℕ))). filter is_some_text (map (λ (t : Bor (List ℕ)). t.now) texts)) (take_all c.loop-text.text-index c.args.texts.now c.loop-text-test.false)
