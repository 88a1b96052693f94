use Rattle.std.proofs.Common.{◌≡◌, List, ℕ, Bor, map, filter, take}
use Rattle.nm_schema_statements.specs.Text.{is_some_text}
use Rattle.nm_schema_keys.proofs.words.some_texts.Given as goal

abbrev pub invariant-loop-text : goal.invariant-loop-text
invariant-loop-text l = map (λ (t : Bor (List ℕ)). t.now) l.some.items ≡ filter is_some_text (map (λ (t : Bor (List ℕ)). t.now) (take l.text-index l.texts))
