use Rattle.std.proofs.Common.{◌≡◌, ◌∙◌, ◌++◌, ◌∷◌, [], ℕ, List, Option, None, replicate, ap, arith}
use Rattle.std.proofs.lemmas.List.{replicate_more}
use Rattle.nm_schema.proofs.choice.no_cases.Goals as goal

pub loop-at-preserved : goal.loop-at-preserved
loop-at-preserved c = c.in_ok-push.ensures.items ∙ ap (λ (l : List (Option ℕ)). l ++ None ∷ []) c.loop-at.invariant ∙ replicate_more c.loop-at._at None

pub returns : goal.returns
returns c =
    let past = c.loop-at-test.false in
    let ends = c.loop-at.auto._at-end in
    let all : c.loop-at._at ≡ c.args.count = omega (arith, past, ends) in
    c.loop-at.invariant ∙ ap (λ n. replicate n None) all
