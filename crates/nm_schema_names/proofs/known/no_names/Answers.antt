use Rattle.std.proofs.Common.{◌≡◌, ◌∙◌, ◌++◌, ◌∷◌, [], ℕ, List, Option, None, replicate, ap, arith}
use Rattle.std.proofs.lemmas.List.{replicate_more}
use Rattle.nm_schema_names.proofs.known.no_names.Goals as goal

pub loop-preserved : goal.loop-preserved
loop-preserved c = c.in_ok-push.ensures.items ∙ ap (λ (l : List (Option (List (List ℕ)))). l ++ None ∷ []) c.loop.invariant ∙ replicate_more c.loop.counter None

pub returns : goal.returns
returns c =
    let past = c.loop-test.false in
    let ends = c.loop.auto.counter-end in
    let all : c.loop.counter ≡ c.args.count = omega (arith, past, ends) in
    c.loop.invariant ∙ ap (λ n. replicate n None) all
