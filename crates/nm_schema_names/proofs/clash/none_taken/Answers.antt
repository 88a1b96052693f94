use Rattle.std.proofs.Common.{◌≡◌, ◌∙◌, ◌++◌, ◌∷◌, [], List, replicate, ap, arith}
use Rattle.std.proofs.lemmas.List.{replicate_more}
use Rattle.nm_schema_names.specs.Clash.{Parts, no_parts}
use Rattle.nm_schema_names.proofs.clash.none_taken.Goals as goal

pub loop-preserved : goal.loop-preserved
loop-preserved c = c.in_ok-push.ensures.items ∙ ap (λ (x : Parts). c.loop.taken.items ++ x ∷ []) c.new.ensures ∙ ap (λ (l : List (Parts)). l ++ no_parts ∷ []) c.loop.invariant ∙ replicate_more c.loop.counter no_parts

pub returns : goal.returns
returns c =
    let past = c.loop-test.false in
    let ends = c.loop.auto.counter-end in
    let all : c.loop.counter ≡ c.args.count = omega (arith, past, ends) in
    c.loop.invariant ∙ ap (λ n. replicate n no_parts) all
