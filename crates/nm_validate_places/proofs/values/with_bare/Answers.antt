use Rattle.std.proofs.Common.{◌+◌, ◌∷◌, [], ◌++◌, map, drop, get_or, sym, ap, ◌∙◌, append_assoc}
use Rattle.std.proofs.lemmas.List.{drop_more}
use Rattle.nm_validate_rules.specs.Cases.{bare}
use Rattle.nm_validate_places.proofs.Steps.{map_all}
use Rattle.nm_validate_places.proofs.values.with_bare.Goals as goal

pub loop-at-preserved : goal.loop-at-preserved
loop-at-preserved c =
    let step = bare c.args.schema.now.nodes in
    let nodes = c.args.nodes.now in
    let i = c.loop-at.at-index in
    let steps = c.loop-at.steps.items in
    let left = map step (drop (i + 1) nodes) in
    ap (λ ss. ss ++ left) (c.in_ok-push.ensures.items ∙ ap (λ s. steps ++ s ∷ []) c.in_ok-bare.ensures)
    ∙ append_assoc steps (step (get_or nodes i 0) ∷ []) left
    ∙ ap (λ ns. steps ++ map step ns) (sym (drop_more nodes i 0 c.loop-at-test.true))
    ∙ c.loop-at.invariant

pub returns : goal.returns
returns c = map_all (bare c.args.schema.now.nodes) c.args.nodes.now c.loop-at.at-index _ _ c.loop-at-test.false c.loop-at.invariant
