use Rattle.std.proofs.Common.{IfOk, IfSome, Some, ◌≡◌, ◌++◌, map, drop, length, ap, subst, ◌∙◌}
use Rattle.std.specs.FinMap.{get}
use Rattle.nm_validate_rules.specs.Cases.{bare}
use Rattle.nm_validate_unique.proofs.near.near_value.Goals as goal

pub returns : goal.returns
returns c m h =
    let t = c.args.schema.now in
    let entry = c.args.entry.now in
    let count = c.len.ensures ∙ c.entry.inside.steps.ok.0 ∙ ap length c.entry.view_is in
    let below = c.behind-below.ensures ∙ ap (λ n. drop n c.deref.result.now) count ∙ ap (drop (length entry)) (c.deref.ensures.value ∙ c.requires) in
    subst (λ p. IfOk c.value_behind.result (λ found. IfSome found (λ value. get m p ≡ Some value))) (ap (λ ns. entry ++ map (bare t.nodes) ns) below) (c.value_behind.ensures m h)
