use Rattle.std.proofs.Common.{◌≡◌, ℕ, ◌-◌, ◌∷◌, ◌++◌, [], take, length, slice_get, ap, sym, ◌∙◌}
use Rattle.nm_validate_leafref.proofs.Paths.{as_list_is}
use Rattle.nm_validate_leafref.proofs.kept.as_list.Goals as goal

pub returns : goal.returns
returns c =
    let ss = c.args.path.now in
    let steps = c.path.inside.steps in
    let long : steps.len ≡ length steps.items = steps.ok.0 in
    let count : c.len.result ≡ length ss = c.len.ensures ∙ long ∙ ap length c.path.view_is in
    let d = c.deref.ensures.value ∙ c.path.view_is in
    let e = ap (λ l. slice_get l (length l - 1)) (sym d) ∙ sym c.in-Some.ensures.value in
    c.in_ok-list.ensures
    ∙ ap (λ a. a ++ c.in_ok-whole.whole ∷ []) (c.in_ok-above.ensures ∙ ap (λ (n : ℕ). take (n - 1) ss) count)
    ∙ ap (λ w. take (length ss - 1) ss ++ w ∷ []) c.in_ok-whole.ensures
    ∙ as_list_is ss c.in-Some.step.now e
