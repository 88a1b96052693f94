use Rattle.std.proofs.Common.{◌≡◌, ◌+◌, ◌-◌, ◌∙◌, ◌++◌, ◌∷◌, [], suc, sym, ap, arith, append_assoc, append-nil}
use Rattle.nm_make.specs.Drawn.{changes_drawn}
use Rattle.nm_make.proofs.draw.draw_changes.Goals as goal

pub loop-preserved : goal.loop-preserved
unfolding changes_drawn
loop-preserved c =
    let left : suc (64 - (c.loop.counter + 1)) ≡ 64 - c.loop.counter = omega (arith, c.loop-test.true) in
    let rest = changes_drawn (64 - (c.loop.counter + 1)) c.draw_change-change.new.generator in
    ap (λ changes. changes ++ rest) c.in_ok-push.ensures.items
    ∙ append_assoc c.loop.changes.items (c.draw_change-change.result ∷ []) rest
    ∙ ap (λ drawn. c.loop.changes.items ++ (drawn.0 ∷ changes_drawn (64 - (c.loop.counter + 1)) drawn.1)) c.draw_change-change.ensures
    ∙ ap (λ more. c.loop.changes.items ++ changes_drawn more c.loop.generator) left
    ∙ c.loop.invariant

pub returns : goal.returns
unfolding changes_drawn
returns c =
    let none : 0 ≡ 64 - c.loop.counter = omega (arith, c.loop-test.false) in
    sym (append-nil c.loop.changes.items) ∙ ap (λ more. c.loop.changes.items ++ changes_drawn more c.loop.generator) none ∙ c.loop.invariant
