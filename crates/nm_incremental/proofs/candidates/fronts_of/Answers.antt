use Rattle.std.proofs.Common.{◌≡◌, suc, ◌-◌, ◌<◌, ℕ, [], ◌∷◌, ◌++◌, length, take, ap, ◌∙◌, arith}
use Rattle.nm_incremental.proofs.Listed.{put_one, put_all}
use Rattle.nm_incremental.proofs.candidates.fronts_of.Goals as goal

pub loop-count-preserved : goal.loop-count-preserved
loop-count-preserved c =
    let path = c.args.path.now in
    let test_is = c.loop-count-test.true in
    let end_is = c.front_count-count-end.ensures in
    let lt : c.loop-count.count < suc (length path) = omega (arith, test_is, end_is) in
    put_one (λ (n : ℕ). take n path) c.loop-count.count (suc (length path)) _ _ _ lt (c.in_ok-push.ensures.items ∙ ap (λ p. c.loop-count.fronts.items ++ p ∷ []) c.in_ok-front.ensures) c.loop-count.invariant

pub returns : goal.returns
returns c =
    let path = c.args.path.now in
    let test_is = c.loop-count-test.false in
    let end_is = c.front_count-count-end.ensures in
    let done : suc (length path) - c.loop-count.count ≡ 0 = omega (arith, test_is, end_is) in
    put_all (λ (n : ℕ). take n path) c.loop-count.count (suc (length path)) _ _ done c.loop-count.invariant
