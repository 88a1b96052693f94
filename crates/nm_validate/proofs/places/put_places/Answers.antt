use Rattle.std.proofs.Common.{◌<◌, [], ◌∷◌, ◌++◌, length, ap, ◌∙◌, arith}
use Rattle.nm_validate.proofs.Placed.{put_more}
use Rattle.nm_validate.proofs.places.put_places.Goals as goal

pub loop-count-preserved : goal.loop-count-preserved
loop-count-preserved c =
    let test_is = c.loop-count-test.true in
    let end_is = c.len-count-end.ensures in
    let inside = ap length c.path.view_is in
    let lt : c.loop-count.count < length c.args.path.now = omega (arith, test_is, end_is, inside) in
    put_more c.args.path.now c.loop-count.count _ _ _ lt (c.in_ok-push.ensures.items ∙ ap (λ p. c.loop-count.places.items ++ p ∷ []) c.in_ok-beginning.ensures) c.loop-count.invariant
