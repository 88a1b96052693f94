use Rattle.std.proofs.Common.{List, ◌∷◌, [], ◌++◌, ap, ◌∙◌}
use Rattle.std.specs.Borrow.{Bor}
use Rattle.nm_types.specs.Path.{PathStep}
use Rattle.nm_validate_places.proofs.Steps.{map_one, map_all}
use Rattle.nm_validate_places.proofs.areas.copies.Goals as goal

pub loop-path-preserved : goal.loop-path-preserved
loop-path-preserved c =
    map_one (λ (path : Bor (List PathStep)). path.now) c.deref-path-items.result.now c.loop-path.path-index c.path-item.result c.loop-path.paths.items _ _ c.loop-path-test.true c.path-item.is
    (c.in_ok-push.ensures.items ∙ ap (λ path. c.loop-path.paths.items ++ path ∷ []) c.in_ok-copy.ensures) c.loop-path.invariant

pub returns : goal.returns
returns c = map_all (λ (path : Bor (List PathStep)). path.now) c.deref-path-items.result.now c.loop-path.path-index _ _ c.loop-path-test.false c.loop-path.invariant
