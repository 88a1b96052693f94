use Rattle.std.proofs.Common.{ap, ◌∙◌}
use Rattle.std.specs.FinMap as map
use Rattle.std.specs.FinMap.{get-empty}
use Rattle.nm_types.specs.Path.{path_cmp}
use Rattle.nm_overlay.specs.Differences.{changes_at}
use Rattle.nm_overlay.proofs.Changed.{overridden-empty}
use Rattle.nm_overlay.proofs.overlay.Overlay.new.Goals as goal

pub invariant_of-result : goal.invariant_of-result
invariant_of-result c = λ q. ap (λ m. changes_at (map.get m q) (map.get c.args.base.value q)) c.new.ensures
    ∙ ap (λ o. changes_at o (map.get c.args.base.value q)) (get-empty path_cmp q)

pub returns-clause-rows : goal.returns-clause-rows
returns-clause-rows c = overridden-empty c.args.base.value c.new.result (λ q. ap (λ m. map.get m q) c.new.ensures ∙ get-empty path_cmp q)
