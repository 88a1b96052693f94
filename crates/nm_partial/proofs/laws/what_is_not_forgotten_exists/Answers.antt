use Rattle.std.proofs.Common.{◌≡◌, true}
use Rattle.std.specs.List.{All}
use Rattle.std.proofs.lemmas.List.Elements.{All-map, filter_passes}
use Rattle.std.proofs.Common.{get_or}
use Rattle.nm_partial.specs.Partial.{without_absent}
use Rattle.nm_partial.proofs.laws.what_is_not_forgotten_exists.Goals as goal

pub returns : goal.returns
returns g c partials config =
    let m = g.C.Content.meaning c.args.content.now in
    All-map (λ lock. All (λ node. m.exists config node ≡ true) lock.nodes) (without_absent m config) partials.locks
    (λ k d h. filter_passes (m.exists config) (get_or partials.locks k d).nodes)
