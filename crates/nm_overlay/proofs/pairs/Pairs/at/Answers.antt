use Rattle.std.proofs.Common.{ap, sym, ◌∙◌}
use Rattle.std.specs.FinMap as map
use Rattle.nm_types.specs.Path.{path_cmp}
use Rattle.nm_overlay.proofs.Mapped.{get-mapped}
use Rattle.nm_overlay.proofs.pairs.Pairs.at.Goals as goal

pub returns : goal.returns
returns c = c.found.ensures ∙ ap (map.find path_cmp c.args.path.now) c.deref.ensures.value
    ∙ sym (get-mapped c.self.inside.sorted.items c.args.path.now) ∙ ap (λ m. map.get m c.args.path.now) c.self.view_is
