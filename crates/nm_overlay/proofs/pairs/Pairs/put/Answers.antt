use Rattle.std.proofs.Common.{ap, sym, subst, ◌∙◌}
use Rattle.std.specs.FinMap as map
use Rattle.std.specs.FinMap.Entries.{is_sorted-put}
use Rattle.nm_types.specs.Path.{path_cmp}
use Rattle.nm_types.specs.PathLaws.{paths_total}
use Rattle.nm_overlay.specs.Places.{Ascends}
use Rattle.nm_overlay.proofs.Mapped.{whichever, on_ok, mapped-put}
use Rattle.nm_overlay.proofs.pairs.Pairs.put.Goals as goal

pub invariant_of-self : goal.invariant_of-self
invariant_of-self c = whichever c.put.result c.put.ensures.ok c.put.ensures.err
    (λ e. subst Ascends (sym e) (is_sorted-put path_cmp paths_total c.args.path c.args.change c.self.inside.sorted.items c.self.invariant))
    (λ e. subst Ascends (sym e) c.self.invariant)

pub returns-clause-ok : goal.returns-clause-ok
returns-clause-ok c = on_ok c.put.result
    (λ e. ap map.from_entries e ∙ mapped-put c.args.path c.args.change c.self.inside.sorted.items
    ∙ ap (λ m. map.insert m c.args.path c.args.change) c.self.view_is)
    c.put.ensures.ok
