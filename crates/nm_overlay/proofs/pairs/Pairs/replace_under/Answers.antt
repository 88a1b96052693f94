use Rattle.std.proofs.Common.{cond, ap, sym, subst, ◌∙◌}
use Rattle.std.specs.FinMap as map
use Rattle.nm_types.specs.Path.{path_cmp}
use Rattle.nm_config.specs.Under.{is_under}
use Rattle.nm_overlay.specs.Places.{Ascends}
use Rattle.nm_overlay.proofs.Replaced.{spliced, parts_ascend}
use Rattle.nm_overlay.proofs.Mapped.{whichever, on_ok, mapped-splice}
use Rattle.nm_overlay.proofs.pairs.Pairs.replace_under.Goals as goal

pub invariant_of-self : goal.invariant_of-self
invariant_of-self c =
    let items = c.self.inside.sorted.items in
    whichever c.replace_under.result c.replace_under.ensures.ok c.replace_under.ensures.err
    (λ e. subst Ascends (sym (e ∙ spliced c.args.node.now items c.args.others.items c.self.invariant)) (parts_ascend c.args.node.now items c.args.others.items c.self.invariant c.requires.ascends c.requires.below))
    (λ e. subst Ascends (sym e) c.self.invariant)

pub returns-clause-ok : goal.returns-clause-ok
returns-clause-ok c = λ q. on_ok c.replace_under.result
    (λ e. ap (λ l. map.get (map.from_entries {R = path_cmp} l) q) e
    ∙ mapped-splice c.args.node.now c.self.inside.sorted.items c.args.others.items c.self.invariant c.requires.ascends c.requires.below q
    ∙ ap (λ m. cond (is_under c.args.node.now q) (map.find path_cmp q c.args.others.items) (map.get m q)) c.self.view_is)
    c.replace_under.ensures.ok
