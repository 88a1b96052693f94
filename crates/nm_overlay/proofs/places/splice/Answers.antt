use Rattle.std.proofs.Common.{ap, sym, rules, ◌∙◌}
use Rattle.std.proofs.lemmas.List.{map-id}
use Rattle.std.proofs.lemmas.Iterator.{items_from_drains}
use Rattle.std.proofs.lemmas.Iterator.Adapters.{YieldsList-from_vec}
use Rattle.std.specs.List as list
use Rattle.nm_overlay.proofs.places.splice.Goals as goal

pub returns-clause-ok : goal.returns-clause-ok
returns-clause-ok c =
    let ran = c.in_ok-splice.ensures.items in
    let items = sym (map-id ran.1) ∙ items_from_drains ran.1 (ran.3.1.0, ran.3.1.1, λ w. (ran.3.0, ran.3.1.2)) (YieldsList-from_vec c.args.others.items ran.2.0 (ran.2.1 ∙ search rules)) in
    ran.4 ∙ ap (list.splice c.args.pairs.now.items c.args.from c.args.to) items
