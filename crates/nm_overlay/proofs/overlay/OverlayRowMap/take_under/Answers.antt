use Rattle.std.proofs.Common.{◌≡◌, true, cond, List, ap, sym, subst, ◌∙◌}
use Rattle.std.specs.Prelude.{filter}
use Rattle.std.specs.FinMap as map
use Rattle.nm_types.specs.Path.{path_cmp}
use Rattle.nm_config.specs.Under.{is_under, without_under}
use Rattle.nm_overlay.specs.Differences.{Changes, changes_at}
use Rattle.nm_overlay.specs.Places.{Pair, Ascends}
use Rattle.nm_overlay.proofs.Order.{Place}
use Rattle.nm_overlay.proofs.Below.{gone_of, gone_ascend, gone_below, overridden-taken, changes-taken}
use Rattle.nm_overlay.proofs.Mapped.{whichever, on_ok}
use Rattle.nm_overlay.proofs.Said.{on_each}
use Rattle.nm_overlay.proofs.overlay.OverlayRowMap.take_under.Goals as goal

pub replace_under-requires-clause-ascends : goal.replace_under-requires-clause-ascends
replace_under-requires-clause-ascends c =
    let base = c.self.inside.base.value in
    let items = c.in_ok-gone.ensures ∙ ap (λ b. gone_of c.args.node.now (map.entries b)) c.deref.ensures in
    subst Ascends (sym items) (gone_ascend c.args.node.now (map.entries base) (map.entries_sorted base))

pub replace_under-requires-clause-below : goal.replace_under-requires-clause-below
replace_under-requires-clause-below c =
    let base = c.self.inside.base.value in
    let items = c.in_ok-gone.ensures ∙ ap (λ b. gone_of c.args.node.now (map.entries b)) c.deref.ensures in
    subst (λ (l : List Pair). filter (λ pair. is_under c.args.node.now pair.0) l ≡ l) (sym items) (gone_below c.args.node.now (map.entries base))

pub invariant_of-self : goal.invariant_of-self
invariant_of-self c =
    let base = c.self.inside.base.value in
    let node = c.args.node.now in
    let items = c.in_ok-gone.ensures ∙ ap (λ b. gone_of node (map.entries b)) c.deref.ensures in
    whichever c.replace_under.result
    (on_each c.replace_under.result (λ q. map.get c.replace_under.new.self q ≡ cond (is_under node q) (map.find path_cmp q c.in_ok-gone.gone.items) (map.get c.self.inside.pairs q)) c.replace_under.ensures.ok)
    c.replace_under.ensures.err
    (λ is. changes-taken base c.self.inside.pairs c.replace_under.new.self node (λ q. is q ∙ ap (λ (l : List Pair). cond (is_under node q) (map.find path_cmp q l) (map.get c.self.inside.pairs q)) items) c.self.invariant)
    (λ e. subst (λ (m : Changes). (q : Place) → changes_at (map.get m q) (map.get base q) ≡ true) (sym e) c.self.invariant)

pub returns-clause-ok : goal.returns-clause-ok
returns-clause-ok c =
    let base = c.self.inside.base.value in
    let node = c.args.node.now in
    let items = c.in_ok-gone.ensures ∙ ap (λ b. gone_of node (map.entries b)) c.deref.ensures in
    on_ok c.replace_under.result
    (λ is. overridden-taken base c.self.inside.pairs c.replace_under.new.self node (λ q. is q ∙ ap (λ (l : List Pair). cond (is_under node q) (map.find path_cmp q l) (map.get c.self.inside.pairs q)) items)
    ∙ ap (λ o. without_under o.rows node) c.self.view_is)
    (on_each c.replace_under.result (λ q. map.get c.replace_under.new.self q ≡ cond (is_under node q) (map.find path_cmp q c.in_ok-gone.gone.items) (map.get c.self.inside.pairs q)) c.replace_under.ensures.ok)
