use Rattle.std.proofs.Common.{◌≡◌, true, Some, ap, sym, subst, ◌∙◌}
use Rattle.std.specs.Prelude.{◌↔◌, IsTrue, Option}
use Rattle.std.specs.FinMap as map
use Rattle.nm_types.specs.declared.value.Value.{Value}
use Rattle.nm_overlay.specs.Differences.{Changes, changes_at, overridden}
use Rattle.nm_overlay.proofs.Order.{Place}
use Rattle.nm_overlay.proofs.Mapped.{whichever, on_ok}
use Rattle.nm_overlay.proofs.Said.{put_rows, put_changes}
use Rattle.nm_overlay.proofs.overlay.OverlayRowMap.put.Goals as goal

pub invariant_of-self : goal.invariant_of-self
invariant_of-self c =
    let base = c.self.inside.base.value in
    let tells = subst (λ (o : Option Value). IsTrue c.is_value-kept.result ↔ (o ≡ Some c.args.value)) (c.value.ensures
    ∙ ap (λ b. map.get b c.args.path) c.deref.ensures) c.is_value-kept.ensures in
    whichever c.set.result c.set.ensures.ok c.set.ensures.err
    (λ e. subst (λ (m : Changes). (q : Place) → changes_at (map.get m q) (map.get base q) ≡ true) (sym e) (put_changes base c.self.inside.pairs c.args.path c.args.value c.is_value-kept.result tells c.self.invariant))
    (λ e. subst (λ (m : Changes). (q : Place) → changes_at (map.get m q) (map.get base q) ≡ true) (sym e) c.self.invariant)

pub returns-clause-ok : goal.returns-clause-ok
returns-clause-ok c =
    let base = c.self.inside.base.value in
    let tells = subst (λ (o : Option Value). IsTrue c.is_value-kept.result ↔ (o ≡ Some c.args.value)) (c.value.ensures
    ∙ ap (λ b. map.get b c.args.path) c.deref.ensures) c.is_value-kept.ensures in
    on_ok c.set.result
    (λ e. ap (overridden base) e ∙ put_rows base c.self.inside.pairs c.args.path c.args.value c.is_value-kept.result tells
    ∙ ap (λ o. map.insert o.rows c.args.path c.args.value) c.self.view_is)
    c.set.ensures.ok
