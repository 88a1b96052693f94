use Rattle.std.proofs.Common.{◌≡◌, ℕ, [], List, Some, ap, sym, ◌∙◌, subst, arith, length}
use Rattle.nm_history.specs.declared.event.Noted.{Noted}
use Rattle.nm_cells.specs.Kept.{IsKept, AreManagers, beside}
use Rattle.nm_cells.proofs.Keeps.{kept_fresh, no_managers}
use Rattle.nm_cells.proofs.Follows.{follows_new}
use Rattle.nm_cells.proofs.kept.KeptDevice.new.Goals as goal

pub invariant_of-result : goal.invariant_of-result
invariant_of-result g c =
    let meaning = g.C.Content.meaning in
    let run = g.N.RunName.run in
    let none = c.new.ensures.items in
    let faults = c.new-2.result in
    let is = c.new-2.ensures in
    let long : length c.new.result.items ≡ 0 = ap length none in
    let counted = ap (λ f. f.counted) is in (
      subst (λ (h : List Noted). IsKept meaning run (record { number = c.args.number; recorded = beside c.args.device h; spare = 0; faults = faults })) (sym none)
          (kept_fresh meaning g.met.C.Content.laws run c.args.number 0 c.args.device faults c.requires.first c.requires.fresh c.requires.sound (c.requires.planned ∙ ap (λ f. Some f.plan) (sym is)) (ap (λ f. f.spent) is)),
      omega (arith, long),
      omega (arith, long),
      omega (arith, counted),
      subst (λ (ms : List ℕ). AreManagers ms c.new.result.items) (sym c.new-3.ensures.items) (subst (AreManagers []) (sym none) no_managers),
      follows_new faults c.args.plan.items c.new.result.items is none c.requires.plan,
    )
