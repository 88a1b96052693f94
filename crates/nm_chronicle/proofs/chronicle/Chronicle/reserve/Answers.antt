use Rattle.std.proofs.Common.{◌≡◌, ◌+◌, ◌≤◌, length, vec_capacity, ap, sym, ◌∙◌, subst, arith}
use Rattle.nm_chronicle.specs.Board.{counted}
use Rattle.nm_chronicle.proofs.Fresh.{fresh_holds}
use Rattle.nm_chronicle.proofs.chronicle.Chronicle.reserve.Goals as goal

pub invariant_of-chronicle : goal.invariant_of-chronicle
invariant_of-chronicle g c =
    let fresh = fresh_holds c.args.devices g.N.RunPlans.devices c.args.changes.now g.N.RunPlans.changes c.in_ok-lines.lines.items c.requires.devices c.requires.changes c.in_ok-lines.ensures in
    let none = c.new.ensures.items in
    let few : length c.new.result.items ≡ 0 = ap length none in
    (fresh.0, c.open-book.ensures.total ∙ fresh.1 ∙ ap (counted c.in_ok-lines.lines.items) (sym none), omega (arith, few))
