use Rattle.std.proofs.Common.{◌≡◌, ◌+◌, ◌-◌, ap, sym, ◌∙◌, subst, arith, vec_capacity}
use Rattle.nm_chronicle.specs.declared.mark.Mark.TheVariants.{Decided}
use Rattle.nm_chronicle.specs.Board.{BoardHolds, counted}
use Rattle.nm_chronicle.proofs.Boards.{noted_holds}
use Rattle.nm_chronicle.proofs.chronicle.Chronicle.decided.Goals as goal

pub invariant_of-self : goal.invariant_of-self
invariant_of-self g c =
    let old = c.self.inside in
    let board = c.board.inside in
    let marks = c.mark_board.ensures in
    let fits = c.self.invariant.2 in
    let same = marks.capacity in
    let used = c.requires.room in
    let spare = ap (λ s. s.spare) c.self.view_is in
    let one = c.add.ensures.total in
    let two = c.add-2.ensures.total in
    let holds = subst (BoardHolds g.N.RunPlans.devices g.N.RunPlans.changes) (sym c.board.view_is) c.self.invariant.0 in
    let total = subst (λ b. old.book.total ≡ counted b.lines old.strays.items) (sym c.board.view_is) c.self.invariant.1 in
    noted_holds g.N.RunPlans.devices g.N.RunPlans.changes (record { devices = board.devices; lines = board.lines.items }) c.mark_board.new.lines.items old.strays.items c.mark_board.new.strays.items c.args.change (Decided c.args.verdict) old.spare (old.spare - 1) old.book.total c.add-2.new.self.total (vec_capacity c.mark_board.new.strays)
    holds marks.marks total (omega (arith, one, two)) (omega (arith, fits, same)) (omega (arith, used, spare))
