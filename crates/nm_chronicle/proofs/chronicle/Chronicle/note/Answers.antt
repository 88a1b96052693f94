use Rattle.std.proofs.Common.{◌≡◌, ◌+◌, ◌-◌, ap, sym, ◌∙◌, subst, arith, vec_capacity}
use Rattle.nm_chronicle.specs.Board.{BoardHolds, counted}
use Rattle.nm_chronicle.proofs.Boards.{noted_holds}
use Rattle.nm_chronicle.proofs.chronicle.Chronicle.note.Goals as goal

pub invariant_of-self : goal.invariant_of-self
invariant_of-self c c' =
    let old = c'.self.inside in
    let board = c'.board.inside in
    let marks = c'.mark_board.ensures in
    let fits = c'.self.invariant.2 in
    let same = marks.capacity in
    let used = c'.requires.room in
    let spare = ap (λ s. s.spare) c'.self.view_is in
    let holds = subst (BoardHolds c.N.RunPlans.devices c.N.RunPlans.changes) (sym c'.board.view_is) c'.self.invariant.0 in
    let total = subst (λ b. old.book.total ≡ counted b.lines old.strays.items) (sym c'.board.view_is) c'.self.invariant.1 in
    noted_holds c.N.RunPlans.devices c.N.RunPlans.changes (record { devices = board.devices; lines = board.lines.items }) c'.mark_board.new.lines.items old.strays.items c'.mark_board.new.strays.items c'.args.change c'.args.mark old.spare (old.spare - 1) old.book.total c'.add.new.self.total (vec_capacity c'.mark_board.new.strays)
    holds marks.marks total (c'.add.ensures.total ∙ ap (λ n. old.book.total + n) (sym c'.requires.once)) (omega (arith, fits, same)) (omega (arith, used, spare))
