use Rattle.nm_chronicle.proofs.Boards.{marks_strayed, marks_taken}
use Rattle.nm_chronicle.proofs.chronicle.mark_board.Goals as goal

pub returns-then-not-mark_line-clause-marks : goal.returns-then-not-mark_line-clause-marks
returns-then-not-mark_line-clause-marks c =
    marks_strayed c.args.lines.now.items c.mark_line.new.lines.items c.args.strays.now.items c.push_reserved.new.self.items c.args.change c.args.mark c.mark_line.result c.if-not-mark_line.true c.mark_line.ensures c.push_reserved.ensures.items

pub returns-else-not-mark_line-clause-marks : goal.returns-else-not-mark_line-clause-marks
returns-else-not-mark_line-clause-marks c =
    marks_taken c.args.lines.now.items c.mark_line.new.lines.items c.args.strays.now.items c.args.change c.args.mark c.mark_line.result c.if-not-mark_line.false c.mark_line.ensures
