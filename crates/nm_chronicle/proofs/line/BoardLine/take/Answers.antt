use Rattle.std.proofs.Common.{◌≡◌}
use Rattle.nm_chronicle.specs.declared.mark.Mark.TheVariants.{Applied, Acked, Confirmed, Cancelled}
use Rattle.nm_chronicle.specs.Line.{Keeps}
use Rattle.nm_chronicle.proofs.Lines.{keeps}
use Rattle.nm_chronicle.proofs.line.BoardLine.take.Goals as goal

pub returns-in-Applied-clause-keeps : goal.returns-in-Applied-clause-keeps
returns-in-Applied-clause-keeps c =
    rw c.in-Applied.is (keeps c.args.self.now c.apply.new.self _ c.apply.result (c.apply.ensures.low, c.apply.ensures.high) c.requires.holds c.apply.ensures.taken)

pub returns-in-Acked-clause-keeps : goal.returns-in-Acked-clause-keeps
returns-in-Acked-clause-keeps c =
    rw c.in-Acked.is (keeps c.args.self.now c.ack.new.self _ c.ack.result (c.ack.ensures.low, c.ack.ensures.high) c.requires.holds c.ack.ensures.taken)

pub returns-in-Confirmed-clause-keeps : goal.returns-in-Confirmed-clause-keeps
returns-in-Confirmed-clause-keeps c =
    rw c.in-Confirmed.is (keeps c.args.self.now c.confirm.new.self _ c.confirm.result (c.confirm.ensures.low, c.confirm.ensures.high) c.requires.holds c.confirm.ensures.taken)

pub returns-in-Cancelled-clause-keeps : goal.returns-in-Cancelled-clause-keeps
returns-in-Cancelled-clause-keeps c =
    rw c.in-Cancelled.is (keeps c.args.self.now c.cancel.new.self _ c.cancel.result (c.cancel.ensures.low, c.cancel.ensures.high) c.requires.holds c.cancel.ensures.taken)
