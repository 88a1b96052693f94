use Rattle.std.proofs.Common.{◌≡◌, arith}
use Rattle.std.proofs.lemmas.Grind.{common_steps}
use Rattle.nm_decider.specs.Course.{seats_from, seat_count}
use Rattle.nm_decider.proofs.Seats.{seats_from-left, seats_end}
use Rattle.nm_decider.proofs.course.seats_of.Goals as goal

pub loop-number-preserved : goal.loop-number-preserved
loop-number-preserved c =
    let e = seats_from-left c.args.devices.0 c.args.stage c.loop-number.number 33 c.loop-number.number (omega arith) in
    grind (arith, common_steps, e)

pub returns-clause-seats : goal.returns-clause-seats
returns-clause-seats c =
    let last : c.loop-number.number ≡ 33 = omega (arith, c.loop-number.auto.number, c.loop-number.auto.number-end) in
    seats_end c.args.devices.0 c.args.stage c.loop-number.number c.loop-number.seats.items (seats_from c.args.devices.0 c.args.stage 1 seat_count) last c.loop-number.invariant.1
