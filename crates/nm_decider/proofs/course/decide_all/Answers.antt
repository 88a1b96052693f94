use Rattle.std.proofs.Common.{◌<◌, length, arith}
use Rattle.nm_decider.specs.Course.{decided_seat}
use Rattle.nm_decider.proofs.Seats.{changed_at}
use Rattle.nm_decider.proofs.course.decide_all.Goals as goal

pub loop-place-preserved : goal.loop-place-preserved
loop-place-preserved c =
    let within : c.loop-place.place < length c.args.seats.now = omega arith in
    changed_at (decided_seat c.args.verdict.now) c.args.seats.now c.loop-place.seats c.loop-place.place _ c.decided_seat.result
    c.loop-place.invariant within c.decided_seat.ensures
