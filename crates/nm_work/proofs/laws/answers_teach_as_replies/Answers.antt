use Rattle.std.proofs.Common.{◌≡◌, ap, sym, ◌∙◌}
use Rattle.nm_resync.specs.Resync.{ResyncState}
use Rattle.nm_manager.specs.Slot.{awaits_resync, learns, receives_due, resync_goes_on}
use Rattle.nm_decider.specs.Course.{CourseState}
use Rattle.nm_wire.specs.Wire.{handled}
use Rattle.std.specs.Prelude.{slice_get, ◌-◌}
use Rattle.nm_work.proofs.laws.answers_teach_as_replies.Goals as goal

pub returns-clause-course : goal.returns-clause-course
returns-clause-course c = λ course sides device link number what own side exchange is same.
    let resyncs = awaits_resync (slice_get course.seats (device - 1)) in
    ap (λ (r : ResyncState). learns resyncs course device exchange.reply (resync_goes_on resyncs r exchange.reply)) same
    ∙ sym (ap (λ found. (receives_due resyncs course side device (handled side.wire link number) found).course) is)

pub returns-clause-resync : goal.returns-clause-resync
returns-clause-resync c = λ course device link number what own side exchange is same.
    let resyncs = awaits_resync (slice_get course.seats (device - 1)) in
    ap (λ (r : ResyncState). resync_goes_on resyncs r exchange.reply) same
    ∙ sym (ap (λ found. (receives_due resyncs course side device (handled side.wire link number) found).side.resync) is)
