use Rattle.std.proofs.Common.{◌≡◌, ap, sym, ◌∙◌}
use Rattle.nm_decider.specs.Course.{CourseState, with_sent, with_verdict}
use Rattle.nm_manager.specs.Slot.{breaks_current}
use Rattle.nm_work.proofs.laws.breaks_and_verdicts_teach_alike.Goals as goal

pub returns-clause-broken : goal.returns-clause-broken
returns-clause-broken c = λ work device number side is. sym (ap (λ current. (breaks_current (with_sent work.course device) side device current).course) is)

pub returns-clause-decided : goal.returns-clause-decided
returns-clause-decided c = λ work slot verdict same. ap (λ (course : CourseState). with_verdict course verdict) same
