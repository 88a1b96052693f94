use Rattle.std.proofs.Common.{◌≡◌, subst, length, IfOk}
use Rattle.nm_world.specs.Report.{report_from, report_in}
use Rattle.nm_world.specs.World.{CoreValue}
use Rattle.nm_world.proofs.world_core.WorldCore.report.Goals as goal

pub returns : goal.returns
returns g c =
    let manager = c.self.inside.manager in
    let result = c.report_from.result in
    subst (λ (w : CoreValue _ _ _ _). IfOk result (λ report. report ≡ report_in w.setting w.state)) c.self.view_is
    (subst (λ devices. IfOk result (λ report. report ≡ report_from devices manager.state (length manager.plans))) c.deref.ensures.value c.report_from.ensures)
