use Rattle.std.proofs.Common.{◌≡◌, ◌≤◌, ◌∙◌, length, sym, subst, ap, IfOk}
use Rattle.nm_world.specs.Report.{report_from}
use Rattle.nm_world.proofs.report.report_from.Goals as goal

pub report_by-requires : goal.report_by-requires
report_by-requires g c = record { few = subst (λ devices. length devices ≤ 32) (sym (c.as_slice.ensures.value ∙ c.in_ok-tellings.ensures)) c.requires.few }

pub returns : goal.returns
returns g c =
    let manager = c.args.manager.now in
    subst (λ devices. IfOk c.report_by.result (λ report. report ≡ report_from devices manager.state (length manager.plans)))
    (c.as_slice.ensures.value ∙ c.in_ok-tellings.ensures) c.report_by.ensures
