use Rattle.std.proofs.Common.{◌++◌, length, ap, ◌∙◌}
use Rattle.std.proofs.lemmas.Result.{on_ok_weaker}
use Rattle.nm_recovery.specs.Recovery.{verdict_in}
use Rattle.nm_manager.specs.Slot.{to_commit}
use Rattle.nm_world.specs.Report.{differs_at, differing, unsettling, each_from}
use Rattle.nm_world.proofs.report.push_change.Goals as goal

pub returns-clause-differ : goal.returns-clause-differ
unfolding differing
returns-clause-differ g c =
    let devices = c.args.devices.now in
    on_ok_weaker c.push_unsettled.result
    (λ _. c.in_ok-push_differing.ensures
    ∙ ap (λ committed. c.args.report.now.differ ++ each_from (differs_at devices committed c.args.change) 1 (length devices))
    (c.is_committed-committed.ensures ∙ ap (λ entries. to_commit (verdict_in c.args.change entries)) c.entries-entries.ensures.value))
    c.push_unsettled.ensures

pub returns-clause-unsettled : goal.returns-clause-unsettled
unfolding unsettling
returns-clause-unsettled g c = c.push_unsettled.ensures
