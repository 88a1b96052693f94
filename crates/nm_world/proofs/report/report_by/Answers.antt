use Rattle.std.proofs.Common.{◌≡◌, ◌≤◌, ◌<◌, ◌-◌, [], ◌++◌, List, length, ap, ◌∙◌, arith}
use Rattle.nm_world.specs.declared.report.Pair.{Pair}
use Rattle.nm_world.specs.declared.report.Report.{Report}
use Rattle.nm_world.specs.Report.{each_from, differing, unsettling}
use Rattle.nm_world.proofs.Searches.{all_of, one_given, all_given}
use Rattle.nm_world.proofs.report.report_by.Goals as goal

made : (differ unsettled : List Pair) (r : Report) → r.differ ≡ differ → r.unsettled ≡ unsettled → r ≡ record { differ = differ; unsettled = unsettled }
made differ unsettled r a b = ap (λ d. record { differ = d; unsettled = r.unsettled }) a ∙ ap (λ u. record { differ = differ; unsettled = u }) b

pub loop-place-init : goal.loop-place-init
loop-place-init g c =
    let first = differing c.args.devices.now c.args.manager.now.state.entries in
    let second = unsettling c.args.devices.now c.args.manager.now.state in
    let n = length c.args.manager.now.plans in (
      ap (λ (xs : List Pair). xs ++ each_from first 1 (n - 0)) c.new.ensures ∙ all_of first [] n,
      ap (λ (xs : List Pair). xs ++ each_from second 1 (n - 0)) c.new-2.ensures ∙ all_of second [] n,
    )

pub loop-place-preserved : goal.loop-place-preserved
loop-place-preserved g c =
    let first = differing c.args.devices.now c.args.manager.now.state.entries in
    let second = unsettling c.args.devices.now c.args.manager.now.state in
    let n = length c.args.manager.now.plans in
    let size : length c.plans-place-end.result.now ≡ length c.args.manager.now.plans = ap length c.plans-place-end.ensures.value in
    let within : c.loop-place.place < length c.args.manager.now.plans = omega (arith, size, c.loop-place-test.true) in (
      one_given first c.loop-place.report.differ c.push_change.new.report.differ (each_from first 1 n) c.loop-place.place n c.change_in.result c.change_in.ensures
          c.in_ok-push_change.ensures.differ c.loop-place.invariant.0 within,
      one_given second c.loop-place.report.unsettled c.push_change.new.report.unsettled (each_from second 1 n) c.loop-place.place n c.change_in.result c.change_in.ensures
          c.in_ok-push_change.ensures.unsettled c.loop-place.invariant.1 within,
    )

pub returns : goal.returns
returns g c =
    let first = differing c.args.devices.now c.args.manager.now.state.entries in
    let second = unsettling c.args.devices.now c.args.manager.now.state in
    let n = length c.args.manager.now.plans in
    let size : length c.plans-place-end.result.now ≡ length c.args.manager.now.plans = ap length c.plans-place-end.ensures.value in
    let over : length c.args.manager.now.plans ≤ c.loop-place.place = omega (arith, size, c.loop-place-test.false) in
    made (each_from first 1 n) (each_from second 1 n) c.loop-place.report
    (all_given first c.loop-place.report.differ (each_from first 1 n) c.loop-place.place n c.loop-place.invariant.0 over)
    (all_given second c.loop-place.report.unsettled (each_from second 1 n) c.loop-place.place n c.loop-place.invariant.1 over)
