use Rattle.std.proofs.Common.{◌≡◌, ◌+◌, ◌<◌, length, ap, ◌∙◌, arith, rules}
use Rattle.nm_proto.specs.Plan.{devices_in}
use Rattle.nm_manager.specs.Manager.{starts_anew}
use Rattle.nm_manager.proofs.Slots.{anew_step, length_same}
use Rattle.nm_manager.proofs.manager.all_anew.Goals as goal

pub loop-place-preserved : goal.loop-place-preserved
loop-place-preserved c =
    let entries = c.args.entries.now in
    let place = c.loop-place.place in
    let plan = c.index-plans-place.result in
    let slot = c.index_mut.result.now in
    let within : place < length c.args.plans.now = omega arith in
    let number : c.unwrap-change.result ≡ place + 1 = search rules in
    let anew : c.start_anew.new.self ≡ starts_anew entries (place + 1) (devices_in plan.edits) slot =
    c.start_anew.ensures ∙ ap (λ k. starts_anew entries k c.devices.result.0 slot) number ∙ ap (λ d. starts_anew entries (place + 1) d slot) c.devices.ensures.value in (
      length_same c.loop-place.slots.items place c.start_anew.new.self ∙ c.loop-place.invariant.0,
      anew_step entries (place + 1) c.args.plans.now c.loop-place.slots.items place plan slot c.start_anew.new.self within c.loop-place.invariant.0 c.index-plans-place.is c.index_mut.ensures.value anew
          ∙ c.loop-place.invariant.1,
    )
