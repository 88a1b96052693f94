use Rattle.std.proofs.Common.{rules, ◌≡◌, ◌-◌, true, Some, slice_get, sym, ap, ◌∙◌}
use Rattle.nm_history.specs.History.{event_of}
use Rattle.nm_slots.specs.Course.{may_ask}
use Rattle.nm_slots.proofs.Courses.{kept_after}
use Rattle.nm_slots.proofs.slot.ask.Goals as goal

-- what the call found keeps the slot
pub invariant_of-slot-2 : goal.invariant_of-slot-2
invariant_of-slot-2 g c =
    let plan : slice_get g.N.RunPlans.changes (c.slot.inside.change - 1) ≡ Some c.in-Some.plan.now =
    ap (λ plans. slice_get plans (c.slot.inside.change - 1)) c.requires.plans ∙ sym c.in-Some.ensures in
    let may : may_ask c.in-Some.plan.now c.slot.inside.change c.args.cell.now.device c.slot.inside.pass.entries (event_of c.args.session.now c.args.request.now) ≡ true = search rules in
    kept_after g.N.RunPlans.changes c.slot.inside.change c.in-Some.plan.now c.slot.inside.shares c.ask_change.new.slot c.slot.inside.pass c.ask_change.new.pass c.args.request.now
    (event_of c.args.session.now c.args.request.now) c.args.cell.now.device c.ask_change.result plan may c.slot.invariant c.ask_change.ensures.found c.ask_change.ensures.owner c.ask_change.ensures.unchanged
    c.ask_change.ensures.slot c.ask_change.ensures.slot_stays
