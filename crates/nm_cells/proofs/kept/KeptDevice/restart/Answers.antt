use Rattle.std.proofs.Common.{◌-◌, ◌^◌, true, ap, refl, sym, ◌∙◌, arith, vec_capacity}
use Rattle.nm_history.specs.declared.event.DeviceEvent.TheVariants.{Restarted}
use Rattle.nm_history.specs.History.{restarting, noted}
use Rattle.nm_cells.specs.Kept.{KeptState, beside}
use Rattle.nm_proto.specs.declared.fault.PlanFault.TheVariants.{Restart}
use Rattle.nm_cells.specs.Faults.{due}
use Rattle.nm_cells.specs.Follows.{clock_of_due}
use Rattle.nm_cells.proofs.Follows.{follows_break, due_breaks}
use Rattle.nm_cells.proofs.Keeps.{kept_at, rests, room_left, counted_left, managers_same}
use Rattle.nm_cells.proofs.kept.KeptDevice.restart.Goals as goal

pub invariant_of-self : goal.invariant_of-self
invariant_of-self g c =
    let it = c.self.inside in
    let old : KeptState g.row.C-Config.Denot g.row.C-Node.Denot = record { number = it.number; recorded = beside it.device it.history.items; spare = it.spare; faults = it.faults } in
    let new = beside c.restart.new.device c.restart.new.history.items in
    let meaning = g.C.Content.meaning in
    let laws = g.met.C.Content.laws in
    let run = g.N.RunName.run in
    let event = Restarted in
    let h = restarting (meaning c.args.content.now) it.device in
    let faults = c.count_if.new.self in
    let counted = c.count_if.ensures.counted in
    let is = c.restart.ensures.restarted.1 in
    let longer = ap (λ r. r.history) is in
    let rises = rests meaning laws run old c.restart.new.device.clock true faults c.restart.ensures.clock counted c.count_if.ensures.few c.self.invariant.0 in
    let some = c.requires.room in
    let spare = ap (λ s. s.spare) c.self.view_is in
    let fits = c.self.invariant.1 in
    let now = ap (λ s. due s.faults) c.self.view_is ∙ c.requires.due in
    let same = c.restart.ensures.capacity in (
      kept_at meaning laws run c.args.content.now old new (it.spare - 1) faults event h c.requires.content refl c.restart.ensures.sound is rises c.self.invariant.0,
      room_left it.history.items c.restart.new.history.items (noted event h) it.spare (vec_capacity c.restart.new.history) longer (omega (arith, some, spare)) (omega (arith, fits, same)),
      room_left it.history.items c.restart.new.history.items (noted event h) it.spare (2 ^ 32 - 1) longer (omega (arith, some, spare)) c.self.invariant.2,
      counted_left it.history.items c.restart.new.history.items (noted event h) true it.faults faults longer counted c.self.invariant.3,
      managers_same it.managers.items it.history.items c.restart.new.history.items (noted event h) longer refl c.self.invariant.4,
      follows_break true it.faults faults it.history.items c.restart.new.history.items (noted event h) longer counted refl refl (λ e. due_breaks it.faults Restart now refl) (sym (ap clock_of_due now)) c.self.invariant.5,
    )
