use Rattle.std.proofs.Common.{◌-◌, ◌^◌, ap, refl, ◌∙◌, arith, vec_capacity}
use Rattle.nm_history.specs.declared.event.DeviceEvent.TheVariants.{Advanced}
use Rattle.nm_history.specs.History.{advancing, noted}
use Rattle.nm_cells.specs.Faults.{due}
use Rattle.nm_cells.specs.Kept.{KeptState, beside}
use Rattle.nm_cells.proofs.Follows.{follows_advance}
use Rattle.nm_cells.proofs.Keeps.{kept_at, rises, is_in_time, room_left, came_left, managers_same}
use Rattle.nm_cells.proofs.kept.KeptDevice.advance.Goals as goal

pub invariant_of-self : goal.invariant_of-self
invariant_of-self g c =
    let it = c.self.inside in
    let old : KeptState g.row.C-Config.Denot g.row.C-Node.Denot = record { number = it.number; recorded = beside it.device it.history.items; spare = it.spare; faults = it.faults } in
    let new = beside c.advance.new.device c.advance.new.history.items in
    let meaning = g.C.Content.meaning in
    let laws = g.met.C.Content.laws in
    let run = g.N.RunName.run in
    let event = Advanced c.args.seconds in
    let h = advancing (meaning c.args.content.now) it.device c.args.seconds in
    let faults = c.come.new.self in
    let came = c.come.ensures.came in
    let is = c.advance.ensures.advanced.1 in
    let longer = ap (λ r. r.history) is in
    let risen = rises meaning laws run old c.advance.new.device.clock c.args.seconds faults c.advance.ensures.clock (ap (λ s. due s.faults) c.self.view_is ∙ c.requires.due) c.ranges.seconds.fits came c.come.ensures.few c.self.invariant.0 in
    let some = c.requires.room in
    let spare = ap (λ s. s.spare) c.self.view_is in
    let fits = c.self.invariant.1 in
    let same = c.advance.ensures.capacity in (
      kept_at meaning laws run c.args.content.now old new (it.spare - 1) faults event h c.requires.content refl c.advance.ensures.sound is risen c.self.invariant.0,
      room_left it.history.items c.advance.new.history.items (noted event h) it.spare (vec_capacity c.advance.new.history) longer (omega (arith, some, spare)) (omega (arith, fits, same)),
      room_left it.history.items c.advance.new.history.items (noted event h) it.spare (2 ^ 32 - 1) longer (omega (arith, some, spare)) c.self.invariant.2,
      came_left it.history.items c.advance.new.history.items (noted event h) it.faults faults longer came c.self.invariant.3,
      managers_same it.managers.items it.history.items c.advance.new.history.items (noted event h) longer refl c.self.invariant.4,
      follows_advance it.faults faults it.history.items c.advance.new.history.items c.args.seconds h.undone longer came (ap (λ s. due s.faults) c.self.view_is ∙ c.requires.due) c.self.invariant.5,
    )

pub advance-requires-clause-in_time : goal.advance-requires-clause-in_time
advance-requires-clause-in_time g c = is_in_time c.self.inside.device.clock c.self.inside.faults.spent c.self.invariant.0.clock c.self.invariant.0.few
