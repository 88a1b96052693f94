use Rattle.std.proofs.Common.{◌-◌, ◌^◌, false, ap, refl, ◌∙◌, arith, vec_capacity}
use Rattle.nm_history.specs.declared.event.DeviceEvent.TheVariants.{Entered}
use Rattle.nm_history.specs.History.{entering, noted}
use Rattle.std.proofs.lemmas.Option.{same_Some}
use Rattle.nm_device.specs.Table.{opened}
use Rattle.nm_cells.specs.Kept.{KeptState, beside, with_opened}
use Rattle.nm_cells.specs.Faults.{due}
use Rattle.nm_cells.specs.Follows.{clock_if}
use Rattle.nm_cells.proofs.Follows.{follows_request}
use Rattle.nm_cells.proofs.Keeps.{kept_entered, rests, room_left, counted_left, managers_opened}
use Rattle.nm_cells.proofs.kept.KeptDevice.enter.Goals as goal

pub invariant_of-self-2 : goal.invariant_of-self-2
invariant_of-self-2 g c =
    let it = c.self.inside in
    let old : KeptState g.row.C-Config.Denot g.row.C-Node.Denot = record { number = it.number; recorded = beside it.device it.history.items; spare = it.spare; faults = it.faults } in
    let new = beside c.enter.new.device c.enter.new.history.items in
    let meaning = g.C.Content.meaning in
    let laws = g.met.C.Content.laws in
    let run = g.N.RunName.run in
    let event = Entered c.args.user in
    let h = entering it.device c.args.user in
    let faults = c.count_if.new.self in
    let counted = c.count_if.ensures.counted in
    let told = c.in_ok-told.ensures.served.0 in
    let is = c.in_ok-told.ensures.served.1 in
    let longer = ap (λ r. r.history) is in
    let rises = rests meaning laws run old c.enter.new.device.clock c.args.counts faults c.enter.ensures.clock counted c.count_if.ensures.few c.self.invariant.0 in
    let manages = c.is_manager-is_manager.result in
    let reply = (opened it.device c.args.user).reply in
    let some = c.requires.room in
    let spare = ap (λ s. s.spare) c.self.view_is in
    let fits = c.self.invariant.1 in
    let same = c.enter.ensures.capacity in (
      kept_entered meaning laws run old new (it.spare - 1) faults c.args.user c.enter.new.device.sessions c.enter.ensures.only_sessions is rises c.self.invariant.0,
      room_left it.history.items c.enter.new.history.items (noted event h) it.spare (vec_capacity c.enter.new.history) longer (omega (arith, some, spare)) (omega (arith, fits, same)),
      room_left it.history.items c.enter.new.history.items (noted event h) it.spare (2 ^ 32 - 1) longer (omega (arith, some, spare)) c.self.invariant.2,
      counted_left it.history.items c.enter.new.history.items (noted event h) c.args.counts it.faults faults longer counted c.self.invariant.3,
      managers_opened it.managers.items c.keep_opened.new.managers.items it.history.items c.enter.new.history.items c.args.user reply false manages longer c.is_manager-is_manager.ensures
          (c.keep_opened.ensures ∙ (ap (λ t. with_opened manages t.reply c.reserve.new.self.items) (same_Some _ _ told) ∙ ap (with_opened manages reply) c.reserve.ensures.items)) c.self.invariant.4,
      follows_request c.args.counts it.faults faults it.history.items c.enter.new.history.items (noted event h) longer counted c.requires.counts refl refl refl (ap (λ s. clock_if c.args.counts (due s.faults)) c.self.view_is ∙ c.requires.clock) c.self.invariant.5,
    )
