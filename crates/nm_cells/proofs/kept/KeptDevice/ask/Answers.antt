use Rattle.std.proofs.Common.{◌-◌, ◌^◌, ap, refl, sym, ◌∙◌, arith, vec_capacity}
use Rattle.nm_history.specs.declared.event.DeviceEvent.TheVariants.{Asked}
use Rattle.nm_device.specs.Table.{device_step}
use Rattle.nm_sessions.specs.Sessions.{is_open}
use Rattle.nm_history.specs.History.{answered, noted}
use Rattle.nm_cells.specs.Kept.{KeptState, beside, is_managers}
use Rattle.nm_cells.specs.Faults.{due}
use Rattle.nm_cells.specs.Follows.{clock_if}
use Rattle.nm_cells.proofs.Follows.{follows_request}
use Rattle.nm_cells.proofs.Keeps.{kept_at, asked_happens, rests, is_in_time, room_left, counted_left, managers_same}
use Rattle.nm_cells.proofs.kept.KeptDevice.ask.Goals as goal

pub invariant_of-self-2 : goal.invariant_of-self-2
invariant_of-self-2 g c =
    let it = c.self.inside in
    let old : KeptState g.row.C-Config.Denot g.row.C-Node.Denot = record { number = it.number; recorded = beside it.device it.history.items; spare = it.spare; faults = it.faults } in
    let new = beside c.ask.new.device c.ask.new.history.items in
    let meaning = g.C.Content.meaning in
    let laws = g.met.C.Content.laws in
    let run = g.N.RunName.run in
    let event = (Asked c.args.session c.args.request.now) in
    let h = answered it.device c.args.request.now (device_step (meaning c.args.content.now) c.args.tables.now it.device c.args.session c.args.request.now) in
    let faults = c.count_if.new.self in
    let counted = c.count_if.ensures.counted in
    let is = c.in_ok-told.ensures.served.1 in
    let longer = ap (λ r. r.history) is in
    let rises = rests meaning laws run old c.ask.new.device.clock c.args.counts faults c.ask.ensures.clock counted c.count_if.ensures.few c.self.invariant.0 in
    let some = c.requires.room in
    let spare = ap (λ s. s.spare) c.self.view_is in
    let fits = c.self.invariant.1 in
    let same = c.ask.ensures.capacity in (
      kept_at meaning laws run c.args.content.now old new (it.spare - 1) faults event h c.requires.content (asked_happens meaning laws run c.args.content.now c.args.tables.now it.device c.args.session c.args.request.now c.requires.tables (ap (λ s. is_open s.recorded.device.sessions c.args.session) c.self.view_is ∙ c.requires.open) c.requires.asks) c.ask.ensures.sound is rises c.self.invariant.0,
      room_left it.history.items c.ask.new.history.items (noted event h) it.spare (vec_capacity c.ask.new.history) longer (omega (arith, some, spare)) (omega (arith, fits, same)),
      room_left it.history.items c.ask.new.history.items (noted event h) it.spare (2 ^ 32 - 1) longer (omega (arith, some, spare)) c.self.invariant.2,
      counted_left it.history.items c.ask.new.history.items (noted event h) c.args.counts it.faults faults longer counted c.self.invariant.3,
      managers_same it.managers.items it.history.items c.ask.new.history.items (noted event h) longer refl c.self.invariant.4,
      follows_request c.args.counts it.faults faults it.history.items c.ask.new.history.items (noted event h) longer counted (c.requires.counts ∙ sym (ap (λ s. is_managers c.args.session s.recorded.history) c.self.view_is)) refl refl refl
          (ap (λ s. clock_if c.args.counts (due s.faults)) c.self.view_is ∙ c.requires.clock) c.self.invariant.5,
    )

pub ask-requires-clause-in_time : goal.ask-requires-clause-in_time
ask-requires-clause-in_time g c = is_in_time c.self.inside.device.clock c.self.inside.faults.spent c.self.invariant.0.clock c.self.invariant.0.few
