use Rattle.std.proofs.Common.{◌≡◌, ◌∙◌, false, refl, ap, sym, subst, length, take, arith, rules}
use Rattle.std.proofs.lemmas.List.{take_all}
use Rattle.std.proofs.lemmas.List.Elements.{All-take}
use Rattle.nm_world.specs.Runs.{IsNumbered, NoneStrange}
use Rattle.nm_world.specs.World.{WorldState, WorldValue, journal_of, with_state, is_crash, run}
use Rattle.nm_world.proofs.Clocks.{time_all, time_first, time_left, time_next}
use Rattle.nm_world.proofs.Passing.{none_did, ready_then, rose_since, tells_entries}
use Rattle.nm_world.proofs.Rereading.{run_plain}
use Rattle.nm_permitted.specs.Permitted.{PassesTo, permitted}
use Rattle.nm_permitted.proofs.Chains.{judged_did, permitted_end, permitted_left}
use Rattle.nm_permitted.proofs.Judged.{judged_is_run}
use Rattle.nm_permitted.proofs.Kept.{permitted_keeps}
use Rattle.nm_permitted.proofs.Told.{passes_calm, passes_told, run_passes}
use Rattle.nm_permitted.proofs.run.run_permitted.Goals as goal

pub loop-event-init : goal.loop-event-init
loop-event-init g c = (
  none_did c.args.world (g.D.Disk.state c.args.disk.now) c.requires.ready (g.met.D.Disk.only_now c.args.disk.now),
  time_first c.args.world.state.devices,
  omega arith,
  record { stays = refl; none = refl },
)

pub pass-requires-clause-given : goal.pass-requires-clause-given
pass-requires-clause-given g c =
    subst (λ (w : WorldValue _ _ _ _). IsNumbered (length w.setting.plans) c.event-item.result) (sym c.loop-event.invariant.0.others)
    (subst (IsNumbered (length c.args.world.setting.plans)) (sym c.event-item.is) (c.requires.given c.loop-event.event-index c.event-item.result c.loop-event-test.true))

pub pass-requires-clause-ready : goal.pass-requires-clause-ready
pass-requires-clause-ready g c =
    ready_then _ _ c.args.world c.loop-event.world (g.D.Disk.state c.args.disk.now) (g.D.Disk.state c.loop-event.disk) c.requires.ready c.loop-event.invariant.0
    (time_left (length c.args.events.now) c.loop-event.event-index c.args.world.state.devices c.loop-event.world.state.devices c.loop-event.invariant.2 c.loop-event.invariant.1 c.requires.in_time)

pub loop-event-preserved : goal.loop-event-preserved
loop-event-preserved g c = (
  judged_did g.C.Content.meaning (g.J.Judge.judges c.args.judge.now) c.args.world c.args.events.now c.loop-event.event-index c.event-item.result c.loop-event.world c.pass.new.world
      (g.D.Disk.state c.args.disk.now) (g.D.Disk.state c.loop-event.disk) (g.D.Disk.state c.pass.new.disk) c.loop-event-test.true c.event-item.is c.loop-event.invariant.0 c.in_ok-pass.ensures.passed,
  time_next c.loop-event.event-index c.args.world.state.devices c.loop-event.world.state.devices c.pass.new.world.state.devices c.loop-event.invariant.1 c.in_ok-pass.ensures.time,
  omega (arith, c.loop-event-test.true),
  run_passes g.C.Content.meaning (g.J.Judge.judges c.args.judge.now) c.args.world c.args.events.now c.loop-event.event-index c.event-item.result c.loop-event.world c.pass.new.world
      c.args.denials.now c.loop-event.denials c.pass.new.denials c.loop-event-test.true c.event-item.is c.loop-event.invariant.0.others c.loop-event.invariant.3 c.in_ok-pass.ensures.leads
      c.in_ok-pass.ensures.told,
)

pub returns-in_err-pass-clause-disk_fault : goal.returns-in_err-pass-clause-disk_fault
returns-in_err-pass-clause-disk_fault g c = λ is.
    rose_since (g.D.Disk.state c.args.disk.now).faults (g.D.Disk.state c.loop-event.disk).faults (g.D.Disk.state c.pass.new.disk).faults c.loop-event.invariant.0.journals.keeps.count
    (c.in_err-pass.ensures.disk_fault (search (rules, is)))

pub returns-in_err-pass-clause-keeps : goal.returns-in_err-pass-clause-keeps
returns-in_err-pass-clause-keeps g c =
    (permitted_left g.C.Content.meaning (g.J.Judge.judges c.args.judge.now) c.args.world c.args.events.now c.loop-event.event-index c.event-item.result c.loop-event.world
    (g.D.Disk.state c.args.disk.now) (g.D.Disk.state c.loop-event.disk) (g.D.Disk.state c.pass.new.disk)
    c.loop-event-test.true c.event-item.is c.loop-event.invariant.0 c.pass.ensures.journals).keeps

pub returns-in_err-pass-clause-any_moment : goal.returns-in_err-pass-clause-any_moment
returns-in_err-pass-clause-any_moment g c =
    (permitted_left g.C.Content.meaning (g.J.Judge.judges c.args.judge.now) c.args.world c.args.events.now c.loop-event.event-index c.event-item.result c.loop-event.world
    (g.D.Disk.state c.args.disk.now) (g.D.Disk.state c.loop-event.disk) (g.D.Disk.state c.pass.new.disk)
    c.loop-event-test.true c.event-item.is c.loop-event.invariant.0 c.pass.ensures.journals).any_moment

pub returns-in_err-pass-clause-read : goal.returns-in_err-pass-clause-read
returns-in_err-pass-clause-read g c = λ calm offset is.
    c.in_err-pass.ensures.read (subst (λ event. is_crash event ≡ false) (sym c.event-item.is) (calm c.loop-event.event-index c.event-item.result c.loop-event-test.true)) offset (search (rules, is))

pub returns-in_err-pass-clause-sound : goal.returns-in_err-pass-clause-sound
returns-in_err-pass-clause-sound g c = λ there unstrayed none offset is.
    let first = c.args.world in
    let m = g.C.Content.meaning first.content in
    let judge = g.J.Judge.judges c.args.judge.now first.content first.setting in
    let world = c.loop-event.world in
    let did = c.loop-event.invariant.0 in
    let straight = did.straight there ∙ unstrayed in
    let so_far = take c.loop-event.event-index c.args.events.now in
    let each = All-take (IsNumbered (length first.setting.plans)) c.loop-event.event-index c.args.events.now c.requires.given in
    let these = permitted m first.setting judge first.state so_far in
    let plain : NoneStrange first.setting.plans (run m first.setting first.state these).entries =
    run_plain m first.setting first.state these (permitted_keeps m first.setting judge (IsNumbered (length first.setting.plans)) first.state so_far each) none in
    let is_run = did.done straight ∙ judged_is_run m first.setting judge first.state so_far in
    let here : NoneStrange first.setting.plans world.state.entries = subst (λ (w : WorldState _ _). NoneStrange first.setting.plans w.entries) (sym is_run) plain in
    c.in_err-pass.ensures.sound (did.journals.keeps.tells ∙ there) (subst (λ (w : WorldValue _ _ _ _). NoneStrange w.setting.plans world.state.entries) (sym did.others) here) offset (search (rules, is))

pub returns-clause-done : goal.returns-clause-done
returns-clause-done g c = λ undiverged.
    let did = permitted_end g.C.Content.meaning (g.J.Judge.judges c.args.judge.now) c.args.world c.args.events.now c.loop-event.event-index c.loop-event.world
    (g.D.Disk.state c.args.disk.now) (g.D.Disk.state c.loop-event.disk) (omega (arith, c.loop-event-test.false)) c.loop-event.invariant.0 in
    did.others ∙ ap (with_state c.args.world) (did.done undiverged)

pub returns-clause-reached : goal.returns-clause-reached
returns-clause-reached g c =
    let first = c.args.world in
    subst (λ l. PassesTo (g.C.Content.meaning first.content) first.setting (g.J.Judge.judges c.args.judge.now first.content first.setting) first.state c.args.denials.now l c.loop-event.world.state c.loop-event.denials)
    (take_all c.loop-event.event-index c.args.events.now (omega (arith, c.loop-event-test.false))) c.loop-event.invariant.3

pub returns-clause-told : goal.returns-clause-told
returns-clause-told g c = λ undiverged.
    let first = c.args.world in
    let m = g.C.Content.meaning first.content in
    let judge = g.J.Judge.judges c.args.judge.now first.content first.setting in
    passes_told m first.setting judge first.state c.args.denials.now c.args.events.now c.loop-event.world.state c.loop-event.denials
    (subst (λ l. PassesTo m first.setting judge first.state c.args.denials.now l c.loop-event.world.state c.loop-event.denials)
    (take_all c.loop-event.event-index c.args.events.now (omega (arith, c.loop-event-test.false))) c.loop-event.invariant.3) undiverged

pub returns-clause-others : goal.returns-clause-others
returns-clause-others g c = c.loop-event.invariant.0.others

pub returns-clause-straight : goal.returns-clause-straight
returns-clause-straight g c = c.loop-event.invariant.0.straight

pub returns-clause-calm : goal.returns-clause-calm
returns-clause-calm g c = λ calm.
    let first = c.args.world in
    let m = g.C.Content.meaning first.content in
    let judge = g.J.Judge.judges c.args.judge.now first.content first.setting in
    passes_calm m first.setting judge first.state c.args.denials.now c.args.events.now c.loop-event.world.state c.loop-event.denials calm
    (subst (λ l. PassesTo m first.setting judge first.state c.args.denials.now l c.loop-event.world.state c.loop-event.denials)
    (take_all c.loop-event.event-index c.args.events.now (omega (arith, c.loop-event-test.false))) c.loop-event.invariant.3)

pub returns-clause-operators : goal.returns-clause-operators
returns-clause-operators g c = c.loop-event.invariant.0.operators

pub returns-clause-ready : goal.returns-clause-ready
returns-clause-ready g c =
    ready_then _ _ c.args.world c.loop-event.world (g.D.Disk.state c.args.disk.now) (g.D.Disk.state c.loop-event.disk) c.requires.ready c.loop-event.invariant.0
    (time_left (length c.args.events.now) c.loop-event.event-index c.args.world.state.devices c.loop-event.world.state.devices c.loop-event.invariant.2 c.loop-event.invariant.1 c.requires.in_time)

pub returns-clause-keeps_time : goal.returns-clause-keeps_time
returns-clause-keeps_time g c =
    time_all (length c.args.events.now) c.loop-event.event-index c.args.world.state.devices c.loop-event.world.state.devices c.loop-event.invariant.2 c.loop-event.invariant.1

pub returns-clause-stored : goal.returns-clause-stored
returns-clause-stored g c =
    tells_entries (journal_of c.loop-event.world) (g.D.Disk.state c.loop-event.disk) (ap (λ (w : WorldValue _ _ _ _). w.failed) c.loop-event.invariant.0.others ∙ c.requires.ready.whole)
    c.loop-event.invariant.0.fits (g.met.D.Disk.as_read c.loop-event.disk)

pub returns-clause-keeps : goal.returns-clause-keeps
returns-clause-keeps g c = c.loop-event.invariant.0.journals.keeps

pub returns-clause-any_moment : goal.returns-clause-any_moment
returns-clause-any_moment g c =
    (permitted_end g.C.Content.meaning (g.J.Judge.judges c.args.judge.now) c.args.world c.args.events.now c.loop-event.event-index c.loop-event.world
    (g.D.Disk.state c.args.disk.now) (g.D.Disk.state c.loop-event.disk) (omega (arith, c.loop-event-test.false)) c.loop-event.invariant.0).journals.any_moment
