use Rattle.std.proofs.Common.{◌*◌, ◌^◌, ◌∙◌, Err, IfOk, length, ap, sym, subst, arith}
use Rattle.std.specs.List.{All}
use Rattle.std.proofs.lemmas.List.Elements.{All-nil}
use Rattle.nm_world.specs.Runs.{IsBetween, IsNumbered, NoneStrange}
use Rattle.nm_world.specs.World.{Setting, WorldValue, fresh_world, journal_of, start}
use Rattle.nm_disk.specs.Image.{AnyMoment}
use Rattle.nm_journal.specs.Fits.{Fits}
use Rattle.nm_console.specs.Console.{IsLedTo, TellsLast, led_to, world_told}
use Rattle.nm_world.proofs.Clocks.{time_now}
use Rattle.nm_console.proofs.Crashes.{run_so}
use Rattle.nm_console.proofs.Notices.{led_tells}
use Rattle.nm_console.proofs.Replays.{run_told, unopened_told}
use Rattle.nm_console.proofs.replay.say_contents.Goals as goal

pub say_run-requires-clause-given : goal.say_run-requires-clause-given
say_run-requires-clause-given g c =
    subst (λ (w : WorldValue _ _ _ _). All (IsNumbered (length w.setting.plans)) c.args.events.now) (sym (c.in_ok-world-in-Ok.ensures.begun ∙ ap fresh_world c.in_ok-setup-in-Ok.ensures)) c.requires.given

pub say_run-requires-clause-in_time : goal.say_run-requires-clause-in_time
say_run-requires-clause-in_time g c = c.in_ok-world-in-Ok.ensures.in_time (2 ^ 32 * length c.args.events.now) (let few = c.requires.few_events in omega (arith, few))

pub say_run-requires-clause-known : goal.say_run-requires-clause-known
say_run-requires-clause-known g c =
    subst (λ (w : WorldValue _ _ _ _). NoneStrange w.setting.plans w.state.entries) (sym (c.in_ok-world-in-Ok.ensures.begun ∙ ap fresh_world c.in_ok-setup-in-Ok.ensures)) (All-nil _)

pub say_run-requires-clause-ready : goal.say_run-requires-clause-ready
say_run-requires-clause-ready g c =
    let world = c.in_ok-world-in-Ok.ensures in
    record {
      in_time = time_now 0 c.in_ok-world-in-Ok.world.state.devices (world.in_time 0 (omega arith));
      going = ap (λ (w : WorldValue _ _ _ _). w.has_failed) world.begun;
      whole = ap (λ (w : WorldValue _ _ _ _). w.failed) world.begun;
      fits = subst (λ (w : WorldValue _ _ _ _). Fits (journal_of w) (g.D.Disk.state c.fresh.new.disk)) (sym world.begun)
          (subst (λ journal. Fits journal (g.D.Disk.state c.fresh.new.disk)) c.in-Ok.ensures.value c.in-Ok.ensures.fits);
    }

pub returns-in_ok-world-in-Ok-clause-told : goal.returns-in_ok-world-in-Ok-clause-told
returns-in_ok-world-in-Ok-clause-told g c =
    let mid = (g.D.Disk.state c.fresh.new.disk).contents in
    let after = (g.D.Disk.state c.say_run.new.disk).contents in
    let meaning = g.C.Content.meaning c.args.content in
    let setting : Setting _ = record { tables = c.args.tables; plans = c.args.changes; users = c.args.users } in
    run_told _ _ _ c.args.events.now (g.D.Disk.state c.args.disk.now).contents after
    (IsLedTo meaning setting c.args.events.now c.args.drain (start setting c.args.devices))
    (led_tells meaning (g.met.C.Content.laws c.args.content) setting c.args.devices c.requires.begins.first c.args.events.now c.args.drain)
    mid c.say_run.result c.in-Ok.ensures.empty (λ there. c.fresh.ensures.keeps.tells ∙ there)
    (subst (λ (w : WorldValue _ _ _ _). IfOk c.say_run.result (λ said. TellsLast (world_told (g.C.Show.shown w.content) c.args.details w.setting) (IsLedTo (g.C.Content.meaning w.content) w.setting c.args.events.now c.args.drain w.state) (led_to (g.C.Content.meaning w.content) w.setting c.args.events.now c.args.drain w.state) c.args.events.now mid after said.status said.text.items))
    (c.in_ok-world-in-Ok.ensures.begun ∙ ap fresh_world c.in_ok-setup-in-Ok.ensures) c.say_run.ensures.told)

pub returns-in_ok-world-in-Ok-clause-any_moment : goal.returns-in_ok-world-in-Ok-clause-any_moment
returns-in_ok-world-in-Ok-clause-any_moment g c = λ there empty.
    run_so (g.D.Disk.state c.args.disk.now) (g.D.Disk.state c.fresh.new.disk) (g.D.Disk.state c.say_run.new.disk) _ (c.fresh.ensures.any_moment_empty there empty)
    (subst (λ (w : WorldValue _ _ _ _). AnyMoment (g.D.Disk.state c.fresh.new.disk) (g.D.Disk.state c.say_run.new.disk) (IsBetween w.state.entries (led_to (g.C.Content.meaning w.content) w.setting c.args.events.now c.args.drain w.state).entries))
    (c.in_ok-world-in-Ok.ensures.begun ∙ ap fresh_world c.in_ok-setup-in-Ok.ensures) (c.say_run.ensures.any_moment (c.fresh.ensures.keeps.tells ∙ there)))

pub returns-in-Err-clause-told : goal.returns-in-Err-clause-told
returns-in-Err-clause-told g c =
    unopened_told _ _ _ c.args.events.now (g.D.Disk.state c.args.disk.now).contents (g.D.Disk.state c.fresh.new.disk).contents c.in-Err.fault c.say_unopened.result
    (λ size is. c.in-Err.ensures.not_empty size (ap Err is)) c.say_unopened.ensures.told
