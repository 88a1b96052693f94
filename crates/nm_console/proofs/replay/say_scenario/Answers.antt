use Rattle.std.proofs.Common.{IfOk, List, map, sym, subst}
use Rattle.nm_overlay.specs.Differences.{Overlaid}
use Rattle.nm_world.specs.World.{start}
use Rattle.nm_flat.specs.Flat.{flat_text}
use Rattle.nm_flat.specs.FlatContent.{flat_meaning}
use Rattle.nm_content.specs.Meaning.{lifted, yang_meaning, yang_text}
use Rattle.nm_notice_laws.specs.Replays.{TellAsReplayed}
use Rattle.nm_console.specs.Console.{CanRun, TellsRun, details_of, led_to, setting_of, world_told}
use Rattle.nm_console.proofs.Given.{flat_runs, yang_keeps, yang_runs}
use Rattle.nm_console.proofs.Replays.{flat_replays, yang_replays}
use Rattle.nm_console.proofs.replay.say_scenario.Goals as goal

pub say_contents-requires : goal.say_contents-requires
say_contents-requires g c =
    let s = c.args.scenario in
    subst (λ tables. CanRun flat_meaning (record { tables = tables; plans = s.changes; users = s.operators }) c.in-Flat.devices c.as_slice.result.now) (sym c.new-in-Flat.ensures)
    (subst (CanRun flat_meaning (setting_of c.in-Flat.edits s) c.in-Flat.devices) (sym c.as_slice.ensures) (flat_runs s c.in-Flat.devices c.in-Flat.edits c.in-Flat.is c.requires))

pub returns-in-Flat-clause-told : goal.returns-in-Flat-clause-told
returns-in-Flat-clause-told g c =
    let s = c.args.scenario in
    let devices = c.in-Flat.devices in
    let stored = (g.D.Disk.state c.args.disk.now).contents in
    let after = (g.D.Disk.state c.say_contents.new.disk).contents in
    flat_replays s devices c.in-Flat.edits stored after c.say_contents.result c.in-Flat.is
    (subst (λ events. IfOk c.say_contents.result (λ said. TellsRun (world_told flat_text (details_of s) (setting_of c.in-Flat.edits s))
    (TellAsReplayed flat_meaning (setting_of c.in-Flat.edits s) devices)
    (led_to flat_meaning (setting_of c.in-Flat.edits s) events s.drain (start (setting_of c.in-Flat.edits s) devices)) events stored after said.status said.text.items)) c.as_slice.ensures
    (subst (λ tables. IfOk c.say_contents.result (λ said. TellsRun (world_told flat_text (details_of s) (record { tables = tables; plans = s.changes; users = s.operators }))
    (TellAsReplayed flat_meaning (record { tables = tables; plans = s.changes; users = s.operators }) devices)
    (led_to flat_meaning (record { tables = tables; plans = s.changes; users = s.operators }) c.as_slice.result.now s.drain (start (record { tables = tables; plans = s.changes; users = s.operators }) devices))
    c.as_slice.result.now stored after said.status said.text.items)) c.new-in-Flat.ensures c.say_contents.ensures.told))

pub lift_all-requires : goal.lift_all-requires
lift_all-requires g c = let y = c.in-Yang in yang_keeps c.args.scenario y.modules y.content y.devices y.edits y.is c.requires

pub say_contents-requires-in-Yang : goal.say_contents-requires-in-Yang
say_contents-requires-in-Yang g c =
    let s = c.args.scenario in
    let y = c.in-Yang in
    subst (λ (devices : List Overlaid). CanRun (yang_meaning y.content) (record { tables = c.new-in-Yang.result; plans = s.changes; users = s.operators }) devices c.as_slice-in-Yang.result.now) (sym c.in_ok-devices-in-Yang.ensures)
    (subst (λ tables. CanRun (yang_meaning y.content) (record { tables = tables; plans = s.changes; users = s.operators }) (map lifted y.devices) c.as_slice-in-Yang.result.now) (sym c.new-in-Yang.ensures)
    (subst (CanRun (yang_meaning y.content) (setting_of y.edits s) (map lifted y.devices)) (sym c.as_slice-in-Yang.ensures) (yang_runs s y.modules y.content y.devices y.edits y.is c.requires)))

pub returns-clause-told : goal.returns-clause-told
returns-clause-told g c =
    let s = c.args.scenario in
    let y = c.in-Yang in
    let stored = (g.D.Disk.state c.args.disk.now).contents in
    let after = (g.D.Disk.state c.say_contents-in-Yang.new.disk).contents in
    yang_replays s y.modules y.content y.devices y.edits stored after c.say_contents-in-Yang.result y.is
    (subst (λ events. IfOk c.say_contents-in-Yang.result (λ said. TellsRun (world_told (yang_text y.content) (details_of s) (setting_of y.edits s))
    (TellAsReplayed (yang_meaning y.content) (setting_of y.edits s) (map lifted y.devices))
    (led_to (yang_meaning y.content) (setting_of y.edits s) events s.drain (start (setting_of y.edits s) (map lifted y.devices))) events stored after said.status said.text.items)) c.as_slice-in-Yang.ensures
    (subst (λ tables. IfOk c.say_contents-in-Yang.result (λ said. TellsRun (world_told (yang_text y.content) (details_of s) (record { tables = tables; plans = s.changes; users = s.operators }))
    (TellAsReplayed (yang_meaning y.content) (record { tables = tables; plans = s.changes; users = s.operators }) (map lifted y.devices))
    (led_to (yang_meaning y.content) (record { tables = tables; plans = s.changes; users = s.operators }) c.as_slice-in-Yang.result.now s.drain (start (record { tables = tables; plans = s.changes; users = s.operators }) (map lifted y.devices)))
    c.as_slice-in-Yang.result.now stored after said.status said.text.items)) c.new-in-Yang.ensures
    (subst (λ (devices : List Overlaid). IfOk c.say_contents-in-Yang.result (λ said. TellsRun (world_told (yang_text y.content) (details_of s) (record { tables = c.new-in-Yang.result; plans = s.changes; users = s.operators }))
    (TellAsReplayed (yang_meaning y.content) (record { tables = c.new-in-Yang.result; plans = s.changes; users = s.operators }) devices)
    (led_to (yang_meaning y.content) (record { tables = c.new-in-Yang.result; plans = s.changes; users = s.operators }) c.as_slice-in-Yang.result.now s.drain (start (record { tables = c.new-in-Yang.result; plans = s.changes; users = s.operators }) devices))
    c.as_slice-in-Yang.result.now stored after said.status said.text.items)) c.in_ok-devices-in-Yang.ensures c.say_contents-in-Yang.ensures.told)))
