use Rattle.std.proofs.Common.{rules}
use Rattle.nm_console.specs.Console.{IsLedTo, led_to}
use Rattle.nm_console.proofs.Runs.{damaged_told, ran_tells}
use Rattle.nm_console.proofs.replay.say_run.Goals as goal

pub returns-in_ok-say_last-in-Ok-clause-told : goal.returns-in_ok-say_last-in-Ok-clause-told
returns-in_ok-say_last-in-Ok-clause-told g c =
    let said = c.in_ok-say_last-in-Ok.field-0 in
    ran_tells g.C.Show.shown c.args.details (IsLedTo (g.C.Content.meaning c.args.world.content) c.args.world.setting c.args.events.now c.args.drain c.args.world.state) c.args.world c.in-Ok.last _
    c.args.events.now (g.D.Disk.state c.args.disk.now).contents (g.D.Disk.state c.lead.new.disk).contents said.status said.text.items
    c.in-Ok.ensures.reached c.in-Ok.ensures.others c.in-Ok.ensures.done c.in-Ok.ensures.straight c.in-Ok.ensures.calm c.in-Ok.ensures.stored c.in_ok-say_last-in-Ok.ensures

pub returns-in-Err-Damaged-clause-told : goal.returns-in-Err-Damaged-clause-told
returns-in-Err-Damaged-clause-told g c =
    let told = rw c.in-Err-Damaged.offset-is at c.say_damaged.ensures.told in
    damaged_told (g.C.Show.shown c.args.world.content) c.args.details c.args.world.setting
    (IsLedTo (g.C.Content.meaning c.args.world.content) c.args.world.setting c.args.events.now c.args.drain c.args.world.state)
    (led_to (g.C.Content.meaning c.args.world.content) c.args.world.setting c.args.events.now c.args.drain c.args.world.state) c.args.events.now (g.D.Disk.state c.args.disk.now).contents (g.D.Disk.state c.lead.new.disk).contents c.say_damaged.result c.in-Err-Damaged.offset
    (λ calm. c.lead.ensures.read calm c.in-Err-Damaged.offset (search rules)) (λ there. c.lead.ensures.sound there c.in-Err-Damaged.offset (search rules))
    told
