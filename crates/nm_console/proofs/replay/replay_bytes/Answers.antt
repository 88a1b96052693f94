use Rattle.std.proofs.Common.{◌≡◌, Ok, Err, subst}
use Rattle.nm_scenario_form.specs.declared.fault.ReadError.TheVariants.{Bad}
use Rattle.nm_scenario.specs.Scenario.{Reads}
use Rattle.nm_console.proofs.Crashes.{read_so}
use Rattle.nm_console.proofs.Replays.{fault_told, read_told}
use Rattle.nm_console.proofs.replay.replay_bytes.Goals as goal

pub returns-in-Ok-clause-told : goal.returns-in-Ok-clause-told
returns-in-Ok-clause-told g c =
    let is : c.read_last_scenario.result ≡ Ok c.in-Ok.scenario = cc in
    read_told c.args.bytes.now (Ok c.in-Ok.scenario) (g.D.Disk.state c.args.disk.now).contents (g.D.Disk.state c.say_scenario.new.disk).contents c.say_scenario.result
    (subst (λ read. Reads c.args.bytes.now read) is c.read_last_scenario.ensures) c.say_scenario.ensures.told

pub returns-in-Ok-clause-any_moment : goal.returns-in-Ok-clause-any_moment
returns-in-Ok-clause-any_moment g c = λ there empty.
    let is : c.read_last_scenario.result ≡ Ok c.in-Ok.scenario = cc in
    read_so c.args.bytes.now (Ok c.in-Ok.scenario) (g.D.Disk.state c.args.disk.now) (g.D.Disk.state c.say_scenario.new.disk)
    (subst (λ read. Reads c.args.bytes.now read) is c.read_last_scenario.ensures) (c.say_scenario.ensures.any_moment there empty)

pub returns-in-Ok-say_fault-clause-told : goal.returns-in-Ok-say_fault-clause-told
returns-in-Ok-say_fault-clause-told g c =
    let said = c.in-Ok-say_fault.said in
    let is : c.read_last_scenario.result ≡ Err (Bad c.in-Err-Bad.fault) = cc in
    fault_told c.args.bytes.now c.in-Err-Bad.fault (g.D.Disk.state c.args.disk.now).contents said.status said.text.items
    (subst (λ read. Reads c.args.bytes.now read) is c.read_last_scenario.ensures) c.in-Ok-say_fault.ensures
