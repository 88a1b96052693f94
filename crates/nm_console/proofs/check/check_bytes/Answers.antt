use Rattle.std.proofs.Common.{◌≡◌, Ok, Err, subst}
use Rattle.nm_scenario_form.specs.declared.fault.ReadError.TheVariants.{Bad}
use Rattle.nm_scenario.specs.Scenario.{Reads}
use Rattle.nm_console.proofs.Checks.{holding_told, refused_told}
use Rattle.nm_console.proofs.check.check_bytes.Goals as goal

pub returns-in-Ok-clause-told : goal.returns-in-Ok-clause-told
returns-in-Ok-clause-told c =
    let is : c.read_last_scenario.result ≡ Ok c.in-Ok.scenario = cc in
    holding_told c.args.bytes.now c.in-Ok.scenario c.say_holding-said.result
    (subst (λ read. Reads c.args.bytes.now read) is c.read_last_scenario.ensures) c.say_holding-said.ensures

pub returns-in-Err-Bad-clause-told : goal.returns-in-Err-Bad-clause-told
returns-in-Err-Bad-clause-told c =
    let is : c.read_last_scenario.result ≡ Err (Bad c.in-Err-Bad.fault) = cc in
    refused_told c.args.bytes.now c.in-Err-Bad.fault c.say_fault.result
    (subst (λ read. Reads c.args.bytes.now read) is c.read_last_scenario.ensures) c.say_fault.ensures
