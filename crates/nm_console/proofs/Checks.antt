-- What check tells of the scenario that bytes say, or of their first fault.
use Rattle.std.proofs.Common.{List, ℕ, Result, Ok, Err, IfOk}
use Rattle.nm_scenario_form.specs.declared.fault.Fault.{Fault}
use Rattle.nm_scenario_form.specs.Order.{IsFirst}
use Rattle.nm_scenario.specs.declared.scenario.Scenario.{Scenario}
use Rattle.nm_scenario.specs.Scenario.{SaysBytes, WrongBytes}
use Rattle.nm_console.specs.declared.said.Said.{Said}
use Rattle.nm_console.specs.Console.{IsSoOf, Tells, checked, faulted, holding}
use Rattle.nm_console.proofs.Given.{each_safe}

pub holding_told : {E : Type 0} (bytes : List ℕ) (s : Scenario) (result : Result Said E) → SaysBytes bytes s
    → IfOk result (λ said. Tells (holding s) said.status said.text.items)
    → IfOk result (λ said. IsSoOf bytes (λ outcome. Tells (checked outcome) said.status said.text.items))
holding_told bytes s (Ok said) says tells = record { outcome = Ok s; reads = says; is_so = tells; safe = each_safe bytes (Ok s) says }
holding_told bytes s (Err e) says tells = tt

pub refused_told : {E : Type 0} (bytes : List ℕ) (fault : Fault) (result : Result Said E) → IsFirst (WrongBytes bytes) fault
    → IfOk result (λ said. Tells (faulted fault) said.status said.text.items)
    → IfOk result (λ said. IsSoOf bytes (λ outcome. Tells (checked outcome) said.status said.text.items))
refused_told bytes fault (Ok said) first tells = record { outcome = Err fault; reads = first; is_so = tells; safe = tt }
refused_told bytes fault (Err e) first tells = tt
