-- How a program ended that tells of scenarios (this project's own).
use Rattle.std.specs.Prelude.{ℕ, Bool, true, false}
use Rattle.nm_explain.specs.declared.status.Status.{Status}
use Rattle.nm_explain.specs.declared.status.Status.TheVariants.{Fine, Usage, Scenario, ReadFault, WriteFault, NoMemory}

-- the exit status of an outcome; 0 only where nothing is wrong
abbrev pub status_code : Status → ℕ
status_code Fine = 0
status_code Usage = 2
status_code Scenario = 3
status_code ReadFault = 4
status_code WriteFault = 5
status_code NoMemory = 8

-- a status after which the text was written whole
abbrev pub is_whole : Status → Bool
is_whole Fine = true
is_whole Usage = true
is_whole Scenario = true
is_whole ReadFault = false
is_whole WriteFault = false
is_whole NoMemory = false
