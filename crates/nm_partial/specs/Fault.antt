-- The texts of faults (this project's own).
use Rattle.std.specs.Prelude.{ℕ, List, ◌++◌, codes, decimal}
use Rattle.nm_partial.specs.declared.fault.GrantFault.{GrantFault}
use Rattle.nm_partial.specs.declared.fault.GrantFault.TheVariants as fault

-- what is printed of a fault
abbrev pub fault_text : GrantFault → List ℕ
fault_text (fault.Overlap owner) = codes "locked by session " ++ decimal owner
fault_text fault.Full = codes "no more partial locks"
fault_text fault.NoMemory = codes "out of memory"
