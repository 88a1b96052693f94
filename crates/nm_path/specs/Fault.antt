-- The texts of faults (this project's own).
use Rattle.std.specs.Prelude.{ℕ, List, codes}
use Rattle.nm_path.specs.declared.fault.PathFault.{PathFault}
use Rattle.nm_path.specs.declared.fault.PathFault.TheVariants as fault

-- what is printed of a fault
abbrev pub fault_text : PathFault → List ℕ
fault_text fault.Unknown = codes "no node of the schema"
fault_text fault.BadText = codes "no text of a path"
fault_text fault.NoMemory = codes "out of memory"
