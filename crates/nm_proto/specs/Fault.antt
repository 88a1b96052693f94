-- The faults that are planned for a device (this project's own).
use Rattle.std.specs.Prelude.{◌≤◌, ◌<◌, ℕ, List, [], ◌∷◌, length}
use Rattle.std.specs.List.{All}
use Rattle.nm_proto.specs.declared.fault.PlanEntry.{PlanEntry}

-- the faults ascend strictly by the requests at which they come, each above this number
abbrev pub Ascend : ℕ → List PlanEntry → Type 0
Ascend above [] = Unit {0}
Ascend above (entry ∷ later) = (above < entry.at) × Ascend entry.at later

-- the faults that may be planned for a device: requests are counted from 1
pub record IsPlan (plan : List PlanEntry) : Type 0 where
  pub ascend : Ascend 0 plan
  pub few : length plan ≤ 1000
