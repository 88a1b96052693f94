-- The faults of a device along the manager's requests (this project's own). The code keeps a place in the plan; here each
-- fault is looked up by the request that it names.
use Rattle.std.specs.Prelude.{◌≤◌, ℕ, ◌+◌, ◌==◌, zero, suc, Bool, true, false, List, [], ◌∷◌, Option, Some, None, is_some, if◌then◌else◌}
use Rattle.nm_proto.specs.declared.fault.PlanEntry.{PlanEntry}
use Rattle.nm_proto.specs.declared.fault.PlanFault.{PlanFault}
use Rattle.nm_proto.specs.Fault.{Ascend}

-- the whole plan, how many of its faults came, how many requests were counted, and the last request whose fault came: that
-- of the next request may have come already
pub record FaultsState : Type 0 where
  pub plan : List PlanEntry
  pub spent : ℕ
  pub reached : ℕ
  pub counted : ℕ

-- the fault that comes at a request
abbrev pub fault_at : List PlanEntry → ℕ → Option PlanFault
fault_at [] request = None
fault_at (entry ∷ later) request = if entry.at == request then Some entry.fault else fault_at later request

-- a plan of which nothing has come
abbrev pub planned : List PlanEntry → FaultsState
planned plan = record { plan = plan; spent = 0; reached = 0; counted = 0 }

-- the fault of the next request, where it hasn't come already
abbrev pub due : FaultsState → Option PlanFault
due faults = if faults.reached == faults.counted then fault_at faults.plan (faults.counted + 1) else None

-- the fault of the next request comes, before the request is counted
abbrev pub come : FaultsState → FaultsState
come faults = record faults { spent = faults.spent + (if is_some (due faults) then 1 else 0); reached = faults.counted + 1 }

-- the next request is counted, and its fault has come
abbrev pub one_more : FaultsState → FaultsState
one_more faults = record (come faults) { counted = faults.counted + 1 }

-- the same where the request is one of the manager's, which alone are counted
abbrev pub counted_if : Bool → FaultsState → FaultsState
counted_if true faults = one_more faults
counted_if false faults = faults

-- so many faults of the plan came at the requests up to this one, and the others come later
abbrev pub StandsAt : ℕ → ℕ → List PlanEntry → Type 0
StandsAt reached zero plan = Ascend reached plan
StandsAt reached (suc next) [] = ⊥
StandsAt reached (suc next) (entry ∷ later) = (entry.at ≤ reached) × StandsAt reached next later
