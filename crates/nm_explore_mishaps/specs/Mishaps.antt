-- What may go wrong in a run, in the order in which it is tried (this project's own).
use Rattle.std.specs.Prelude.{ℕ, zero, suc, ◌+◌, max, List, [], ◌∷◌, ◌++◌, Option, Some, None, unwrap_or, fold, cond}
use Rattle.nm_base.specs.Words.{default_timeout}
use Rattle.nm_proto.specs.declared.plan.ChangePlan.{ChangePlan}
use Rattle.nm_proto.specs.declared.plan.PlannedEdit.{PlannedEdit}
use Rattle.nm_proto.specs.Plan.{is_planned}
use Rattle.nm_explore_mishaps.specs.declared.mishap.Mishap.{Mishap}
use Rattle.nm_explore_mishaps.specs.declared.mishap.Mishap.TheVariants.{Restart, Advance, Break, Lose, Forget, Crash}

-- ---- how long a device waits

-- the timeouts of the change sets that are of a device
abbrev pub timeouts_of : ℕ → List ChangePlan → List ℕ
timeouts_of device [] = []
timeouts_of device (plan ∷ plans) = cond (is_planned device plan.edits) (plan.timeout ∷ timeouts_of device plans) (timeouts_of device plans)

-- the greater of two numbers, of which the first may not be there
abbrev pub greater : Option ℕ → ℕ → Option ℕ
greater None n = Some n
greater (Some most) n = Some (max most n)

-- by how much a device's clock rises: by the longest timeout of the change sets that are of it, and by that of a confirmed commit that
-- names none (RFC 6241 section 8.4.5.1) where none is
abbrev pub longest_timeout : ℕ → List ChangePlan → ℕ
longest_timeout device plans = unwrap_or (fold greater None (timeouts_of device plans)) default_timeout

-- ---- all of it

-- what may go wrong with a device: it restarts, or time passes
abbrev pub device_mishaps : List ChangePlan → ℕ → List Mishap
device_mishaps plans device = Restart device ∷ Advance device (longest_timeout device plans) ∷ []

-- the same of so many devices, from one on
abbrev pub each_device : List ChangePlan → ℕ → ℕ → List Mishap
each_device plans device zero = []
each_device plans device (suc more) = device_mishaps plans device ++ each_device plans (device + 1) more

-- what may go wrong between a change set and a device: the manager's side of the current link ends, or the device's side
abbrev pub link_mishaps : ℕ → ℕ → List Mishap
link_mishaps change device = Break change device ∷ Lose change device ∷ []

-- the same of all devices of a change set
abbrev pub each_link : ℕ → List PlannedEdit → List Mishap
each_link change [] = []
each_link change (edit ∷ edits) = link_mishaps change edit.device ++ each_link change edits

-- what may go wrong with a change set: with its links, and what the manager knows of it is lost
abbrev pub change_mishaps : ℕ → ChangePlan → List Mishap
change_mishaps change plan = each_link change plan.edits ++ Forget change ∷ []

-- the same of these change sets, numbered from one on
abbrev pub each_change : ℕ → List ChangePlan → List Mishap
each_change change [] = []
each_change change (plan ∷ plans) = change_mishaps change plan ++ each_change (change + 1) plans

-- all that may go wrong with so many devices and these change sets: with each device, with each change set, and at the end a crash of the
-- manager
abbrev pub mishaps_of : ℕ → List ChangePlan → List Mishap
mishaps_of devices plans = each_device plans 1 devices ++ each_change 1 plans ++ Crash ∷ []

-- ---- one of it

-- the change set that a mishap names, 0 where it names none
abbrev pub change_at : Mishap → ℕ
change_at (Restart device) = 0
change_at (Advance device seconds) = 0
change_at (Break change device) = change
change_at (Lose change device) = change
change_at (Forget change) = change
change_at Crash = 0
