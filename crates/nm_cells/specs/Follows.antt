-- How a device's history follows the faults that are planned for it (this project's own). Nothing here looks at what the device
-- keeps: a history is read beside the whole plan.
use Rattle.std.specs.Prelude.{◌≡◌, ◌≤◌, ◌<◌, ℕ, ◌+◌, Bool, true, false, List, [], ◌∷◌, ◌++◌, length, take, drop, Option, Some, None, if◌then◌else◌}
use Rattle.std.specs.List.{All, flat_map, list_any}
use Rattle.std.specs.Str.{bytes_eq}
use Rattle.nm_base.specs.Words.{manager}
use Rattle.nm_history.specs.declared.event.DeviceEvent.{DeviceEvent}
use Rattle.nm_history.specs.declared.event.DeviceEvent.TheVariants.{Entered, Asked, Lost, Advanced, Restarted}
use Rattle.nm_history.specs.declared.event.Noted.{Noted}
use Rattle.nm_proto.specs.declared.fault.PlanEntry.{PlanEntry}
use Rattle.nm_proto.specs.declared.fault.PlanFault.{PlanFault}
use Rattle.nm_proto.specs.declared.fault.PlanFault.TheVariants.{Drop, Cut, Restart, Advance}
use Rattle.nm_cells.specs.Faults.{FaultsState, StandsAt}
use Rattle.nm_cells.specs.Kept.{is_managers}

-- ---- what is read of a history

-- how many entries are of a kind, each judged with what stands before it
abbrev pub count_along : (List Noted → DeviceEvent → Bool) → List Noted → List Noted → ℕ
count_along f before [] = 0
count_along f before (entry ∷ later) = (if f before entry.event then 1 else 0) + count_along f (before ++ entry ∷ []) later

-- an opening by the manager, or a request on a session that was opened for it
abbrev pub is_asked_for_manager : List Noted → DeviceEvent → Bool
is_asked_for_manager before (Entered user) = bytes_eq user manager
is_asked_for_manager before (Asked session request) = is_managers session before
is_asked_for_manager before (Lost session) = false
is_asked_for_manager before (Advanced seconds) = false
is_asked_for_manager before Restarted = false

-- a loss or a restart
abbrev pub is_break : List Noted → DeviceEvent → Bool
is_break before (Entered user) = false
is_break before (Asked session request) = false
is_break before (Lost session) = true
is_break before (Advanced seconds) = false
is_break before Restarted = true

-- a restart, or the loss of a session that was opened for the manager
abbrev pub breaks_manager : List Noted → DeviceEvent → Bool
breaks_manager before (Entered user) = false
breaks_manager before (Asked session request) = false
breaks_manager before (Lost session) = is_managers session before
breaks_manager before (Advanced seconds) = false
breaks_manager before Restarted = true

-- how many requests of the manager stand in a history
abbrev pub requests : List Noted → ℕ
requests history = count_along is_asked_for_manager [] history

-- how many breaks stand in it
abbrev pub breaks_in : List Noted → ℕ
breaks_in history = count_along is_break [] history

-- the advances and restarts, in order
abbrev pub clock_of_event : DeviceEvent → List PlanFault
clock_of_event (Entered user) = []
clock_of_event (Asked session request) = []
clock_of_event (Lost session) = []
clock_of_event (Advanced seconds) = Advance seconds ∷ []
clock_of_event Restarted = Restart ∷ []

-- the advance that an entry is
abbrev pub clock_of_entry : Noted → List PlanFault
clock_of_entry entry = clock_of_event entry.event

-- the advance that a fault asks for
abbrev pub clock_of_fault : PlanFault → List PlanFault
clock_of_fault Drop = []
clock_of_fault Cut = []
clock_of_fault Restart = Restart ∷ []
clock_of_fault (Advance seconds) = Advance seconds ∷ []

-- the same of an entry of a plan
abbrev pub clock_of_planned : PlanEntry → List PlanFault
clock_of_planned entry = clock_of_fault entry.fault

-- ---- following a plan

-- the faults that came up to here are a front of the plan: their advances and restarts are those of the history, all that the
-- requests so far name have come, and none that names a request further ahead than those that broke off and the next
pub record FollowsPlan (plan : List PlanEntry) (history : List Noted) : Type 0 where
  pub came : ℕ
  pub clock : flat_map clock_of_entry history ≡ flat_map clock_of_planned (take came plan)
  pub all_came : All (λ entry. requests history < entry.at) (drop came plan)
  pub none_early : All (λ entry. entry.at ≤ requests history + breaks_in history + 1) (take came plan)

-- a drop, a cut or a restart
abbrev pub is_breaking : PlanFault → Bool
is_breaking Drop = true
is_breaking Cut = true
is_breaking Restart = true
is_breaking (Advance seconds) = false

-- a plan has a fault that breaks
abbrev pub plans_breaks : List PlanEntry → Bool
plans_breaks plan = list_any (λ entry. is_breaking entry.fault) plan

-- each part of a history follows the plan, and a restart or the loss of a session of the manager stands in it only where the plan
-- has a drop, a cut or a restart
pub record FollowsPlans (plan : List PlanEntry) (history : List Noted) : Type 0 where
  pub parts : (n : ℕ) → n ≤ length history → FollowsPlan plan (take n history)
  pub breaks : 1 ≤ count_along breaks_manager [] history → plans_breaks plan ≡ true

-- ---- as the device goes along

-- the fault that comes with the next request, as far as it is an advance or a restart
abbrev pub clock_of_due : Option PlanFault → List PlanFault
clock_of_due None = []
clock_of_due (Some fault) = clock_of_fault fault

-- and where the request isn't counted, none comes
abbrev pub clock_if : Bool → Option PlanFault → List PlanFault
clock_if counts fault = if counts then clock_of_due fault else []

-- the place in the plan is that of the last request whose fault came
pub record IsPlaced (faults : FaultsState) : Type 0 where
  pub stands : StandsAt faults.reached faults.spent faults.plan
  pub low : faults.counted ≤ faults.reached
  pub high : faults.reached ≤ faults.counted + 1

-- the requests that were counted are those of the history and those that broke off, and the faults that came are the history's
pub record Follows (faults : FaultsState) (history : List Noted) : Type 0 where
  pub placed : IsPlaced faults
  pub few : requests history ≤ faults.counted
  pub many : faults.counted ≤ requests history + breaks_in history
  pub clock : flat_map clock_of_entry history ≡ flat_map clock_of_planned (take faults.spent faults.plan)
  pub plans : FollowsPlans faults.plan history
