-- The faults of a part of a JSON value, and the order in which they are looked for (this project's own).
-- A fault has a cause, a place and a spot. The place is the way that a user is told. The spot is the same way in numbers: items
-- by their number from 0, members by their line in the table, other names after those; so the order is one of lists of numbers.
use Rattle.std.specs.Prelude.{◌≡◌, ◌≤◌, ◌<◌, ◌⊎◌, ℕ, List, [], ◌∷◌}
use Rattle.nm_proto.specs.declared.kind.ScenarioKind.{ScenarioKind}
use Rattle.nm_proto.specs.declared.kind.ScenarioKind.TheVariants.{TooLong, NotJson, NotBuilt, Missing, Unknown, BadValue, TooMany, Yang, Schema, Content, Invalid}
use Rattle.nm_scenario_form.specs.declared.fault.Step.{Step}
use Rattle.nm_scenario_form.specs.declared.fault.Cause.{Cause}
use Rattle.nm_scenario_form.specs.declared.fault.Fault.{Fault}
use Rattle.nm_scenario_form.specs.Reading.{plain}

-- faults, by their causes, places and spots
abbrev pub Faults : Type 1
Faults = Cause → List Step → List ℕ → Type 0

-- the kinds in the order in which they are looked for at one place
abbrev pub rank : ScenarioKind → ℕ
rank TooLong = 0
rank NotJson = 1
rank NotBuilt = 2
rank Missing = 3
rank Unknown = 4
rank BadValue = 5
rank TooMany = 6
rank Yang = 7
rank Schema = 8
rank Content = 9
rank Invalid = 10

-- a fault of the first kind at the first spot isn't looked for after one of the other kind at the other spot: a part comes
-- before what is in it, then the lower number comes first, and at one spot the lower rank
unfoldable pub NotAfter : List ℕ → ScenarioKind → List ℕ → ScenarioKind → Type 0
NotAfter [] k [] l = rank k ≤ rank l
NotAfter [] k (m ∷ ms) l = Unit {0}
NotAfter (n ∷ ns) k [] l = ⊥
NotAfter (n ∷ ns) k (m ∷ ms) l = (n < m) ⊎ ((n ≡ m) × NotAfter ns k ms l)

-- a fault is the first of those that are wrong
pub record IsFirst (wrong : Faults) (fault : Fault) : Type 0 where
  -- it is one of them
  pub spot : List ℕ
  pub there : wrong fault.cause fault.place spot
  -- none comes before it
  pub first : (cause : Cause) (place : List Step) (other : List ℕ) → wrong cause place other
      → NotAfter spot fault.cause.kind other cause.kind
  -- and none of its kind stands beside it
  pub alone : (cause : Cause) (place : List Step) → wrong cause place spot → cause.kind ≡ fault.cause.kind
      → (cause ≡ fault.cause) × (place ≡ fault.place)

-- ---- how faults are put together

-- none
abbrev pub NoFaults : Faults
NoFaults cause place spot = ⊥

-- faults of either
abbrev pub Either : Faults → Faults → Faults
Either wrong other cause place spot = wrong cause place spot ⊎ other cause place spot

-- a fault of the part that is looked at, where this holds
pub record Here (why : Type 0) (kind : ScenarioKind) (cause : Cause) (place : List Step) (spot : List ℕ) : Type 0 where
  pub because : why
  pub cause_is : cause ≡ plain kind
  pub place_is : place ≡ []
  pub spot_is : spot ≡ []

-- a fault of what should stand one step further in, where this holds
pub record At (why : Type 0) (kind : ScenarioKind) (step : Step) (n : ℕ) (cause : Cause) (place : List Step) (spot : List ℕ) : Type 0 where
  pub because : why
  pub cause_is : cause ≡ plain kind
  pub place_is : place ≡ step ∷ []
  pub spot_is : spot ≡ n ∷ []

-- faults of what stands one step further in
pub record Inside (step : Step) (n : ℕ) (wrong : Faults) (cause : Cause) (place : List Step) (spot : List ℕ) : Type 0 where
  pub further : List Step
  pub deeper : List ℕ
  pub is_wrong : wrong cause further deeper
  pub place_is : place ≡ step ∷ further
  pub spot_is : spot ≡ n ∷ deeper
