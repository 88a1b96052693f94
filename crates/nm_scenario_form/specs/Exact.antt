-- That what is said and what is wrong fit one another, by a form and otherwise (this project's own).
use Rattle.std.specs.Prelude.{◌≡◌, ℕ, List, Result, Ok, Err}
use Rattle.serde_json.specs.Data.{Data}
use Rattle.nm_scenario_form.specs.declared.fault.Step.{Step}
use Rattle.nm_scenario_form.specs.declared.fault.Cause.{Cause}
use Rattle.nm_scenario_form.specs.declared.fault.Fault.{Fault}
use Rattle.nm_scenario_form.specs.declared.fault.ReadError.{ReadError}
use Rattle.nm_scenario_form.specs.declared.fault.ReadError.TheVariants as error
use Rattle.nm_scenario_form.specs.Order.{Faults, IsFirst}
use Rattle.nm_scenario_form.specs.Form.{Form}
use Rattle.nm_scenario_form.specs.Says.{Says}
use Rattle.nm_scenario_form.specs.Wrong.{Wrong}

-- something is wrong, for this cause at this place
abbrev pub Somewhere : Faults → Cause → List Step → Type 0
Somewhere wrong cause place = (spot : List ℕ) × wrong cause place spot

-- one thing is said exactly where nothing is wrong, and where anything is, there is one first fault
pub record AreExact {A : Type 0} (says : A → Type 0) (wrong : Faults) : Type 0 where
  -- where something is said nothing is wrong
  pub right : (x : A) → says x → (cause : Cause) (place : List Step) → Somewhere wrong cause place → ⊥
  -- where nothing is wrong something is said
  pub read : ((cause : Cause) (place : List Step) → Somewhere wrong cause place → ⊥) → (x : A) × says x
  -- and one thing alone
  pub one : (x y : A) → says x → says y → x ≡ y
  -- of all that is wrong one is the first
  pub first : (cause : Cause) (place : List Step) → Somewhere wrong cause place → (fault : Fault) × IsFirst wrong fault
  -- and one alone
  pub one_fault : (fault other : Fault) → IsFirst wrong fault → IsFirst wrong other → fault ≡ other

-- what a reader returned is what is said, or the first fault of those that are wrong. Want of memory says nothing
abbrev pub ReadsAs : {A : Type 0} → (A → Type 0) → Faults → Result A ReadError → Type 0
ReadsAs says wrong (Ok x) = says x
ReadsAs says wrong (Err (error.Bad fault)) = IsFirst wrong fault
ReadsAs says wrong (Err error.NoMemory) = Unit {0}

-- ---- the same by a form

-- something is wrong by a form, for this cause at this place
abbrev pub IsWrong : {A : Type 0} → Form A → Data → Cause → List Step → Type 0
IsWrong form whole cause place = Somewhere (Wrong form whole) cause place

-- a fault is the first of what is wrong by a form
abbrev pub IsFirstOf : {A : Type 0} → Form A → Data → Fault → Type 0
IsFirstOf form whole fault = IsFirst (Wrong form whole) fault

-- what a form says and what is wrong by it fit one another
abbrev pub IsExact : {A : Type 0} → Form A → Data → Type 0
IsExact form whole = AreExact (Says form whole) (Wrong form whole)

-- what a reader returned is what a form says, or the first fault of what is wrong by it
abbrev pub Reads : {A : Type 0} → Form A → Data → Result A ReadError → Type 0
Reads form whole result = ReadsAs (Says form whole) (Wrong form whole) result
