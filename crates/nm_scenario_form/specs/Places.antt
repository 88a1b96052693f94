-- Where the places of faults lead from a part of a JSON value (this project's own), and the tables of which all have one.
use Rattle.std.specs.Prelude.{◌≡◌, ◌⊎◌, ℕ, List, [], ◌∷◌, ◌++◌, true, Option, Some, None, is_some, option_and_then, Result, Ok, Err}
use Rattle.serde_json.specs.Data.{Data, Members}
use Rattle.serde_json.specs.Find.{get, at, get_member, as_object}
use Rattle.nm_proto.specs.declared.kind.ScenarioKind.{ScenarioKind}
use Rattle.nm_proto.specs.declared.kind.ScenarioKind.TheVariants.{Missing}
use Rattle.nm_scenario_form.specs.declared.fault.Cause.{Cause}
use Rattle.nm_scenario_form.specs.declared.fault.Step.{Step}
use Rattle.nm_scenario_form.specs.declared.fault.Step.TheVariants.{Name, Item}
use Rattle.nm_scenario_form.specs.Form.{Key, named, next, Form, leaf, made, by, list, object, arguments, line, no_line, Parts, done, slot, count_needed}

-- ---- places

-- what is there one step further in, if anything is
abbrev pub stepped : Step → Data → Option Data
stepped (Name name) part = get name part
stepped (Item n) part = at n part

-- the part that a place leads to, if there is one
abbrev pub walked : List Step → Data → Option Data
walked [] part = Some part
walked (step ∷ steps) part = option_and_then (walked steps) (stepped step part)

-- a place names a member that an object doesn't have
pub record LacksMember (whole : Data) (place : List Step) : Type 0 where
  pub above : List Step
  pub name : List ℕ
  pub place_is : place ≡ above ++ Name name ∷ []
  pub part : Data
  pub part_is : walked above whole ≡ Some part
  pub members : Members
  pub object_is : as_object part ≡ Some members
  pub absent : get_member name members ≡ None

-- the place of a fault leads to a part, or it is that of a missing member
abbrev pub IsPlace : ScenarioKind → List Step → Data → Type 0
IsPlace kind place whole = ((kind ≡ Missing → ⊥) × (is_some (walked place whole) ≡ true)) ⊎ ((kind ≡ Missing) × LacksMember whole place)

-- ---- tables in order: objects have named parts, and lists parts by their numbers, of which the last ones alone may be left out

-- a part is found by its name
abbrev pub IsNamed : Key → Type 0
IsNamed (named name) = Unit {0}
IsNamed next = ⊥

-- a part is found as the next argument
abbrev pub IsNext : Key → Type 0
IsNext (named name) = ⊥
IsNext next = Unit {0}

-- where a part may be left out, so many parts that have to be there follow: none
abbrev pub IsLast : {B : Type 0} → Option B → ℕ → Type 0
IsLast None n = Unit {0}
IsLast (Some missing) n = n ≡ 0

-- a leaf doesn't tell that a member is missing
abbrev pub IsThere : {A : Type 0} → Result A Cause → Type 0
IsThere (Ok x) = Unit {0}
IsThere (Err cause) = cause.kind ≡ Missing → ⊥

-- a table is in order: members are found by names, arguments by their turn, and no leaf tells that a member is missing
unfoldable mutual
  pub InOrder : {A : Type 0} → Form A → Type 0
  InOrder (leaf read) = (whole : Data) → IsThere (read whole)
  InOrder (made make form) = InOrder form
  InOrder (by form) = (whole : Data) → InOrder (form whole)
  InOrder (list low high weight form) = (n : ℕ) → InOrder (form n)
  InOrder (object knows parts make) = AreNamed parts
  InOrder (arguments n parts make) = AreNumbered parts
  InOrder (line word form others) = InOrder form × InOrder others
  InOrder no_line = Unit {0}

  -- the parts of an object
  pub AreNamed : {F A : Type 0} → Parts F A → Type 0
  AreNamed done = Unit {0}
  AreNamed (slot key default form parts) = IsNamed key × (InOrder form × AreNamed parts)

  -- the parts of a list
  pub AreNumbered : {F A : Type 0} → Parts F A → Type 0
  AreNumbered done = Unit {0}
  AreNumbered (slot key default form parts) = IsNext key × (IsLast default (count_needed parts) × (InOrder form × AreNumbered parts))
