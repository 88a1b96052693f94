-- All that is wrong with a part by its form, with cause, place and spot (this project's own). What is wrong with one of several
-- parts doesn't hang on the parts before it.
use Rattle.std.specs.Prelude.{◌≡◌, ◌<◌, ℕ, suc, ◌+◌, List, [], Bool, true, false, Option, Some, None, Result, Err}
use Rattle.serde_json.specs.Data.{Data, Items, no_items, item, Members, no_members, member}
use Rattle.serde_json.specs.Find.{at, as_array, as_object}
use Rattle.nm_proto.specs.declared.kind.ScenarioKind.TheVariants.{Missing, Unknown, BadValue, TooMany}
use Rattle.nm_scenario_form.specs.declared.fault.Step.{Step}
use Rattle.nm_scenario_form.specs.declared.fault.Step.TheVariants.{Name, Item}
use Rattle.nm_scenario_form.specs.Reading.{count_of}
use Rattle.nm_scenario_form.specs.Words.{is_word}
use Rattle.nm_scenario_form.specs.declared.fault.Cause.{Cause}
use Rattle.nm_scenario_form.specs.Order.{Faults, NoFaults, Either, Here, At, Inside}
use Rattle.nm_scenario_form.specs.Form.{Key, named, next, Form, leaf, made, by, list, object, arguments, line, no_line, Parts, done, slot, count_parts, count_needed}
use Rattle.nm_scenario_form.specs.Says.{found, total, takes}

-- the step that leads to a part
abbrev pub step_of : Key → ℕ → Step
step_of (named name) n = Name name
step_of next n = Item n

-- a leaf's own fault
pub record WrongLeaf {A : Type 0} (read : Data → Result A Cause) (whole : Data) (cause : Cause) (place : List Step) (spot : List ℕ) : Type
    0 where
  pub told : read whole ≡ Err cause
  pub place_is : place ≡ []
  pub spot_is : spot ≡ []

-- what is wrong with the items from number n on
unfoldable pub WrongItems : (ℕ → Data → Faults) → ℕ → Items → Faults
WrongItems wrong n no_items = NoFaults
WrongItems wrong n (item part rest) = Either (Inside (Item n) n (wrong n part)) (WrongItems wrong (suc n) rest)

-- a list of too few items, one that weighs too much, and what is wrong with its items
unfoldable pub WrongList : (ℕ → Data → Faults) → ℕ → ℕ → (Data → ℕ) → Option Items → Faults
WrongList wrong low high weight None = Here (Unit {0}) BadValue
WrongList wrong low high weight (Some items) =
    Either (Here (count_of items < low) BadValue) (Either (Here (high < total weight items) TooMany) (WrongItems wrong 0 items))

-- members of other names, from number n on
unfoldable pub WrongNames : (List ℕ → Bool) → ℕ → Members → Faults
WrongNames knows n no_members = NoFaults
WrongNames knows n (member name part rest) = Either (At (knows name ≡ false) Unknown (Name name) n) (WrongNames knows (suc n) rest)

-- no object, what is wrong with the members that are read, and members of other names, which come after those
unfoldable pub WrongObject : Faults → ℕ → (List ℕ → Bool) → Option Members → Faults
WrongObject wrong n knows None = Here (Unit {0}) BadValue
WrongObject wrong n knows (Some all) = Either wrong (WrongNames knows n all)

-- a part that isn't there though it has to be, or what is wrong with it
unfoldable pub WrongSlot : {B : Type 0} → (Data → Faults) → Key → ℕ → Option B → Option Data → Faults
WrongSlot wrong key n default (Some part) = Inside (step_of key n) n (wrong part)
WrongSlot wrong key n (Some missing) None = NoFaults
WrongSlot wrong key n None None = At (Unit {0}) Missing (step_of key n) n

-- another count of arguments, or what is wrong with the arguments
unfoldable pub WrongCount : Bool → Faults → Faults
WrongCount true wrong = wrong
WrongCount false wrong = Here (Unit {0}) BadValue

-- what is wrong by one of two forms, by a test
unfoldable pub ByWord : Bool → Faults → Faults → Faults
ByWord true wrong others = wrong
ByWord false wrong others = others

-- a list without a first item, or with one that is no word of the table
unfoldable pub WrongLine : Option Data → Faults
WrongLine None = Here (Unit {0}) BadValue
WrongLine (Some first) = At (Unit {0}) BadValue (Item 0) 0

-- what is wrong with a part by its form
unfoldable mutual
  pub Wrong : {A : Type 0} → Form A → Data → Faults
  Wrong (leaf read) whole = WrongLeaf read whole
  Wrong (made make form) whole = Wrong form whole
  Wrong (by form) whole = Wrong (form whole) whole
  Wrong (list low high weight form) whole = WrongList (λ n part. Wrong (form n) part) low high weight (as_array whole)
  Wrong (object knows parts make) whole = WrongObject (WrongParts parts 0 whole) (count_parts parts) knows (as_object whole)
  Wrong (arguments n parts make) whole = WrongCount (takes (n + count_needed parts) (n + count_parts parts) (as_array whole))
      (WrongParts parts n whole)
  Wrong (line word form others) whole = ByWord (is_word whole word) (Wrong form whole) (Wrong others whole)
  Wrong no_line whole = WrongLine (at 0 whole)

  -- what is wrong with the parts from number n on
  pub WrongParts : {F A : Type 0} → Parts F A → ℕ → Data → Faults
  WrongParts done n whole = NoFaults
  WrongParts (slot key default form parts) n whole =
      Either (WrongSlot (λ part. Wrong form part) key n default (found key n whole)) (WrongParts parts (suc n) whole)
