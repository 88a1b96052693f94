-- Reading a part by its form: what it says, or the first fault (this project's own). Each reader of the code gives what one of
-- these functions does.
use Rattle.std.specs.Prelude.{◌≡◌, ℕ, suc, ◌+◌, List, [], ◌∷◌, ◌++◌, Bool, true, false, nat_lt, Option, Some, None, Result, Ok, Err, if◌then◌else◌}
use Rattle.serde_json.specs.Data.{Data, Items, no_items, item, Members, no_members, member}
use Rattle.serde_json.specs.Find.{at, as_array, as_object}
use Rattle.nm_proto.specs.declared.kind.ScenarioKind.TheVariants.{Missing, Unknown, BadValue, TooMany}
use Rattle.nm_scenario_form.specs.declared.fault.Step.{Step}
use Rattle.nm_scenario_form.specs.declared.fault.Step.TheVariants.{Name, Item}
use Rattle.nm_scenario_form.specs.Reading.{◌>>=◌, here, there, under, count_of}
use Rattle.nm_scenario_form.specs.Words.{is_word}
use Rattle.nm_scenario_form.specs.declared.fault.Cause.{Cause}
use Rattle.nm_scenario_form.specs.declared.fault.Fault.{Fault}
use Rattle.nm_scenario_form.specs.Form.{Form, leaf, made, by, list, object, arguments, line, no_line, Parts, done, slot, count_parts, count_needed}
use Rattle.nm_scenario_form.specs.Says.{found, total, takes}
use Rattle.nm_scenario_form.specs.Wrong.{step_of}

-- what a leaf told, at its own place
abbrev pub told : {A : Type 0} → Result A Cause → Result A Fault
told (Ok x) = Ok x
told (Err cause) = Err (record { cause = cause; place = [] })

-- what stands for a part that isn't there
abbrev pub or_missing : {B : Type 0} → Step → Option B → Result B Fault
or_missing step (Some default) = Ok default
or_missing step None = there Missing step

-- a part that was looked for
abbrev pub slot_read : {B : Type 0} → (Data → Result B Fault) → Step → Option B → Option Data → Result B Fault
slot_read read step default (Some part) = under step (read part)
slot_read read step default None = or_missing step default

-- the items from number n on, after those that were read
abbrev pub items_after : {A : Type 0} → (ℕ → Data → Result A Fault) → List A → ℕ → Items → Result (List A) Fault
items_after read before n no_items = Ok before
items_after read before n (item part rest) = do
  value ← under (Item n) (read n part)
  items_after read (before ++ value ∷ []) (n + 1) rest

-- a list of enough items that don't weigh too much
abbrev pub fits : ℕ → ℕ → (Data → ℕ) → Items → Result (Unit {0}) Fault
fits low high weight items = if nat_lt (count_of items) low then here BadValue else
    (if nat_lt high (total weight items) then here TooMany else Ok tt)

-- the items of a list that fits, or the first fault; what is no list is a bad value
abbrev pub items_read : {A : Type 0} → (ℕ → Data → Result A Fault) → ℕ → ℕ → (Data → ℕ) → Option Items → Result (List A) Fault
items_read read low high weight None = here BadValue
items_read read low high weight (Some items) = do
  fitting ← fits low high weight items
  items_after read [] 0 items

-- an object at all
abbrev pub object_from : Option Members → Result (Unit {0}) Fault
object_from None = here BadValue
object_from (Some all) = Ok tt

-- the first member whose name isn't known
abbrev pub names_read : (List ℕ → Bool) → Members → Result (Unit {0}) Fault
names_read knows no_members = Ok tt
names_read knows (member name part rest) = if knows name then names_read knows rest else there Unknown (Name name)

-- the first member of an object whose name isn't known; what is no object is a bad value
abbrev pub names_from : (List ℕ → Bool) → Option Members → Result (Unit {0}) Fault
names_from knows None = here BadValue
names_from knows (Some all) = names_read knows all

-- as many arguments as there may be
abbrev pub takes_read : Bool → Result (Unit {0}) Fault
takes_read true = Ok tt
takes_read false = here BadValue

-- a first item that is no word of the table
abbrev pub line_read : {A : Type 0} → Option Data → Result A Fault
line_read None = here BadValue
line_read (Some first) = there BadValue (Item 0)

-- what a part says by its form, or its first fault, read from the left
abbrev mutual
  pub read : {A : Type 0} → Form A → Data → Result A Fault
  read (leaf f) whole = told (f whole)
  read (made make form) whole = do
    value ← read form whole
    Ok (make value)
  read (by form) whole = read (form whole) whole
  read (list low high weight form) whole = items_read (λ n part. read (form n) part) low high weight (as_array whole)
  read (object knows parts make) whole = do
    is_object ← object_from (as_object whole)
    value ← read_parts parts 0 whole make
    known ← names_from knows (as_object whole)
    Ok value
  read (arguments n parts make) whole = do
    count ← takes_read (takes (n + count_needed parts) (n + count_parts parts) (as_array whole))
    read_parts parts n whole make
  read (line word form others) whole = if is_word whole word then read form whole else read others whole
  read no_line whole = line_read (at 0 whole)

  -- the parts from number n on, each given to what makes the value of them all
  pub read_parts : {F A : Type 0} → Parts F A → ℕ → Data → F → Result A Fault
  read_parts done n whole make = Ok make
  read_parts (slot key default form parts) n whole make = do
    value ← slot_read (λ part. read form part) (step_of key n) default (found key n whole)
    read_parts parts (suc n) whole (make value)
