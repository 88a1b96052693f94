-- The form of a part of a JSON value: what it says, written once as a table (this project's own). What is said, what is wrong,
-- and the reader all come from the form.
use Rattle.std.specs.Prelude.{ℕ, suc, List, Bool, true, false, ◌||◌, ◌==◌, Option, Some, None, Result, Ok, Err, if◌then◌else◌}
use Rattle.std.specs.Str.{bytes_eq}
use Rattle.serde_json.specs.Data.{Data}
use Rattle.nm_proto.specs.declared.kind.ScenarioKind.TheVariants.{NotBuilt}
use Rattle.nm_scenario_form.specs.declared.fault.Cause.{Cause}
use Rattle.nm_scenario_form.specs.Reading.{plain}
use Rattle.nm_scenario_form.specs.Words.{is_word}
use Rattle.nm_scenario_form.specs.Order.{rank}

-- how a part is found in what has it: by its name, or as the next argument
pub data Key : Type 0 where
  named : List ℕ → Key
  next : Key

mutual
  -- forms of parts that say an A
  pub data Form : Type 0 → Type 1 where
    -- a part without parts of its own, or one that another reader reads
    leaf : {A : Type 0} → (Data → Result A Cause) → Form A
    -- what is made of a part of this form
    made : {B A : Type 0} → (B → A) → Form B → Form A
    -- a form that hangs on the raw value
    by : {A : Type 0} → (Data → Form A) → Form A
    -- a list: how many items it has at least, how much they weigh at most, how much an item weighs, and the form of an item by its number
    list : {A : Type 0} → ℕ → ℕ → (Data → ℕ) → (ℕ → Form A) → Form (List A)
    -- an object: the names that its members may have, those that are read, and what is made of them
    object : {F A : Type 0} → (List ℕ → Bool) → Parts F A → F → Form A
    -- a list of so many items, as a word, and then these arguments, and what is made of them
    arguments : {F A : Type 0} → ℕ → Parts F A → F → Form A
    -- a list that begins with this word has the first form, and any other the second
    line : {A : Type 0} → List ℕ → Form A → Form A → Form A
    -- no word of a table
    no_line : {A : Type 0} → Form A

  -- parts by which an F makes an A
  pub data Parts : Type 0 → Type 0 → Type 1 where
    done : {A : Type 0} → Parts A A
    -- a part: where it is found, what stands for it where it may be left out, and its form
    slot : {B F A : Type 0} → Key → Option B → Form B → Parts F A → Parts (B → F) A

-- ---- the words of tables

-- a part that isn't built, whatever stands there
abbrev pub not_built : {A : Type 0} → Form A
not_built = leaf (λ part. Err (plain NotBuilt))

infixr 40 ◌▹◌
-- an argument
abbrev pub ◌▹◌ : {B F A : Type 0} → Form B → Parts F A → Parts (B → F) A
form ▹ parts = slot next None form parts

-- an argument that may be left out, and what then stands for it
abbrev pub or_else : {B F A : Type 0} → B → Form B → Parts F A → Parts (B → F) A
or_else missing form parts = slot next (Some missing) form parts

-- a member that has to be there
abbrev pub required : {B F A : Type 0} → List ℕ → Form B → Parts F A → Parts (B → F) A
required name form parts = slot (named name) None form parts

-- a member that may be left out, and what then stands for it
abbrev pub optional : {B F A : Type 0} → List ℕ → B → Form B → Parts F A → Parts (B → F) A
optional name missing form parts = slot (named name) (Some missing) form parts

-- a line of a table of words, before the others
abbrev pub built : {F A : Type 0} → List ℕ → Parts F A → F → Form A → Form A
built word parts make others = line word (arguments 1 parts make) others

infixr 20 ◌or◌
-- a line of a table, and those below it
abbrev pub ◌or◌ : {A : Type 0} → (Form A → Form A) → Form A → Form A
first or others = first others

-- one of two forms, by a test
abbrev pub chosen : {A : Type 0} → Bool → Form A → Form A → Form A
chosen true this other = this
chosen false this other = other

-- a leaf's fault is that it isn't built
abbrev pub is_not_built : {A : Type 0} → Result A Cause → Bool
is_not_built (Ok x) = false
is_not_built (Err cause) = rank cause.kind == rank NotBuilt

-- whether a part is one that its form tells as not built
abbrev pub is_unbuilt : {A : Type 0} → Form A → Data → Bool
is_unbuilt (leaf read) whole = is_not_built (read whole)
is_unbuilt (made make form) whole = is_unbuilt form whole
is_unbuilt (by form) whole = is_unbuilt (form whole) whole
is_unbuilt (list low high weight form) whole = false
is_unbuilt (object knows parts make) whole = false
is_unbuilt (arguments n parts make) whole = false
is_unbuilt (line word form others) whole = if is_word whole word then is_unbuilt form whole else is_unbuilt others whole
is_unbuilt no_line whole = false

-- ---- counts and names

-- how many parts there are
abbrev pub count_parts : {F A : Type 0} → Parts F A → ℕ
count_parts done = 0
count_parts (slot key default form parts) = suc (count_parts parts)

-- a part more, if it has to be there
abbrev pub and_needed : {B : Type 0} → Option B → ℕ → ℕ
and_needed None n = suc n
and_needed (Some missing) n = n

-- how many parts have to be there
abbrev pub count_needed : {F A : Type 0} → Parts F A → ℕ
count_needed done = 0
count_needed (slot key default form parts) = and_needed default (count_needed parts)

-- a part is found by this name
abbrev pub is_name : Key → List ℕ → Bool
is_name (named name) other = bytes_eq other name
is_name next other = false

-- the names of the parts
abbrev pub knows : {F A : Type 0} → Parts F A → List ℕ → Bool
knows done name = false
knows (slot key default form parts) name = is_name key name || knows parts name

-- an object of these members alone
abbrev pub closed : {F A : Type 0} → Parts F A → F → Form A
closed parts make = object (knows parts) parts make
