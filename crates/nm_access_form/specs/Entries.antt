-- Objects whose members have any names, and all say things of one kind (this project's own): a table that is made of the members'
-- own names, one line for each, in their order.
use Rattle.std.specs.Prelude.{ℕ, ◌+◌, nat_lt, List, [], ◌∷◌, ◌++◌, Bool, true, Option, Some, None, Result, Ok, Err}
use Rattle.serde_json.specs.Data.{Data, Members, no_members, member}
use Rattle.serde_json.specs.Find.{get, as_object}
use Rattle.nm_proto.specs.declared.kind.ScenarioKind.{ScenarioKind}
use Rattle.nm_proto.specs.declared.kind.ScenarioKind.TheVariants.{BadValue, TooMany}
use Rattle.nm_scenario_form.specs.declared.fault.Fault.{Fault}
use Rattle.nm_scenario_form.specs.declared.fault.Step.TheVariants.{Name}
use Rattle.nm_scenario_form.specs.Reading.{◌>>=◌, plain}
use Rattle.nm_scenario_form.specs.Form.{Form, Parts, leaf, by, object, done, required, chosen}
use Rattle.nm_scenario_form.specs.Read.{slot_read}

-- a part that is wrong by itself, for this kind of reason
abbrev pub refused : {A : Type 0} → ScenarioKind → Form A
refused kind = leaf (λ part. Err (plain kind))

-- how many members an object has
abbrev pub member_count : Members → ℕ
member_count no_members = 0
member_count (member name part rest) = member_count rest + 1

-- all names are known
abbrev pub any_name : List ℕ → Bool
any_name name = true

-- what makes a list of what each member says
abbrev pub Taking : Type 0 → Members → Type 0
Taking A no_members = List A
Taking A (member name part rest) = A → Taking A rest

-- a line for each member, which has to be there
abbrev pub entry_parts : {A : Type 0} → (List ℕ → Form A) → (all : Members) → Parts (Taking A all) (List A)
entry_parts form no_members = done
entry_parts form (member name part rest) = required name (form name) (entry_parts form rest)

-- what was said before, and then what each member says
abbrev pub taken : {A : Type 0} → List A → (all : Members) → Taking A all
taken before no_members = before
taken before (member name part rest) = λ entry. taken (before ++ entry ∷ []) rest

-- an object of these members
abbrev pub entries_all : {A : Type 0} → (List ℕ → Form A) → Members → Form (List A)
entries_all form all = object any_name (entry_parts form all) (taken [] all)

-- the same, where they aren't too many
abbrev pub entries_in : {A : Type 0} → ℕ → (List ℕ → Form A) → Members → Form (List A)
entries_in most form all = chosen (nat_lt most (member_count all)) (refused TooMany) (entries_all form all)

-- the same of a part that may be no object
abbrev pub entries_of : {A : Type 0} → ℕ → (List ℕ → Form A) → Option Members → Form (List A)
entries_of most form None = refused BadValue
entries_of most form (Some all) = entries_in most form all

-- an object of at most so many members, whose names may be any, and the form of a member by its name: what they say, in order
unfoldable pub entries : {A : Type 0} → ℕ → (List ℕ → Form A) → Form (List A)
entries most form = by (λ whole. entries_of most form (as_object whole))

-- ---- reading them one after another

-- the members of an object, after what was read
abbrev pub entries_read : {A : Type 0} → (List ℕ → Data → Result A Fault) → Data → List A → Members → Result (List A) Fault
entries_read read whole before no_members = Ok before
entries_read read whole before (member name part rest) = do
  entry ← slot_read (read name) (Name name) None (get name whole)
  entries_read read whole (before ++ entry ∷ []) rest
