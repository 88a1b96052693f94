-- Reading the parts of a JSON value: what is there, or the first fault with its place (this project's own).
use Rattle.std.specs.Prelude.{◌≡◌, ℕ, ◌+◌, List, [], ◌∷◌, Option, None, option_and_then, Result, Ok, Err}
use Rattle.serde_json.specs.Data.{Data, Items, no_items, item}
use Rattle.serde_json.specs.Find.{as_number, as_u64}
use Rattle.nm_proto.specs.declared.kind.ScenarioKind.{ScenarioKind}
use Rattle.nm_scenario_form.specs.declared.fault.Step.{Step}
use Rattle.nm_scenario_form.specs.declared.fault.Cause.{Cause}
use Rattle.nm_scenario_form.specs.declared.fault.Fault.{Fault}
use Rattle.nm_scenario_form.specs.declared.fault.ReadError.{ReadError}
use Rattle.nm_scenario_form.specs.declared.fault.ReadError.TheVariants as error

infixl 10 ◌>>=◌
-- The next reader reads what the one before gave; a fault ends reading.
abbrev pub ◌>>=◌ : {A B : Type 0} → Result A Fault → (A → Result B Fault) → Result B Fault
(Ok x) >>= f = f x
(Err e) >>= f = Err e

-- what a reader returned is what reading gives, unless memory ran out
abbrev pub Gives : {A : Type 0} → Result A ReadError → Result A Fault → Type 0
Gives (Ok x) given = given ≡ Ok x
Gives (Err (error.Bad fault)) given = given ≡ Err fault
Gives (Err error.NoMemory) given = Unit {0}

-- a kind that no lower reader told
abbrev pub plain : ScenarioKind → Cause
plain kind = record { kind = kind; inner = None }

-- a fault of the part that is looked at
abbrev pub here : {A : Type 0} → ScenarioKind → Result A Fault
here kind = Err (record { cause = plain kind; place = [] })

-- a fault of the part one step further in
abbrev pub there : {A : Type 0} → ScenarioKind → Step → Result A Fault
there kind step = Err (record { cause = plain kind; place = step ∷ [] })

-- what was read one step further in, its fault seen from here
abbrev pub under : {A : Type 0} → Step → Result A Fault → Result A Fault
under step (Ok x) = Ok x
under step (Err fault) = Err (record { cause = fault.cause; place = step ∷ fault.place })

-- how many items an array has
abbrev pub count_of : Items → ℕ
count_of no_items = 0
count_of (item part rest) = count_of rest + 1

-- a JSON number without sign, fraction or exponent, of at most 64 bits (RFC 8259 section 6)
abbrev pub natural_of : Data → Option ℕ
natural_of part = option_and_then as_u64 (as_number part)
