-- What holds of all that a table can say, line by line.
use Rattle.std.proofs.Common.{◌≡◌, ◌≤◌, ℕ, List, Bool, true, false, ◌&&◌, nat_le, cond, Option, Some, None, Ok, Err, refl}
use Rattle.std.proofs.lemmas.Bool.{leb-true}
use Rattle.nm_proto.specs.declared.kind.ScenarioKind.TheVariants.{BadValue}
use Rattle.nm_scenario_form.specs.Reading.{natural_of, plain}
use Rattle.nm_scenario_form.specs.Form.{Key, Form, object, arguments, no_line, Parts, slot, done, built}
use Rattle.nm_scenario_form.specs.Kept.{Holds, HoldsParts, OfResult}
use Rattle.nm_scenario_form.specs.Leafs.{number, number_said, number_from}

number_range : (low high n : ℕ) (P : ℕ → Type 0) (a b : Bool) → nat_le low n ≡ a → nat_le n high ≡ b → (low ≤ n → n ≤ high → P n)
    → OfResult P (cond (a && b) (Ok n) (Err (plain BadValue)))
number_range low high n P true true e f holds = holds (leb-true low n e) (leb-true n high f)
number_range low high n P true false e f holds = tt
number_range low high n P false b e f holds = tt

number_result : (low high : ℕ) (P : ℕ → Type 0) → ((n : ℕ) → low ≤ n → n ≤ high → P n) → (o : Option ℕ)
    → OfResult P (number_from low high o)
number_result low high P holds None = tt
number_result low high P holds (Some n) = number_range low high n P (nat_le low n) (nat_le n high) refl refl (holds n)

-- what holds of the numbers of a range holds of all that such a number can be
pub number_holds : (low high : ℕ) (P : ℕ → Type 0) → ((n : ℕ) → low ≤ n → n ≤ high → P n) → Holds (number low high) P
unfolding Holds number_said
number_holds low high P holds whole = number_result low high P holds (natural_of whole)

-- a part that has to be there
pub slot_holds : {B F A : Type 0} (key : Key) (form : Form B) (parts : Parts F A) (make : B → F) (P : A → Type 0)
    → Holds form (λ b. HoldsParts parts (make b) P) → HoldsParts (slot key None form parts) make P
unfolding Holds
slot_holds key form parts make P holds = (tt, holds)

-- a part that may be left out
pub missing_holds : {B F A : Type 0} (key : Key) (missing : B) (form : Form B) (parts : Parts F A) (make : B → F) (P : A → Type 0)
    → HoldsParts parts (make missing) P → Holds form (λ b. HoldsParts parts (make b) P)
    → HoldsParts (slot key (Some missing) form parts) make P
unfolding Holds
missing_holds key missing form parts make P left_out holds = (left_out, holds)

-- nothing more to be read
pub done_holds : {A : Type 0} (x : A) (P : A → Type 0) → P x → HoldsParts done x P
unfolding Holds
done_holds x P holds = holds

-- a word and its arguments
pub line_holds : {F A : Type 0} (word : List ℕ) (parts : Parts F A) (make : F) (others : Form A) (P : A → Type 0) → HoldsParts parts make P
    → Holds others P → Holds (built word parts make others) P
unfolding Holds
line_holds word parts make others P holds more = (holds, more)

pub no_line_holds : {A : Type 0} (P : A → Type 0) → Holds no_line P
unfolding Holds
no_line_holds P = tt

-- an object of these members
pub object_holds : {F A : Type 0} (knows : List ℕ → Bool) (parts : Parts F A) (make : F) (P : A → Type 0) → HoldsParts parts make P
    → Holds (object knows parts make) P
unfolding Holds
object_holds knows parts make P holds = holds

-- a list of these items alone
pub arguments_hold : {F A : Type 0} (n : ℕ) (parts : Parts F A) (make : F) (P : A → Type 0) → HoldsParts parts make P
    → Holds (arguments n parts make) P
unfolding Holds
arguments_hold n parts make P holds = holds
