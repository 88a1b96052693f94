-- What holds of all that a form can say (this project's own).
use Rattle.std.specs.Prelude.{List, Option, Some, None, Result, Ok, Err}
use Rattle.serde_json.specs.Data.{Data}
use Rattle.nm_scenario_form.specs.Form.{Form, leaf, made, by, list, object, arguments, line, no_line, Parts, done, slot}
use Rattle.nm_scenario_form.specs.Says.{Says}

-- what stands for a part that is left out has this
abbrev pub OfDefault : {B : Type 0} → (B → Type 0) → Option B → Type 0
OfDefault P None = Unit {0}
OfDefault P (Some missing) = P missing

-- what is read has this
abbrev pub OfResult : {A E : Type 0} → (A → Type 0) → Result A E → Type 0
OfResult P (Ok x) = P x
OfResult P (Err e) = Unit {0}

unfoldable mutual
  -- all that a form can say has P. Of a leaf and of a list it is what they say of any part
  pub Holds : {A : Type 0} → Form A → (A → Type 0) → Type 0
  Holds (leaf read) P = (whole : Data) → OfResult P (read whole)
  Holds (made make form) P = Holds form (λ b. P (make b))
  Holds (by form) P = (whole : Data) → Holds (form whole) P
  Holds (list {A = A} low high weight form) P = (whole : Data) (xs : List A) → Says (list low high weight form) whole xs → P xs
  Holds (object knows parts make) P = HoldsParts parts make P
  Holds (arguments n parts make) P = HoldsParts parts make P
  Holds (line word form others) P = Holds form P × Holds others P
  Holds no_line P = Unit {0}

  -- all that this can make of the parts has P
  pub HoldsParts : {F A : Type 0} → Parts F A → F → (A → Type 0) → Type 0
  HoldsParts done make P = P make
  HoldsParts (slot key default form parts) make P =
      OfDefault (λ b. HoldsParts parts (make b) P) default × Holds form (λ b. HoldsParts parts (make b) P)
