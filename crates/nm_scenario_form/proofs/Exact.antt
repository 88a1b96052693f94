-- That what is said and what is wrong fit one another by every form, and that a reader which gives what reading gives reads by it.
use Rattle.std.proofs.Common.{◌≡◌, ℕ, List, Result, Ok, Err, sym, subst, ◌∙◌}
use Rattle.serde_json.specs.Data.{Data}
use Rattle.nm_scenario_form.specs.declared.fault.Step.{Step}
use Rattle.nm_scenario_form.specs.declared.fault.Cause.{Cause}
use Rattle.nm_scenario_form.specs.declared.fault.Fault.{Fault}
use Rattle.nm_scenario_form.specs.declared.fault.ReadError.{ReadError}
use Rattle.nm_scenario_form.specs.declared.fault.ReadError.TheVariants as error
use Rattle.nm_scenario_form.specs.Order.{Faults, IsFirst}
use Rattle.nm_scenario_form.specs.Form.{Form}
use Rattle.nm_scenario_form.specs.Says.{Says}
use Rattle.nm_scenario_form.specs.Wrong.{Wrong}
use Rattle.nm_scenario_form.specs.Reading.{Gives}
use Rattle.nm_scenario_form.specs.Read.{read}
use Rattle.nm_scenario_form.specs.Exact.{AreExact, IsExact, ReadsAs, Reads}
use Rattle.nm_scenario_form.proofs.Orders.{first_one}
use Rattle.nm_scenario_form.proofs.Answers.{Answers}
use Rattle.nm_scenario_form.proofs.Said.{said}
use Rattle.nm_scenario_form.proofs.Tells.{tells}

-- where something is said nothing is wrong
said_right : {A : Type 0} (says : A → Type 0) (wrong : Faults) (r : Result A Fault) (x : A) → Answers says wrong r → r ≡ Ok x
    → (cause : Cause) (place : List Step) (spot : List ℕ) → wrong cause place spot → ⊥
said_right says wrong (Ok y) x a e cause place spot is = a.1 cause place spot is
said_right says wrong (Err fault) x a e cause place spot is = cc

-- where nothing is wrong something is said
right_said : {A : Type 0} (says : A → Type 0) (wrong : Faults) (r : Result A Fault) → Answers says wrong r
    → ((cause : Cause) (place : List Step) → ((spot : List ℕ) × wrong cause place spot) → ⊥) → (x : A) × says x
right_said says wrong (Ok x) a none = (x, a.0)
right_said says wrong (Err fault) a none = absurd (none fault.cause fault.place (a.spot, a.there))

-- where something is wrong there is a first fault
wrong_first : {A : Type 0} (says : A → Type 0) (wrong : Faults) (r : Result A Fault) → Answers says wrong r
    → (cause : Cause) (place : List Step) (spot : List ℕ) → wrong cause place spot → (fault : Fault) × IsFirst wrong fault
wrong_first says wrong (Ok x) a cause place spot is = absurd (a.1 cause place spot is)
wrong_first says wrong (Err fault) a cause place spot is = (fault, a)

-- where reading answers what is said, and all that is said, both fit one another
pub exactly : {A : Type 0} (says : A → Type 0) (wrong : Faults) (r : Result A Fault) → Answers says wrong r → ((x : A) → says x → r ≡ Ok x)
    → AreExact says wrong
exactly says wrong r answers all = record {
  right = λ x is cause place at. said_right says wrong r x answers (all x is) cause place at.0 at.1;
  read = λ none. right_said says wrong r answers none;
  one = λ x y s t. let e : Ok x ≡ Ok y = sym (all x s) ∙ all y t in cc;
  first = λ cause place at. wrong_first says wrong r answers cause place at.0 at.1;
  one_fault = λ fault other f g. first_one wrong fault other f g;
}

-- every form is exact
pub exact : {A : Type 0} (form : Form A) (whole : Data) → IsExact form whole
exact form whole = exactly (Says form whole) (Wrong form whole) (read form whole) (tells form whole) (λ x is. said form whole x is)

answered_ok : {A : Type 0} (says : A → Type 0) (wrong : Faults) (r : Result A Fault) (x : A) → Answers says wrong r → r ≡ Ok x → says x
answered_ok says wrong (Ok y) x a e = let same : y ≡ x = cc in subst says same a.0
answered_ok says wrong (Err fault) x a e = cc

answered_err : {A : Type 0} (says : A → Type 0) (wrong : Faults) (r : Result A Fault) (fault : Fault) → Answers says wrong r
    → r ≡ Err fault → IsFirst wrong fault
answered_err says wrong (Ok y) fault a e = cc
answered_err says wrong (Err other) fault a e = let same : other ≡ fault = cc in subst (λ f. IsFirst wrong f) same a

-- what gives what reading answers reads so
pub reads_as : {A : Type 0} (says : A → Type 0) (wrong : Faults) (r : Result A Fault) (result : Result A ReadError) → Answers says wrong r
    → Gives result r → ReadsAs says wrong result
reads_as says wrong r (Ok x) answers gives = answered_ok says wrong r x answers gives
reads_as says wrong r (Err (error.Bad fault)) answers gives = answered_err says wrong r fault answers gives
reads_as says wrong r (Err error.NoMemory) answers gives = tt

-- and by a form
pub reads : {A : Type 0} (form : Form A) (whole : Data) (result : Result A ReadError) → Gives result (read form whole)
    → Reads form whole result
reads form whole result gives = reads_as (Says form whole) (Wrong form whole) (read form whole) result (tells form whole) gives
