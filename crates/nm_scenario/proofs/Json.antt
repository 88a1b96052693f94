-- When bytes are JSON.
use Rattle.std.proofs.Common.{◌≡◌, ℕ, List, Bool, true, false, cond, Option, Some, None, Result, Ok, Err, refl, ap, subst, ◌∙◌}
use Rattle.std.specs.Str.{IsUtf8, is_utf8}
use Rattle.std.proofs.lemmas.Str.{IsUtf8-from_is_utf8, is_utf8-from_IsUtf8}
use Rattle.serde_json.specs.Data.{Data}
use Rattle.serde_json.specs.Read.{read}
use Rattle.nm_proto.specs.declared.kind.ScenarioKind.TheVariants.{NotJson}
use Rattle.nm_scenario_form.specs.declared.fault.Fault.{Fault}
use Rattle.nm_scenario_form.specs.declared.fault.ReadError.{ReadError}
use Rattle.nm_scenario_form.specs.declared.fault.ReadError.TheVariants.{Bad}
use Rattle.nm_scenario_form.specs.Reading.{Gives, here}
use Rattle.nm_scenario_form.specs.Read.{told}
use Rattle.nm_scenario.specs.Scenario.{json_of, parsed}

pub json_some : (bytes : List ℕ) (d : Data) → IsUtf8 bytes → read bytes ≡ Some d → json_of bytes ≡ Some d
json_some bytes d utf8 e = ap (λ b. cond b (read bytes) None) (is_utf8-from_IsUtf8 bytes utf8) ∙ e

none_by : (b : Bool) (x : Option Data) → (b ≡ true → x ≡ None) → cond b x None ≡ None
none_by true x h = h refl
none_by false x h = refl

pub json_none : (bytes : List ℕ) → (IsUtf8 bytes → read bytes ≡ None) → json_of bytes ≡ None
json_none bytes h = none_by (is_utf8 bytes) (read bytes) (λ t. h (IsUtf8-from_is_utf8 bytes t))

-- a fault is the same whatever would have been read
moved : {A : Type 0} → Result A Fault → Result Data Fault
moved (Ok x) = here NotJson
moved (Err fault) = Err fault

pub told_of_bytes : {A : Type 0} (bytes : List ℕ) (fault : Fault) (result : Result A ReadError) → json_of bytes ≡ None → result ≡ Err (Bad fault)
    → Gives result (here NotJson) → told {A = Data} (parsed (json_of bytes)) ≡ Err fault
unfolding moved
told_of_bytes bytes fault result none e gives =
    ap (λ found. told (parsed found)) none ∙ ap moved (subst (λ r. Gives r (here NotJson)) e gives)
