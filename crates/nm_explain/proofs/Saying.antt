-- What is told of bytes that were read, and that bytes have one explanation.
use Rattle.std.proofs.Common.{◌≡◌, ℕ, List, Result, Ok, Err, IfOk, refl, sym, ap, ◌∙◌, subst}
use Rattle.nm_scenario_form.specs.declared.fault.Fault.{Fault}
use Rattle.nm_scenario.specs.declared.scenario.Scenario.{Scenario}
use Rattle.nm_base.specs.declared.fault.NoMemory.{NoMemory}
use Rattle.nm_scenario_form.specs.declared.fault.ReadError.{ReadError}
use Rattle.nm_scenario_form.specs.declared.fault.ReadError.TheVariants.{Bad}
use Rattle.nm_scenario.specs.Scenario.{Reads, ReadsBytes}
use Rattle.nm_scenario.proofs.Whole.{bytes_exact}
use Rattle.nm_explain.specs.declared.status.Status.{Status}
use Rattle.nm_explain.specs.declared.telling.Explained.{Explained}
use Rattle.nm_explain.specs.Explained.{Told, Tells, Explains, faulted, fine_told, told_of}

-- where a text was made, it is told so of what the bytes read as
pub fine_explains : (bytes : List ℕ) (read : Result Scenario ReadError) (s : Scenario) (result : Result Explained NoMemory) → read ≡ Ok s → Reads bytes read
    → IfOk result (λ told. Tells fine_told told.status told.text.items) → IfOk result (λ told. Explains bytes told.status told.text.items)
fine_explains bytes read s (Ok told) e reads tells = record { outcome = Ok s; reads = subst (Reads bytes) e reads; tells = tells }
fine_explains bytes read s (Err error) e reads tells = tt

pub fault_explains : (bytes : List ℕ) (read : Result Scenario ReadError) (fault : Fault) (result : Result Explained NoMemory) → read ≡ Err (Bad fault) → Reads bytes read
    → IfOk result (λ told. Tells (faulted bytes fault) told.status told.text.items) → IfOk result (λ told. Explains bytes told.status told.text.items)
fault_explains bytes read fault (Ok told) e reads tells = record { outcome = Err fault; reads = subst (Reads bytes) e reads; tells = tells }
fault_explains bytes read fault (Err error) e reads tells = tt

-- ---- one explanation

tells_one : (told : Told) (status other : Status) (text words : List ℕ) → Tells told status text → Tells told other words → (other ≡ status) × (words ≡ text)
tells_one told status other text words a b = (sym b.status_is ∙ a.status_is, sym b.text_is ∙ a.text_is)

one_told : (bytes : List ℕ) (one other : Result Scenario Fault) → ReadsBytes bytes one → ReadsBytes bytes other → told_of bytes other ≡ told_of bytes one
one_told bytes (Ok s) (Ok t) a b = refl
one_told bytes (Ok s) (Err fault) a b = absurd ((bytes_exact bytes).right s a fault.cause fault.place (b.spot, b.there))
one_told bytes (Err fault) (Ok s) a b = absurd ((bytes_exact bytes).right s b fault.cause fault.place (a.spot, a.there))
one_told bytes (Err fault) (Err other) a b = ap (λ (f : Fault). told_of bytes (Err f)) ((bytes_exact bytes).one_fault other fault b a)

pub one_explanation : (bytes : List ℕ) (status other : Status) (text words : List ℕ) → Explains bytes status text → Explains bytes other words → (other ≡ status) × (words ≡ text)
one_explanation bytes status other text words a b =
    tells_one (told_of bytes a.outcome) status other text words a.tells (subst (λ (told : Told). Tells told other words) (one_told bytes a.outcome b.outcome a.reads b.reads) b.tells)
