-- The table of an object's own members reads them one after another.
use Rattle.std.proofs.Common.{◌≡◌, ℕ, suc, List, [], ◌∷◌, ◌++◌, Some, None, Result, Ok, Err, refl, sym, subst, ◌∙◌}
use Rattle.serde_json.specs.Data.{Data, Members, no_members, member}
use Rattle.serde_json.specs.Find.{get, as_object}
use Rattle.nm_scenario_form.specs.declared.fault.Fault.{Fault}
use Rattle.nm_scenario_form.specs.declared.fault.ReadError.{ReadError}
use Rattle.nm_scenario_form.specs.declared.fault.Step.TheVariants.{Name}
use Rattle.nm_scenario_form.specs.Reading.{◌>>=◌, Gives}
use Rattle.nm_scenario_form.specs.Form.{Form}
use Rattle.nm_scenario_form.specs.Read.{read, read_parts, slot_read, names_read}
use Rattle.nm_access_form.specs.Entries.{any_name, entry_parts, taken, entries_all, entries_read}

-- what goes on alike comes to the same
go_on : {A B : Type 0} (r : Result A Fault) (f g : A → Result B Fault) → ((x : A) → f x ≡ g x) → (r >>= f) ≡ (r >>= g)
go_on (Ok x) f g same = same x
go_on (Err fault) f g same = refl

parts_are : {A : Type 0} (form : List ℕ → Form A) (n : ℕ) (whole : Data) (before : List A) (all : Members)
    → read_parts (entry_parts form all) n whole (taken before all) ≡ entries_read (λ name part. read (form name) part) whole before all
parts_are form n whole before no_members = refl
parts_are form n whole before (member name part rest) =
    go_on (slot_read (λ part. read (form name) part) (Name name) None (get name whole))
    (λ entry. read_parts (entry_parts form rest) (suc n) whole (taken (before ++ entry ∷ []) rest))
    (λ entry. entries_read (λ name part. read (form name) part) whole (before ++ entry ∷ []) rest)
    (λ entry. parts_are form (suc n) whole (before ++ entry ∷ []) rest)

any_names : (all : Members) → names_read any_name all ≡ Ok tt
any_names no_members = refl
any_names (member name part rest) = any_names rest

ends_so : {A : Type 0} (r : Result A Fault) → (r >>= (λ value. Ok value)) ≡ r
ends_so (Ok x) = refl
ends_so (Err fault) = refl

all_are : {A : Type 0} (form : List ℕ → Form A) (whole : Data) (all : Members) → as_object whole ≡ Some all
    → read (entries_all form all) whole ≡ entries_read (λ name part. read (form name) part) whole [] all
all_are form whole all is =
    rw (is, any_names all) (ends_so (read_parts (entry_parts form all) 0 whole (taken [] all)) ∙ parts_are form 0 whole [] all)

-- a reader of the members one after another is one of the object
pub gives_all : {A : Type 0} (form : List ℕ → Form A) (whole : Data) (all : Members) (result : Result (List A) ReadError)
    → as_object whole ≡ Some all → Gives result (entries_read (λ name part. read (form name) part) whole [] all)
    → Gives result (read (entries_all form all) whole)
gives_all form whole all result is gives = subst (Gives result) (sym (all_are form whole all is)) gives
