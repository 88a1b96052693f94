-- What is read of a range or a length.
use Rattle.std.proofs.Common.{◌≡◌, ℕ, Bool, true, false, cond, List, Option, Some, None, Result, Ok, Err, IfOk, IfSome, ℤ, refl, sym, ap, ◌∙◌}
use Rattle.std.specs.Prelude.{◌&&◌, All}
use Rattle.std.specs.List.{list_all}
use Rattle.std.proofs.lemmas.Bool.{and_parts}
use Rattle.nm_base.specs.declared.fault.NoMemory.{NoMemory}
use Rattle.nm_schema_derive.specs.declared.form.NumberForm.{NumberForm}
use Rattle.nm_types.specs.Parts.{is_ascending}
use Rattle.nm_schema_derive.specs.Cover.{IsInside, is_inside}
use Rattle.nm_schema_derive.specs.Parts.{parts_of, chosen, parts_read}
use Rattle.nm_schema_derive.proofs.Covers.{all_inside_from, all_inside_to}

taken : (t : Bool) (x : Option (List (ℤ × ℤ))) (parts : List (ℤ × ℤ)) → cond t x None ≡ Some parts → (t ≡ true) × (x ≡ Some parts)
taken true x parts e = (refl, e)
taken false x parts e = cc

-- what holds of parts that are read
pub record IsRead (form : NumberForm) (base : List (ℤ × ℤ)) (text : List ℕ) (parts : List (ℤ × ℤ)) : Type 0 where
  pub given : parts_of form base text ≡ Some parts
  pub ascending : is_ascending parts ≡ true
  pub inside : All (IsInside base) parts

from_chosen : (form : NumberForm) (base : List (ℤ × ℤ)) (text : List ℕ) (o : Option (List (ℤ × ℤ))) (parts : List (ℤ × ℤ)) → parts_of form base text ≡ o → chosen base o ≡ Some parts → IsRead form base text parts
unfolding chosen
from_chosen form base text None parts g e = cc
from_chosen form base text (Some all) parts g e =
    let pass = taken (is_ascending all && list_all (is_inside base) all) (Some all) parts e in
    let same : all ≡ parts = let h = pass.1 in cc in
    let both = and_parts (is_ascending all) (list_all (is_inside base) all) pass.0 in
    record {
      given = g ∙ pass.1;
      ascending = sym (ap is_ascending same) ∙ both.0;
      inside = all_inside_from base parts (sym (ap (list_all (is_inside base)) same) ∙ both.1);
    }

is_read : (form : NumberForm) (base : List (ℤ × ℤ)) (text : List ℕ) (parts : List (ℤ × ℤ)) → parts_read form base text ≡ Some parts → IsRead form base text parts
unfolding parts_read
is_read form base text parts e =
    let pass = taken (is_ascending base) (chosen base (parts_of form base text)) parts e in
    from_chosen form base text (parts_of form base text) parts refl pass.1

reads : (form : NumberForm) (base : List (ℤ × ℤ)) (text : List ℕ) (parts : List (ℤ × ℤ)) → is_ascending base ≡ true → parts_of form base text ≡ Some parts → is_ascending parts ≡ true → All (IsInside base) parts → parts_read form base text ≡ Some parts
unfolding parts_read chosen
reads form base text parts s g t h =
    let all = all_inside_to base parts s t h in
    rw (s, g, t, all) refl

abbrev pub Answer : Type 0
Answer = Result (Option (List (ℤ × ℤ))) NoMemory

abbrev pub IsExact : NumberForm → List (ℤ × ℤ) → List ℕ → Answer → Type 0
IsExact form base text r = IfOk r (λ found. found ≡ parts_read form base text)

pub gives : (form : NumberForm) (base : List (ℤ × ℤ)) (text : List ℕ) (r : Answer) → IsExact form base text r → IfOk r (λ found. IfSome found (λ parts. parts_of form base text ≡ Some parts))
gives form base text (Err e) h = h
gives form base text (Ok None) h = tt
gives form base text (Ok (Some parts)) h = (is_read form base text parts (sym h)).given

pub ascends : (form : NumberForm) (base : List (ℤ × ℤ)) (text : List ℕ) (r : Answer) → IsExact form base text r → IfOk r (λ found. IfSome found (λ parts. is_ascending parts ≡ true))
ascends form base text (Err e) h = h
ascends form base text (Ok None) h = tt
ascends form base text (Ok (Some parts)) h = (is_read form base text parts (sym h)).ascending

pub lies_inside : (form : NumberForm) (base : List (ℤ × ℤ)) (text : List ℕ) (r : Answer) → IsExact form base text r → IfOk r (λ found. IfSome found (λ parts. All (IsInside base) parts))
lies_inside form base text (Err e) h = h
lies_inside form base text (Ok None) h = tt
lies_inside form base text (Ok (Some parts)) h = (is_read form base text parts (sym h)).inside

pub answered : (form : NumberForm) (base : List (ℤ × ℤ)) (text : List ℕ) (r : Answer) → IsExact form base text r → (parts : List (ℤ × ℤ)) → is_ascending base ≡ true → parts_of form base text ≡ Some parts → is_ascending parts ≡ true → All (IsInside base) parts → IfOk r (λ found. found ≡ Some parts)
answered form base text (Err e) h parts s g t i = h
answered form base text (Ok found) h parts s g t i = h ∙ reads form base text parts s g t i
