-- What the names of annotations belong to.
use Rattle.std.proofs.Common.{◌≡◌, ◌≢◌, ℕ, List, [], ◌∷◌, ◌==◌, Bool, true, false, if◌then◌else◌, Option, Some, None, Bor, refl, ap}
use Rattle.std.specs.Prelude.{MatchOption}
use Rattle.std.proofs.lemmas.Bool.Decides.{nat_tests}
use Rattle.std.proofs.Common.{arith}
use Rattle.nm_edit_json.specs.Findings.{annotated}

number_is : (b : ℕ) → (b == 64) ≡ true → b ≡ 64
number_is b e = grind (arith, nat_tests, e)

without : (b : ℕ) (name : List ℕ) (x : Bool) → (b == 64) ≡ x → ((rest : List ℕ) → b ∷ name ≢ 64 ∷ rest) → (if x then Some name else None) ≡ None
without b name true e h = absurd (h name (ap (λ c. c ∷ name) (number_is b e)))
without b name false e h = refl

-- a name without the at sign before it, where it has one
pub marked_or : (name : List ℕ) (r : Option (Bor (List ℕ))) → MatchOption r ((rest : List ℕ) → name ≢ 64 ∷ rest) (λ x. name ≡ 64 ∷ x.now)
    → MatchOption r (annotated name ≡ None) (λ x. annotated name ≡ Some x.now)
marked_or name (Some x) e = ap annotated e
marked_or [] None h = refl
marked_or (b ∷ name) None h = without b name (b == 64) refl h
