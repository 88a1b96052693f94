-- What several proofs say.
use Rattle.std.proofs.Common.{◌≡◌, ℕ, ◌==◌, Bool, true, false, ◌||◌, Option, Some, None, is_some, refl, arith}
use Rattle.std.proofs.lemmas.Bool.Decides.{nat_tests}

pub never : {A : Type 0} → false ≡ true → A
never h = absurd (let e : false ≡ true = h in cc)

-- one of two, by which it is
pub either : (a b : Bool) (P : Type 0) → (a ≡ true → P) → (b ≡ true → P) → (a || b) ≡ true → P
either true b P p q h = p refl
either false b P p q h = q h

-- what there is none of there was none of, where there is as much
pub not_there : {A : Type 0} (o other : Option A) → is_some other ≡ is_some o → other ≡ None → o ≡ None
not_there None other s e = refl
not_there (Some x) None s e = never s
not_there (Some x) (Some y) s e = absurd (let g : Some y ≡ None = e in cc)

pub is_one : (number : ℕ) → (number == 1) ≡ true → number ≡ 1
is_one number n = grind (arith, nat_tests)

pub not_one : (number : ℕ) → (number == 1) ≡ false → number ≡ 1 → ⊥
not_one number h e = grind (arith, nat_tests)
