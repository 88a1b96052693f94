-- What a test over a list says where it is false.
use Rattle.std.proofs.Common.{◌≡◌, ◌↔◌, ℕ, ◌==◌, Bool, true, false, not, cond, ◌&&◌, ◌||◌, List, [], ◌∷◌, filter, refl, ap, arith}
use Rattle.std.specs.List.{list_any, All}
use Rattle.std.proofs.lemmas.Bool.Decides.{nat_tests}
use Rattle.std.proofs.lemmas.List.Elements.{All-nil, All-cons, All-head, All-tail}

neither : (a b : Bool) → (a || b) ≡ false → (a ≡ false) × (b ≡ false)
neither true b h = cc
neither false b h = (refl, h)

both_false : (a b : Bool) → a ≡ false → b ≡ false → (a || b) ≡ false
both_false true b h k = cc
both_false false b h k = k

-- no element passes a test exactly where each is as its failing says
pub none_passes : {A : Type 0} (test : A → Bool) (P : A → Type 0) → ((x : A) → (test x ≡ false) ↔ P x) → (xs : List A) → (list_any test xs ≡ false) ↔ All P xs
none_passes test P tells [] = (λ _. All-nil P, λ _. refl)
none_passes test P tells (x ∷ xs) = (
  λ h. let b = neither (test x) (list_any test xs) h in All-cons P x xs ((tells x).0 b.0) ((none_passes test P tells xs).0 b.1),
  λ all. both_false (test x) (list_any test xs) ((tells x).1 (All-head P x xs all)) ((none_passes test P tells xs).1 (All-tail P x xs all)),
)

-- the failing of a test's opposite
pub opposite : {P : Type 0} (b : Bool) → ((b ≡ true) ↔ P) → (not b ≡ false) ↔ P
opposite true tells = (λ _. tells.0 refl, λ _. refl)
opposite false tells = (λ h. absurd (let g : true ≡ false = h in cc), λ p. absurd (let g : false ≡ true = tells.1 p in cc))

-- the failing of a test that stands under a condition's opposite
pub unless : {E P : Type 0} (t b : Bool) → ((t ≡ true) ↔ E) → ((b ≡ false) ↔ P) → ((not t && b) ≡ false) ↔ ((E → ⊥) → P)
unless true b same tells = (λ _ other. absurd (other (same.0 refl)), λ _. refl)
unless false b same tells = (λ h _. tells.0 h, λ f. tells.1 (f (λ e. let g : false ≡ true = same.1 e in cc)))

pub same_number : (n k : ℕ) → ((n == k) ≡ true) ↔ (n ≡ k)
same_number n k = (λ h. grind (arith, nat_tests), λ e. grind (arith, nat_tests))

kept_first : {A : Type 0} (b : Bool) (x : A) (xs ys : List A) → b ≡ false → xs ≡ ys → cond (not b) (x ∷ xs) xs ≡ x ∷ ys
kept_first true x xs ys h e = cc
kept_first false x xs ys h e = ap (λ rest. x ∷ rest) e

-- where no element passes a test, all are kept that fail it
pub all_kept : {A : Type 0} (test : A → Bool) (xs : List A) → list_any test xs ≡ false → filter (λ x. not (test x)) xs ≡ xs
all_kept test [] h = refl
all_kept test (x ∷ xs) h = let b = neither (test x) (list_any test xs) h in kept_first (test x) x (filter (λ x. not (test x)) xs) xs b.0 (all_kept test xs b.1)
