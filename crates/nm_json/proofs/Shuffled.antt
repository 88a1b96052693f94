-- Lists with the same elements in another order.
use Rattle.std.proofs.Common.{◌≡◌, List, [], ◌∷◌, ◌++◌, subst}
use Rattle.std.specs.List.{AllByRecursion}

-- two neighbours change places, or that and more
pub data Shuffled {A : Type 0} : List A → List A → Type 0 where
  as_before : {xs : List A} → Shuffled xs xs
  neighbours : {x y : A} {xs : List A} → Shuffled (x ∷ y ∷ xs) (y ∷ x ∷ xs)
  behind : {x : A} {xs ys : List A} → Shuffled xs ys → Shuffled (x ∷ xs) (x ∷ ys)
  further : {xs zs : List A} (ys : List A) → Shuffled xs ys → Shuffled ys zs → Shuffled xs zs

pub equals : {A : Type 0} {xs ys : List A} → xs ≡ ys → Shuffled xs ys
equals {xs = xs} e = subst (Shuffled xs) e as_before

-- the other way round
pub back : {A : Type 0} {xs ys : List A} → Shuffled xs ys → Shuffled ys xs
back as_before = as_before
back neighbours = neighbours
back (behind s) = behind (back s)
back (further ys s t) = further ys (back t) (back s)

pub none_left : {A : Type 0} {xs ys : List A} → Shuffled xs ys → xs ≡ [] → ys ≡ []
none_left as_before e = e
none_left neighbours e = absurd cc
none_left (behind s) e = absurd cc
none_left (further ys s t) e = none_left t (none_left s e)

pub after_all : {A : Type 0} (us : List A) {xs ys : List A} → Shuffled xs ys → Shuffled (us ++ xs) (us ++ ys)
after_all [] s = s
after_all (u ∷ us) s = behind (after_all us s)

pub before_all : {A : Type 0} {xs ys : List A} (us : List A) → Shuffled xs ys → Shuffled (xs ++ us) (ys ++ us)
before_all us as_before = as_before
before_all us neighbours = neighbours
before_all us (behind s) = behind (before_all us s)
before_all us (further ys s t) = further (ys ++ us) (before_all us s) (before_all us t)

pub joined : {A : Type 0} {xs ys us vs : List A} → Shuffled xs ys → Shuffled us vs → Shuffled (xs ++ us) (ys ++ vs)
joined {ys = ys} {us = us} s t = further (ys ++ us) (before_all us s) (after_all ys t)

pub later : {A : Type 0} (x : A) (us vs : List A) → Shuffled (x ∷ (us ++ vs)) (us ++ x ∷ vs)
later x [] vs = as_before
later x (u ∷ us) vs = further (u ∷ x ∷ (us ++ vs)) neighbours (behind (later x us vs))

-- two neighbouring parts of a list change places
pub parts : {A : Type 0} (us vs ws : List A) → Shuffled (us ++ (vs ++ ws)) (vs ++ (us ++ ws))
parts [] vs ws = as_before
parts (u ∷ us) vs ws = further (u ∷ (vs ++ (us ++ ws))) (behind (parts us vs ws)) (later u vs (us ++ ws))

-- what holds of each element holds of each in another order
pub all_shuffled : {A : Type 0} (P : A → Type 0) {xs ys : List A} → Shuffled xs ys → AllByRecursion P xs → AllByRecursion P ys
all_shuffled P as_before h = h
all_shuffled P neighbours h = (h.1.0, (h.0, h.1.1))
all_shuffled P (behind s) h = (h.0, all_shuffled P s h.1)
all_shuffled P (further ys s t) h = all_shuffled P t (all_shuffled P s h)
