-- Which paths are among others, after each step by which lists are made.
use Rattle.std.proofs.Common.{◌≡◌, ◌⊎◌, ℕ, zero, suc, ◌+◌, ◌<◌, List, [], ◌∷◌, ◌++◌, map, length, get_or, Bool, true, false, cond, ◌||◌, ◌&&◌, Option, Some, None, refl, sym, ap, ◌∙◌, subst, inl, inr, arith}
use Rattle.std.specs.Prelude.{filter, Contains}
use Rattle.std.specs.List.{list_any, filter_map, flat_map, range_with_len, find, cons_option}

-- x is one of these
abbrev pub Among : {X : Type 0} → List X → X → Type 0
Among [] x = ⊥
Among (y ∷ ys) x = (x ≡ y) ⊎ Among ys x

-- ---- tests

either : (a b : Bool) → (a || b) ≡ true → (a ≡ true) ⊎ (b ≡ true)
either true b e = inl refl
either false b e = inr e

pub both : (a b : Bool) → (a && b) ≡ true → (a ≡ true) × (b ≡ true)
both true b e = (refl, e)
both false b e = absurd (cc)

-- an element that passes a test
pub record Passing {X : Type 0} (test : X → Bool) (xs : List X) : Type 0 where
  pub x : X
  pub among : Among xs x
  pub passes : test x ≡ true

passing_later : {X : Type 0} (test : X → Bool) (y : X) (xs : List X) → Passing test xs → Passing test (y ∷ xs)
passing_later test y xs h = record { x = h.x; among = inr h.among; passes = h.passes }

pub any_passes : {X : Type 0} (test : X → Bool) (xs : List X) → list_any test xs ≡ true → Passing test xs
any_passes test [] e = absurd (cc)
any_passes test (y ∷ ys) e = elim (either (test y) (list_any test ys) e) [
  | inl here ↦ record { x = y; among = inl refl; passes = here }
  | inr more ↦ passing_later test y ys (any_passes test ys more)
]

found_by : {X : Type 0} (b : Bool) (y : X) (ys : List X) (o : Option X) (x : X) → (o ≡ Some x → Among ys x) → cond b (Some y) o ≡ Some x → Among (y ∷ ys) x
found_by true y ys o x more e = inl (cc)
found_by false y ys o x more e = inr (more e)

pub found_among : {X : Type 0} (test : X → Bool) (xs : List X) (x : X) → find test xs ≡ Some x → Among xs x
found_among test [] x e = absurd (cc)
found_among test (y ∷ ys) x e = found_by (test y) y ys (find test ys) x (found_among test ys x) e

-- ---- lists that are made

filter_here : {X : Type 0} (b : Bool) (y : X) (ys : List X) → b ≡ true → Among (cond b (y ∷ ys) ys) y
filter_here true y ys e = inl refl
filter_here false y ys e = absurd (cc)

filter_later : {X : Type 0} (b : Bool) (y x : X) (ys : List X) → Among ys x → Among (cond b (y ∷ ys) ys) x
filter_later true y x ys a = inr a
filter_later false y x ys a = a

pub among_filter : {X : Type 0} (test : X → Bool) (xs : List X) (x : X) → Among xs x → test x ≡ true → Among (filter test xs) x
among_filter test [] x a e = a
among_filter test (y ∷ ys) x (inl same) e = subst (λ z. Among (cond (test y) (y ∷ filter test ys) (filter test ys)) z) (sym same) (filter_here (test y) y (filter test ys) (ap test (sym same) ∙ e))
among_filter test (y ∷ ys) x (inr a) e = filter_later (test y) y x (filter test ys) (among_filter test ys x a e)

passes_by : {X : Type 0} (test : X → Bool) (b : Bool) (y : X) (ys : List X) (x : X) → test y ≡ b → (Among ys x → test x ≡ true) → Among (cond b (y ∷ ys) ys) x → test x ≡ true
passes_by test true y ys x e more (inl same) = ap test same ∙ e
passes_by test true y ys x e more (inr a) = more a
passes_by test false y ys x e more a = more a

-- what is left of a list passes
pub filter_passes : {X : Type 0} (test : X → Bool) (xs : List X) (x : X) → Among (filter test xs) x → test x ≡ true
filter_passes test [] x a = absurd a
filter_passes test (y ∷ ys) x a = passes_by test (test y) y (filter test ys) x refl (filter_passes test ys x) a

pub among_map : {X Y : Type 0} (f : X → Y) (xs : List X) (x : X) → Among xs x → Among (map f xs) (f x)
among_map f [] x a = a
among_map f (y ∷ ys) x (inl same) = inl (ap f same)
among_map f (y ∷ ys) x (inr a) = inr (among_map f ys x a)

pub among_left : {X : Type 0} (xs ys : List X) (x : X) → Among xs x → Among (xs ++ ys) x
among_left [] ys x a = absurd a
among_left (z ∷ zs) ys x (inl same) = inl same
among_left (z ∷ zs) ys x (inr a) = inr (among_left zs ys x a)

pub among_right : {X : Type 0} (xs ys : List X) (x : X) → Among ys x → Among (xs ++ ys) x
among_right [] ys x a = a
among_right (z ∷ zs) ys x a = inr (among_right zs ys x a)

pub among_flat : {X Y : Type 0} (f : X → List Y) (xs : List X) (x : X) (y : Y) → Among xs x → Among (f x) y → Among (flat_map f xs) y
among_flat f [] x y a b = absurd a
among_flat f (z ∷ zs) x y (inl same) b = among_left (f z) (flat_map f zs) y (subst (λ w. Among (f w) y) same b)
among_flat f (z ∷ zs) x y (inr a) b = among_right (f z) (flat_map f zs) y (among_flat f zs x y a b)

-- a number that is at most as many behind the first
pub among_range : (a n k : ℕ) → k < n → Among (range_with_len a n) (a + k)
among_range a zero k lt = absurd (omega (arith, lt))
among_range a (suc n) zero lt = inl (omega arith)
among_range a (suc n) (suc k) lt =
    let e : a + suc k ≡ (a + 1) + k = omega arith in
    inr (subst (λ (z : ℕ). Among (range_with_len (a + 1) n) z) (sym e) (among_range (a + 1) n k (omega (arith, lt))))

-- the same from 0
pub among_numbers : (n k : ℕ) → k < n → Among (range_with_len 0 n) k
among_numbers n k lt = let e : 0 + k ≡ k = omega arith in subst (λ (z : ℕ). Among (range_with_len 0 n) z) e (among_range 0 n k lt)

-- what a partial function gave one of
pub record Given {X Y : Type 0} (f : X → Option Y) (xs : List X) (y : Y) : Type 0 where
  pub x : X
  pub among : Among xs x
  pub gives : f x ≡ Some y

given_later : {X Y : Type 0} (f : X → Option Y) (z : X) (xs : List X) (y : Y) → Given f xs y → Given f (z ∷ xs) y
given_later f z xs y h = record { x = h.x; among = inr h.among; gives = h.gives }

given_by : {X Y : Type 0} (f : X → Option Y) (z : X) (xs : List X) (o : Option Y) (y : Y) → f z ≡ o → (Among (filter_map f xs) y → Given f xs y) → Among (cons_option o (filter_map f xs)) y → Given f (z ∷ xs) y
given_by f z xs None y e more a = given_later f z xs y (more a)
given_by f z xs (Some w) y e more (inl same) = record { x = z; among = inl refl; gives = e ∙ ap Some (sym same) }
given_by f z xs (Some w) y e more (inr a) = given_later f z xs y (more a)

pub among_given : {X Y : Type 0} (f : X → Option Y) (xs : List X) (y : Y) → Among (filter_map f xs) y → Given f xs y
among_given f [] y a = absurd a
among_given f (z ∷ zs) y a = given_by f z zs (f z) y refl (among_given f zs y) a

-- ---- the same by index

at_index : {X : Type 0} (xs : List X) (k : ℕ) (x : X) → k < length xs → get_or xs k x ≡ x → Among xs x
at_index [] k x lt e = absurd (omega (arith, lt))
at_index (y ∷ ys) zero x lt e = inl (sym e)
at_index (y ∷ ys) (suc k) x lt e = inr (at_index ys k x (omega (arith, lt)) e)

pub contains_among : {X : Type 0} (xs : List X) (x : X) → Contains xs x → Among xs x
contains_among xs x c = at_index xs c.0 x c.1 c.2

pub among_contains : {X : Type 0} (xs : List X) (x : X) → Among xs x → Contains xs x
among_contains [] x a = absurd a
among_contains (y ∷ ys) x (inl same) = (0, omega arith, sym same)
among_contains (y ∷ ys) x (inr a) = let h = among_contains ys x a in let lt = h.1 in (suc h.0, omega (arith, lt), h.2)
