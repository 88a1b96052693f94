-- What lists say of tests that only some elements pass.
use Rattle.std.proofs.Common.{◌≡◌, ◌⊎◌, ℕ, zero, suc, ◌+◌, List, [], ◌∷◌, ◌++◌, map, length, take, drop, Bool, true, false, cond, ◌&&◌, ◌||◌, Option, Some, None, refl, sym, ap, ◌∙◌, arith, subst, inl, inr}
use Rattle.std.specs.Prelude.{filter}
use Rattle.std.specs.List.{list_any, filter_map, count_by, cons_option, fold}
use Rattle.nm_validate_rules.proofs.Among.{Among}

-- ---- tests

pub or_left : (a b : Bool) → a ≡ true → (a || b) ≡ true
or_left a b e = ap (λ x. x || b) e

pub or_right : (a b : Bool) → b ≡ true → (a || b) ≡ true
or_right true b e = refl
or_right false b e = e

pub and_never : (b : Bool) → (b && false) ≡ false
and_never true = refl
and_never false = refl

pub not_true : (b : Bool) → (b ≡ true → ⊥) → b ≡ false
not_true true h = absurd (h refl)
not_true false h = refl

pub contrary : (b : Bool) → b ≡ true → b ≡ false → ⊥
contrary true e h = cc
contrary false e h = cc

pub either : (a b : Bool) → (a || b) ≡ true → (a ≡ true) ⊎ (b ≡ true)
either true b e = inl refl
either false b e = inr e

pub both_ways : (a b : Bool) → (a ≡ true → b ≡ true) → (b ≡ true → a ≡ true) → a ≡ b
both_ways true true to from = refl
both_ways true false to from = sym (to refl)
both_ways false true to from = from refl
both_ways false false to from = refl

-- a test that only what passes another passes
abbrev pub Within : {X : Type 0} → (X → Bool) → (X → Bool) → Type 0
Within {X} inner outer = (x : X) → inner x ≡ true → outer x ≡ true

-- ---- the elements that pass the outer test are enough

any_by : {X : Type 0} (inner outer : X → Bool) (y : X) (ys : List X) (i o : Bool) → (i ≡ true → o ≡ true) → inner y ≡ i → list_any inner ys ≡ list_any inner (filter outer ys)
    → (i || list_any inner ys) ≡ list_any inner (cond o (y ∷ filter outer ys) (filter outer ys))
any_by inner outer y ys true true h is more = sym (ap (λ b. b || list_any inner (filter outer ys)) is)
any_by inner outer y ys true false h is more = absurd (cc (h refl))
any_by inner outer y ys false true h is more = more ∙ sym (ap (λ b. b || list_any inner (filter outer ys)) is)
any_by inner outer y ys false false h is more = more

pub any_within : {X : Type 0} (inner outer : X → Bool) (xs : List X) → Within inner outer → list_any inner xs ≡ list_any inner (filter outer xs)
any_within inner outer [] h = refl
any_within inner outer (y ∷ ys) h = any_by inner outer y ys (inner y) (outer y) (h y) refl (any_within inner outer ys h)

-- the same where the outer test is known to pass for elements of the list alone
pub any_kept : {X : Type 0} (inner outer : X → Bool) (xs : List X) → ((x : X) → Among xs x → inner x ≡ true → outer x ≡ true) → list_any inner xs ≡ list_any inner (filter outer xs)
any_kept inner outer [] h = refl
any_kept inner outer (y ∷ ys) h = any_by inner outer y ys (inner y) (outer y) (h y (inl refl)) refl (any_kept inner outer ys (λ x a. h x (inr a)))

fold_by : {X : Type 0} (inner outer : X → Bool) (n : ℕ) (y : X) (ys : List X) (i o : Bool) → (i ≡ true → o ≡ true) → inner y ≡ i
    → ((m : ℕ) → fold (λ (a : ℕ) x. a + cond (inner x) 1 0) m ys ≡ fold (λ (a : ℕ) x. a + cond (inner x) 1 0) m (filter outer ys))
    → fold (λ (a : ℕ) x. a + cond (inner x) 1 0) (n + cond i 1 0) ys ≡ fold (λ (a : ℕ) x. a + cond (inner x) 1 0) n (cond o (y ∷ filter outer ys) (filter outer ys))
fold_by inner outer n y ys true false h is more = absurd (cc (h refl))
fold_by inner outer n y ys false false h is more =
    let e : n + 0 ≡ n = omega arith in ap (λ (m : ℕ). fold (λ (a : ℕ) x. a + cond (inner x) 1 0) m ys) e ∙ more n
fold_by inner outer n y ys i true h is more =
    more (n + cond i 1 0) ∙ ap (λ b. fold (λ (a : ℕ) x. a + cond (inner x) 1 0) (n + cond b 1 0) (filter outer ys)) (sym is)

fold_within : {X : Type 0} (inner outer : X → Bool) (xs : List X) → Within inner outer → (n : ℕ)
    → fold (λ (a : ℕ) x. a + cond (inner x) 1 0) n xs ≡ fold (λ (a : ℕ) x. a + cond (inner x) 1 0) n (filter outer xs)
fold_within inner outer [] h n = refl
fold_within inner outer (y ∷ ys) h n =
    ap (λ b. fold (λ (a : ℕ) x. a + cond (inner x) 1 0) (n + cond b 1 0) ys) refl ∙ fold_by inner outer n y ys (inner y) (outer y) (h y) refl (fold_within inner outer ys h)

pub count_within : {X : Type 0} (inner outer : X → Bool) (xs : List X) → Within inner outer → count_by inner xs ≡ count_by inner (filter outer xs)
count_within inner outer xs h = fold_within inner outer xs h 0

given_by : {X Y : Type 0} (f : X → Option Y) (outer : X → Bool) (y : X) (ys : List X) (o : Bool) → (o ≡ false → f y ≡ None) → filter_map f ys ≡ filter_map f (filter outer ys)
    → cons_option (f y) (filter_map f ys) ≡ filter_map f (cond o (y ∷ filter outer ys) (filter outer ys))
given_by f outer y ys true h more = ap (cons_option (f y)) more
given_by f outer y ys false h more = ap (λ v. cons_option v (filter_map f ys)) (h refl) ∙ more

pub given_within : {X Y : Type 0} (f : X → Option Y) (outer : X → Bool) (xs : List X) → ((x : X) → outer x ≡ false → f x ≡ None) → filter_map f xs ≡ filter_map f (filter outer xs)
given_within f outer [] h = refl
given_within f outer (y ∷ ys) h = given_by f outer y ys (outer y) (h y) (given_within f outer ys h)

-- ---- tests that answer alike

-- of those that pass a test, other tests that answer alike
pub any_alike : {X : Type 0} (f g outer : X → Bool) (xs : List X) → ((x : X) → outer x ≡ true → f x ≡ g x) → list_any f (filter outer xs) ≡ list_any g (filter outer xs)
any_alike f g outer [] h = refl
any_alike f g outer (y ∷ ys) h =
    elim (outer y) as (λ b. outer y ≡ b → list_any f (cond b (y ∷ filter outer ys) (filter outer ys)) ≡ list_any g (cond b (y ∷ filter outer ys) (filter outer ys))) [
      | true ↦ λ e. let here = h y e in let more = any_alike f g outer ys h in λ i. here i || more i
      | false ↦ λ e. any_alike f g outer ys h
    ] refl

-- the keys of the entries whose keys pass a test
pub keys_kept : {K X : Type 0} (test : K → Bool) (es : List (K × X)) → map (λ e. e.0) (filter (λ e. test e.0) es) ≡ filter test (map (λ e. e.0) es)
keys_kept test [] = refl
keys_kept test (e ∷ es) =
    elim (test e.0) as (λ b. map (λ e. e.0) (cond b (e ∷ filter (λ e. test e.0) es) (filter (λ e. test e.0) es)) ≡ cond b (e.0 ∷ filter test (map (λ e. e.0) es)) (filter test (map (λ e. e.0) es))) [
      | true ↦ ap (λ ks. e.0 ∷ ks) (keys_kept test es)
      | false ↦ keys_kept test es
    ]

-- some element passes as long as another test on them does
pub any_weaker : {X : Type 0} (f g : X → Bool) (xs : List X) → Within f g → list_any f xs ≡ true → list_any g xs ≡ true
any_weaker f g [] h e = e
any_weaker f g (y ∷ ys) h e =
    elim (f y) as (λ b. f y ≡ b → (b || list_any f ys) ≡ true → (g y || list_any g ys) ≡ true) [
      | true ↦ λ is e. or_left (g y) (list_any g ys) (h y is)
      | false ↦ λ is e. or_right (g y) (list_any g ys) (any_weaker f g ys h e)
    ] refl e

none_among : {X : Type 0} (f : X → Bool) (xs : List X) (x : X) → list_any f xs ≡ false → Among xs x → f x ≡ true → ⊥
none_among f [] x e a is = a
none_among f (y ∷ ys) x e (inl same) is = let here : f y ≡ true = ap f (sym same) ∙ is in let there : (f y || list_any f ys) ≡ true = or_left (f y) (list_any f ys) here in cc
none_among f (y ∷ ys) x e (inr a) is =
    elim (f y) as (λ b. (b || list_any f ys) ≡ false → ⊥) [
      | true ↦ λ n. cc
      | false ↦ λ n. none_among f ys x n a is
    ] e

-- where none passes, one of them doesn't
pub none_passes : {X : Type 0} (f : X → Bool) (xs : List X) (x : X) → list_any f xs ≡ false → Among xs x → f x ≡ false
none_passes f xs x e a = not_true (f x) (λ is. none_among f xs x e a is)

pub any_front : {X : Type 0} (f : X → Bool) (xs ys : List X) → list_any f xs ≡ true → list_any f (xs ++ ys) ≡ true
any_front f [] ys e = absurd (cc)
any_front f (x ∷ xs) ys e = elim (either (f x) (list_any f xs) e) [
  | inl here ↦ or_left (f x) (list_any f (xs ++ ys)) here
  | inr more ↦ or_right (f x) (list_any f (xs ++ ys)) (any_front f xs ys more)
]

pub any_last : {X : Type 0} (f : X → Bool) (xs : List X) (y : X) → f y ≡ true → list_any f (xs ++ y ∷ []) ≡ true
any_last f [] y e = or_left (f y) false e
any_last f (x ∷ xs) y e = or_right (f x) (list_any f (xs ++ y ∷ [])) (any_last f xs y e)

-- ---- where elements come from

cons_later : {X : Type 0} (o : Option X) (xs : List X) (y : X) → Among xs y → Among (cons_option o xs) y
cons_later None xs y a = a
cons_later (Some x) xs y a = inr a

pub among_filter_map : {X Y : Type 0} (f : X → Option Y) (xs : List X) (x : X) (y : Y) → Among xs x → f x ≡ Some y → Among (filter_map f xs) y
among_filter_map f [] x y a e = absurd a
among_filter_map f (z ∷ zs) x y (inl same) e = subst (λ o. Among (cons_option o (filter_map f zs)) y) (sym e ∙ ap f same) (inl refl)
among_filter_map f (z ∷ zs) x y (inr a) e = cons_later (f z) (filter_map f zs) y (among_filter_map f zs x y a e)

pub among_append : {X : Type 0} (xs ys : List X) (x : X) → Among (xs ++ ys) x → Among xs x ⊎ Among ys x
among_append [] ys x a = inr a
among_append (z ∷ zs) ys x (inl same) = inl (inl same)
among_append (z ∷ zs) ys x (inr a) = elim (among_append zs ys x a) [
  | inl front ↦ inl (inr front)
  | inr back ↦ inr back
]

-- ---- fronts

pub take_front : {X : Type 0} (p rest : List X) → take (length p) (p ++ rest) ≡ p
take_front [] rest = refl
take_front (s ∷ ss) rest = ap (λ l. s ∷ l) (take_front ss rest)

pub take_all : {X : Type 0} (p : List X) → take (length p) p ≡ p
take_all [] = refl
take_all (s ∷ ss) = ap (λ l. s ∷ l) (take_all ss)

drop_none : {X : Type 0} (n : ℕ) → drop {A = X} n [] ≡ []
drop_none zero = refl
drop_none (suc n) = refl

-- of a list with an element more, what is behind its front is nothing or ends with that
pub drop_last : {X : Type 0} (n : ℕ) (xs : List X) (x : X) → (drop n (xs ++ x ∷ []) ≡ []) ⊎ (drop n (xs ++ x ∷ []) ≡ drop n xs ++ x ∷ [])
drop_last zero xs x = inr refl
drop_last (suc n) [] x = inl (drop_none n)
drop_last (suc n) (y ∷ ys) x = drop_last n ys x
