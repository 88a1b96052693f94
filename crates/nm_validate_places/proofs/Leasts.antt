-- The least of paths, as it is found one after another.
use Rattle.std.proofs.Common.{◌≡◌, ℕ, suc, ◌+◌, ◌-◌, ◌<◌, List, [], ◌∷◌, ◌++◌, Bool, true, false, cond, Option, Some, None, if◌then◌else◌, refl, sym, ap, ◌∙◌, inl, inr, arith}
use Rattle.std.specs.Prelude.{filter}
use Rattle.std.specs.List.{fold, flat_map, range_with_len}
use Rattle.std.specs.Ordering.{is_lt}
use Rattle.std.proofs.lemmas.Grind.{fold-append}
use Rattle.nm_types.specs.Path.{PathStep, path_cmp}
use Rattle.nm_validate_rules.specs.Violation.{lesser, least_of}
use Rattle.nm_validate_rules.proofs.Among.{Among}
use Rattle.nm_validate_places.specs.Least.{with_path, least_with}

-- a path is there: what is kept of one more is the lesser of both
kept_by : (b : Bool) (m p : List PathStep) → (if b then Some p else Some m) ≡ Some (if b then p else m)
kept_by true m p = refl
kept_by false m p = refl

from_some : (m : List PathStep) (ps : List (List PathStep)) → least_with (Some m) ps ≡ Some (fold lesser m ps)
from_some m [] = refl
from_some m (p ∷ ps) = ap (λ o. fold with_path o ps) (kept_by (is_lt (path_cmp p m)) m p) ∙ from_some (lesser m p) ps

-- the least of some paths, found one after another
pub least_is_found : (ps : List (List PathStep)) → least_with None ps ≡ least_of ps
least_is_found [] = refl
least_is_found (p ∷ ps) = from_some p ps

pub least_append : (found : Option (List PathStep)) (ps qs : List (List PathStep)) → least_with found (ps ++ qs) ≡ least_with (least_with found ps) qs
least_append found ps qs = fold-append with_path found ps qs

-- ---- filters

pub filter_append : {X : Type 0} (test : X → Bool) (xs ys : List X) → filter test (xs ++ ys) ≡ filter test xs ++ filter test ys
filter_append test [] ys = refl
filter_append test (x ∷ xs) ys = elim (test x) as (λ b. cond b (x ∷ filter test (xs ++ ys)) (filter test (xs ++ ys)) ≡ cond b (x ∷ filter test xs) (filter test xs) ++ filter test ys) [
  | true ↦ ap (λ l. x ∷ l) (filter_append test xs ys)
  | false ↦ filter_append test xs ys
]

-- tests that agree on what is there keep the same
pub filter_same : {X : Type 0} (f g : X → Bool) (xs : List X) → ((x : X) → Among xs x → f x ≡ g x) → filter f xs ≡ filter g xs
filter_same f g [] same = refl
filter_same f g (x ∷ xs) same =
    let rest = filter_same f g xs (λ y a. same y (inr a)) in
    ap (λ b. cond b (x ∷ filter f xs) (filter f xs)) (same x (inl refl)) ∙ ap (λ l. cond (g x) (x ∷ l) l) rest

pub filter_none : {X : Type 0} (f : X → Bool) (xs : List X) → ((x : X) → Among xs x → f x ≡ false) → filter f xs ≡ []
filter_none f [] none = refl
filter_none f (x ∷ xs) none = ap (λ b. cond b (x ∷ filter f xs) (filter f xs)) (none x (inl refl)) ∙ filter_none f xs (λ y a. none y (inr a))

-- ---- numbers one after another

-- what is left from a number on begins with it
pub range_step : (i n : ℕ) → i < n → range_with_len i (n - i) ≡ i ∷ range_with_len (i + 1) (n - (i + 1))
range_step i n lt = let e : n - i ≡ suc (n - (i + 1)) = omega (arith, lt) in ap (range_with_len i) e

pub range_done : (i n : ℕ) → n ≡ i → range_with_len i (n - i) ≡ []
range_done i n e = let z : n - i ≡ 0 = omega (arith, e) in ap (range_with_len i) z

-- a place more is looked at
pub turn : (test : List PathStep → Bool) (f : ℕ → List (List PathStep)) (i n : ℕ) (before after : Option (List PathStep)) → i < n → after ≡ least_with before (filter test (f i))
    → least_with after (filter test (flat_map f (range_with_len (i + 1) (n - (i + 1))))) ≡ least_with before (filter test (flat_map f (range_with_len i (n - i))))
turn test f i n before after lt is =
    let rest = flat_map f (range_with_len (i + 1) (n - (i + 1))) in
    ap (λ o. least_with o (filter test rest)) is
    ∙ sym (ap (λ l. least_with before (filter test (flat_map f l))) (range_step i n lt) ∙ ap (least_with before) (filter_append test (f i) rest) ∙ least_append before (filter test (f i)) (filter test rest))

-- what is looked at for one number more
pub turn_all : (f : ℕ → List (List PathStep)) (i n : ℕ) (before after : Option (List PathStep)) → i < n → after ≡ least_with before (f i)
    → least_with after (flat_map f (range_with_len (i + 1) (n - (i + 1)))) ≡ least_with before (flat_map f (range_with_len i (n - i)))
turn_all f i n before after lt is =
    let rest = flat_map f (range_with_len (i + 1) (n - (i + 1))) in
    ap (λ o. least_with o rest) is ∙ sym (ap (λ l. least_with before (flat_map f l)) (range_step i n lt) ∙ least_append before (f i) rest)
