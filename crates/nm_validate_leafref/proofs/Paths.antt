-- The paths by which values are kept, and what is there once one more is kept.
use Rattle.std.proofs.Common.{◌≡◌, ◌⊎◌, ℕ, zero, suc, pos, ◌+◌, ◌-◌, List, [], ◌∷◌, ◌++◌, take, drop, length, Bool, true, false, cond, ◌&&◌, ◌||◌, ◌==◌, Option, Some, is_some, slice_get, refl, sym, ap, ◌∙◌, subst, inl, inr, append_assoc, arith}
use Rattle.std.proofs.lemmas.Grind.{common_steps}
use Rattle.std.proofs.lemmas.Bool.Decides.{nat_tests}
use Rattle.std.specs.Prelude.{nat_lt}
use Rattle.std.specs.FinMap.{get, insert, contains_key, get-insert}
use Rattle.nm_types.specs.declared.value.Value.{Value}
use Rattle.nm_types.specs.declared.value.Value.TheVariants.{Int, Present}
use Rattle.nm_types.specs.Value.{is_same_value}
use Rattle.nm_types.specs.ValueLaws.{same_value_decides}
use Rattle.nm_types.specs.Path.{PathStep, Choice, whole, keys, entry, choice_values}
use Rattle.nm_types.specs.PathLaws.{paths_total, same_path_decides}
use Rattle.nm_config.specs.Rows.{Rows}
use Rattle.nm_config.specs.Under.{is_whole, is_under, Continues, EntersList}
use Rattle.nm_config.proofs.Meaning.{under-means}
use Rattle.nm_validate_rules.specs.Values.{chosen_values, as_list, is_same_path}
use Rattle.nm_validate_rules.specs.Violated.{last_chosen}
use Rattle.nm_validate_rules.proofs.Among.{both}
use Rattle.nm_validate_rules.proofs.Areas.{ends}
use Rattle.nm_validate_places.specs.Leafs.{step_of}
use Rattle.nm_validate_leafref.specs.Kept.{as_whole, kept_at, mark_of}

-- ---- tests

pub both_ways : (a b : Bool) → (a ≡ true → b ≡ true) → (b ≡ true → a ≡ true) → a ≡ b
both_ways true true to from = refl
both_ways true false to from = sym (to refl)
both_ways false true to from = from refl
both_ways false false to from = refl

pub never_true : (b : Bool) → (b ≡ true → ⊥) → b ≡ false
never_true true h = absurd (h refl)
never_true false h = refl

pub number_is : (x y : ℕ) → (x == y) ≡ true → x ≡ y
number_is x y e = grind (arith, common_steps)

pub number_same : (x : ℕ) → (x == x) ≡ true
number_same x = grind (arith, common_steps)

number_by : (x y : ℕ) → x ≡ y → (x == y) ≡ true
number_by x y e = ap (λ (z : ℕ). x == z) (sym e) ∙ number_same x

pub path_is : (p q : List PathStep) → is_same_path p q ≡ true → p ≡ q
path_is p q e = (same_path_decides p q (is_same_path p q) refl).0 e

path_by : (p q : List PathStep) → p ≡ q → is_same_path p q ≡ true
path_by p q e = (same_path_decides p q (is_same_path p q) refl).1 e

value_is : (v w : Value) → is_same_value v w ≡ true → v ≡ w
value_is v w e = (same_value_decides v w (is_same_value v w) refl).0 e

value_by : (v w : Value) → v ≡ w → is_same_value v w ≡ true
value_by v w e = (same_value_decides v w (is_same_value v w) refl).1 e

all_three : (a b c : Bool) → a ≡ true → b ≡ true → c ≡ true → (a && (b && c)) ≡ true
all_three a b c p q r = ap (λ x. x && (b && c)) p ∙ ap (λ x. x && c) q ∙ r

-- ---- the paths

values_of : (s r : PathStep) (p q : List PathStep) → s ∷ p ≡ r ∷ q → choice_values s.chosen ≡ choice_values r.chosen
values_of s r p q e = cc

steps_after : (s r : PathStep) (p q : List PathStep) → s ∷ p ≡ r ∷ q → p ≡ q
steps_after s r p q e = cc

first_number : (x y : ℕ) (vs ws : List Value) → ◌≡◌ {A = List Value} (Int (pos x) ∷ vs) (Int (pos y) ∷ ws) → x ≡ y
first_number x y vs ws e = cc

second_value : (a b v w : Value) (vs ws : List Value) → ◌≡◌ {A = List Value} (a ∷ v ∷ vs) (b ∷ w ∷ ws) → v ≡ w
second_value a b v w vs ws e = cc

second_number : (a b : Value) (x y : ℕ) (vs ws : List Value) → ◌≡◌ {A = List Value} (a ∷ Int (pos x) ∷ vs) (b ∷ Int (pos y) ∷ ws) → x ≡ y
second_number a b x y vs ws e = cc

module _ (p : List PathStep) (x : ℕ) (v : Value) where
  module _ (q : List PathStep) (y : ℕ) (w : Value) where
    kept_to : kept_at p x v ≡ kept_at q y w → ((x == y) && (is_same_path p q && is_same_value v w)) ≡ true
    kept_to e =
        let values : Int (pos x) ∷ v ∷ [] ≡ Int (pos y) ∷ w ∷ [] = values_of (step_of (Int (pos x) ∷ v ∷ [])) (step_of (Int (pos y) ∷ w ∷ [])) p q e in
        let places : p ≡ q = steps_after (step_of (Int (pos x) ∷ v ∷ [])) (step_of (Int (pos y) ∷ w ∷ [])) p q e in
        all_three (x == y) (is_same_path p q) (is_same_value v w)
        (number_by x y (first_number x y (v ∷ []) (w ∷ []) values)) (path_by p q places) (value_by v w (second_value (Int (pos x)) (Int (pos y)) v w [] [] values))

    kept_from : ((x == y) && (is_same_path p q && is_same_value v w)) ≡ true → kept_at p x v ≡ kept_at q y w
    kept_from e =
        let a = both (x == y) (is_same_path p q && is_same_value v w) e in
        let b = both (is_same_path p q) (is_same_value v w) a.1 in
        ap (λ r. kept_at r x v) (path_is p q b.0) ∙ ap (λ (n : ℕ). kept_at q n v) (number_is x y a.0) ∙ ap (kept_at q y) (value_is v w b.1)

    -- a path tells its place, its node and its value
    pub same_kept : is_same_path (kept_at p x v) (kept_at q y w) ≡ ((x == y) && (is_same_path p q && is_same_value v w))
    same_kept = both_ways (is_same_path (kept_at p x v) (kept_at q y w)) ((x == y) && (is_same_path p q && is_same_value v w))
        (λ e. kept_to (path_is (kept_at p x v) (kept_at q y w) e)) (λ e. path_by (kept_at p x v) (kept_at q y w) (kept_from e))

two_or_three : (a b c d f : Value) → ◌≡◌ {A = List Value} (a ∷ b ∷ []) (c ∷ d ∷ f ∷ []) → ⊥
two_or_three a b c d f e = let n : ◌≡◌ {A = ℕ} 2 3 = ap length e in absurd (omega (arith, n))

not_mark : (p : List PathStep) (x : ℕ) (v : Value) (y d : ℕ) → kept_at p x v ≡ mark_of y d → ⊥
not_mark p x v y d e =
    two_or_three (Int (pos x)) v (Int (pos y)) (Int (pos d)) Present
    (values_of (step_of (Int (pos x) ∷ v ∷ [])) (step_of (Int (pos y) ∷ Int (pos d) ∷ Present ∷ [])) p [] e)

pub kept_no_mark : (p : List PathStep) (x : ℕ) (v : Value) (y d : ℕ) → is_same_path (kept_at p x v) (mark_of y d) ≡ false
kept_no_mark p x v y d = never_true (is_same_path (kept_at p x v) (mark_of y d)) (λ e. not_mark p x v y d (path_is (kept_at p x v) (mark_of y d) e))

pub mark_no_kept : (y d : ℕ) (p : List PathStep) (x : ℕ) (v : Value) → is_same_path (mark_of y d) (kept_at p x v) ≡ false
mark_no_kept y d p x v = never_true (is_same_path (mark_of y d) (kept_at p x v)) (λ e. not_mark p x v y d (sym (path_is (mark_of y d) (kept_at p x v) e)))

module _ (x d y n : ℕ) where
  mark_to : mark_of x d ≡ mark_of y n → ((x == y) && (d == n)) ≡ true
  mark_to e =
      let values : Int (pos x) ∷ Int (pos d) ∷ Present ∷ [] ≡ Int (pos y) ∷ Int (pos n) ∷ Present ∷ [] = ap chosen_values e in
      let one = number_by x y (first_number x y (Int (pos d) ∷ Present ∷ []) (Int (pos n) ∷ Present ∷ []) values) in
      ap (λ b. b && (d == n)) one ∙ number_by d n (second_number (Int (pos x)) (Int (pos y)) d n (Present ∷ []) (Present ∷ []) values)

  mark_from : ((x == y) && (d == n)) ≡ true → mark_of x d ≡ mark_of y n
  mark_from e =
      let a = both (x == y) (d == n) e in
      ap (λ (k : ℕ). mark_of k d) (number_is x y a.0) ∙ ap (mark_of y) (number_is d n a.1)

  -- a mark tells its node and its number of steps
  pub same_mark : is_same_path (mark_of x d) (mark_of y n) ≡ ((x == y) && (d == n))
  same_mark = both_ways (is_same_path (mark_of x d) (mark_of y n)) ((x == y) && (d == n))
      (λ e. mark_to (path_is (mark_of x d) (mark_of y n) e)) (λ e. path_by (mark_of x d) (mark_of y n) (mark_from e))

-- ---- one path more

some_or : (b : Bool) (o : Option Value) → is_some (cond b (Some Present) o) ≡ (b || is_some o)
some_or true o = refl
some_or false o = refl

pub put_then : (kept : Rows) (k path : List PathStep) → contains_key (insert kept k Present) path ≡ (is_same_path path k || contains_key kept path)
put_then kept k path = ap is_some (get-insert paths_total kept k Present path) ∙ some_or (is_same_path path k) (get kept path)

-- ---- places above a path

take_front : (p rest : List PathStep) → take (length p) (p ++ rest) ≡ p
take_front [] rest = refl
take_front (s ∷ ss) rest = ap (λ l. s ∷ l) (take_front ss rest)

take_drop : (n : ℕ) (p : List PathStep) → take n p ++ drop n p ≡ p
take_drop zero p = refl
take_drop (suc n) [] = refl
take_drop (suc n) (s ∷ ss) = ap (λ l. s ∷ l) (take_drop n ss)

take_length : (n : ℕ) (p : List PathStep) → nat_lt (length p) n ≡ false → length (take n p) ≡ n
take_length zero p e = refl
take_length (suc n) [] e = absurd (grind (arith, common_steps, nat_tests))
take_length (suc n) (s ∷ ss) e =
    let less : nat_lt (length ss) n ≡ false = grind (arith, common_steps, nat_tests) in
    ap suc (take_length n ss less)

as_list_last : (above : List PathStep) (s : PathStep) → as_list (above ++ s ∷ []) ≡ above ++ as_whole s ∷ []
as_list_last [] s = refl
as_list_last (r ∷ []) s = refl
as_list_last (r ∷ q ∷ ss) s = ap (λ p. r ∷ p) (as_list_last (q ∷ ss) s)

whole_is : (l s : PathStep) → l.chosen ≡ whole → l.«module» ≡ s.«module» → l.name ≡ s.name → as_whole s ≡ l
whole_is l s c m n = λ i. record { «module» = sym m i; name = sym n i; chosen = sym c i }

whole_choice : (c : Choice) → is_whole c ≡ true → c ≡ whole
whole_choice whole e = refl
whole_choice (keys vs) e = absurd (cc)
whole_choice (entry v) e = absurd (cc)

whole_step : (s : PathStep) → is_whole s.chosen ≡ true → as_whole s ≡ s
whole_step s e = whole_is s s (whole_choice s.chosen e) refl refl

-- the path of what isn't an entry is that of its list
pub bare_list : (p : List PathStep) → is_whole (last_chosen p) ≡ true → as_list p ≡ p
bare_list [] e = refl
bare_list (s ∷ []) e = ap (λ r. r ∷ []) (whole_step s e)
bare_list (s ∷ r ∷ ss) e = ap (λ p. s ∷ p) (bare_list (r ∷ ss) e)

as_list_length : (p : List PathStep) → length (as_list p) ≡ length p
as_list_length [] = refl
as_list_length (s ∷ []) = refl
as_list_length (s ∷ r ∷ ss) = ap suc (as_list_length (r ∷ ss))

length_last : (above : List PathStep) (s : PathStep) → length (above ++ s ∷ []) ≡ suc (length above)
length_last [] s = refl
length_last (r ∷ ss) s = ap suc (length_last ss s)

length_append : (p rest : List PathStep) → length (p ++ rest) ≡ length p + length rest
length_append [] rest = omega arith
length_append (s ∷ ss) rest = let h = length_append ss rest in omega (arith, h)

take_entry : (above : List PathStep) (s : PathStep) (rest : List PathStep) → take (suc (length above)) (above ++ s ∷ rest) ≡ above ++ s ∷ []
take_entry [] s rest = refl
take_entry (r ∷ ss) s rest = ap (λ l. r ∷ l) (take_entry ss s rest)

last_step : (s r : PathStep) → ◌≡◌ {A = Option PathStep} (Some s) (Some r) → s ≡ r
last_step s r e = cc

one_less : (s r : PathStep) (ss : List PathStep) → length (s ∷ r ∷ ss) - 1 ≡ suc (length (r ∷ ss) - 1)
one_less s r ss = omega arith

-- the path of a list, by the last step of an entry
pub as_list_is : (ss : List PathStep) (s : PathStep) → slice_get ss (length ss - 1) ≡ Some s → take (length ss - 1) ss ++ as_whole s ∷ [] ≡ as_list ss
as_list_is [] s e = absurd (cc)
as_list_is (r ∷ []) s e = ap (λ q. as_whole q ∷ []) (sym (last_step r s e))
as_list_is (r ∷ q ∷ ss) s e =
    ap (λ (n : ℕ). take n (r ∷ q ∷ ss) ++ as_whole s ∷ []) (one_less r q ss)
    ∙ ap (λ l. r ∷ l) (as_list_is (q ∷ ss) s (ap (slice_get (r ∷ q ∷ ss)) (sym (one_less r q ss)) ∙ e))

-- a place is that of so many steps above a path, or the list that this chooses an entry of
abbrev Stands : List PathStep → List PathStep → Type 0
Stands c place = (c ≡ place) ⊎ (c ≡ as_list place)

under_by : (c path : List PathStep) → Continues c path ⊎ EntersList c path → Stands c (take (length c) path)
under_by c path (inl h) = inl (sym (ap (take (length c)) h.begins ∙ take_front c h.rest))
under_by c path (inr h) =
    let count : length c ≡ suc (length h.above) = ap length h.ends ∙ length_last h.above h.list in
    let place : take (length c) path ≡ h.above ++ h.entry ∷ [] =
    ap (λ (n : ℕ). take n path) count ∙ ap (take (suc (length h.above))) h.begins ∙ take_entry h.above h.entry h.rest in
    inr (h.ends ∙ ap (λ s. h.above ++ s ∷ []) (sym (whole_is h.list h.entry h.as_whole h.same_module h.same_name)) ∙ sym (ap as_list place ∙ as_list_last h.above h.entry))

list_over : (c path : List PathStep) (n : ℕ) (place : List PathStep) → take n path ≡ place → c ≡ as_list place → Continues c path ⊎ EntersList c path
list_over c path n [] is e = inl (record { rest = path; begins = ap (λ p. p ++ path) (sym e) })
list_over c path n (s ∷ ss) is e =
    let h = ends s ss in
    inr (record {
      above = h.above;
      list = as_whole h.step;
      entry = h.step;
      rest = drop n path;
      ends = e ∙ ap as_list h.is ∙ as_list_last h.above h.step;
      as_whole = refl;
      same_module = refl;
      same_name = refl;
      begins = sym (take_drop n path) ∙ ap (λ p. p ++ drop n path) (is ∙ h.is) ∙ append_assoc h.above (h.step ∷ []) (drop n path);
    })

over : (c path : List PathStep) (n : ℕ) → Stands c (take n path) → is_under c path ≡ true
over c path n (inl e) = (under-means c path).1 (inl (record { rest = drop n path; begins = sym (ap (λ p. p ++ drop n path) e ∙ take_drop n path) }))
over c path n (inr e) = (under-means c path).1 (list_over c path n (take n path) refl e)

either : (a b : Bool) → (a || b) ≡ true → (a ≡ true) ⊎ (b ≡ true)
either true b e = inl refl
either false b e = inr e

one_of : (a b : Bool) → (a ≡ true) ⊎ (b ≡ true) → (a || b) ≡ true
one_of true b h = refl
one_of false b (inl e) = absurd (cc)
one_of false b (inr e) = e

to_stands : (c place : List PathStep) → (is_same_path c place ≡ true) ⊎ (is_same_path c (as_list place) ≡ true) → Stands c place
to_stands c place (inl e) = inl (path_is c place e)
to_stands c place (inr e) = inr (path_is c (as_list place) e)

from_stands : (c place : List PathStep) → Stands c place → (is_same_path c place ≡ true) ⊎ (is_same_path c (as_list place) ≡ true)
from_stands c place (inl e) = inl (path_by c place e)
from_stands c place (inr e) = inr (path_by c (as_list place) e)

stands_long : (c place : List PathStep) (n : ℕ) → length place ≡ n → Stands c place → length c ≡ n
stands_long c place n long (inl e) = ap length e ∙ long
stands_long c place n long (inr e) = ap length e ∙ as_list_length place ∙ long

-- what is below a place of so many steps is told by the first steps of its path
pub under_is : (c path : List PathStep) (d : ℕ) → nat_lt (length path) d ≡ false → (is_same_path c (take d path) || is_same_path c (as_list (take d path))) ≡ ((length c == d) && is_under c path)
under_is c path d long = both_ways (is_same_path c (take d path) || is_same_path c (as_list (take d path))) ((length c == d) && is_under c path)
    (λ e.
    let s = to_stands c (take d path) (either (is_same_path c (take d path)) (is_same_path c (as_list (take d path))) e) in
    ap (λ b. b && is_under c path) (number_by (length c) d (stands_long c (take d path) d (take_length d path long) s)) ∙ over c path d s)
    (λ e.
    let a = both (length c == d) (is_under c path) e in
    let s = subst (λ (n : ℕ). Stands c (take n path)) (number_is (length c) d a.0) (under_by c path ((under-means c path).0 a.1)) in
    one_of (is_same_path c (take d path)) (is_same_path c (as_list (take d path))) (from_stands c (take d path) s))

goes_on : (c path : List PathStep) → Continues c path ⊎ EntersList c path → (rest : ℕ) × (length path ≡ length c + rest)
goes_on c path (inl h) = (length h.rest, ap length h.begins ∙ length_append c h.rest)
goes_on c path (inr h) =
    let long : length path ≡ length h.above + length (h.entry ∷ h.rest) = ap length h.begins ∙ length_append h.above (h.entry ∷ h.rest) in
    let count : length c ≡ suc (length h.above) = ap length h.ends ∙ length_last h.above h.list in
    let more : length (h.entry ∷ h.rest) ≡ suc (length h.rest) = refl in
    (length h.rest, omega (arith, long, count, more))

-- nothing is below a place that has more steps
pub never_under : (c path : List PathStep) (d : ℕ) → nat_lt (length path) d ≡ true → ((length c == d) && is_under c path) ≡ false
never_under c path d short = never_true ((length c == d) && is_under c path) (λ e.
    let a = both (length c == d) (is_under c path) e in
    let h = goes_on c path ((under-means c path).0 a.1) in
    let count = number_is (length c) d a.0 in
    let long = h.1 in
    grind (arith, common_steps, nat_tests))
