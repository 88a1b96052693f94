-- Nodes are put into the groups of what they stand in, one node after another.
use Rattle.std.proofs.Common.{◌≡◌, ℕ, zero, suc, ◌+◌, ◌-◌, ◌<◌, List, [], ◌∷◌, ◌++◌, get_or, length, Bool, true, false, cond, ◌||◌, ◌==◌, Option, Some, None, Vec, slice_get, slice_set, is_some, if◌then◌else◌, refl, sym, ap, ◌∙◌, subst, append-nil, arith}
use Rattle.std.proofs.lemmas.Grind.{common_steps}
use Rattle.std.proofs.lemmas.Bool.Decides.{nat_tests}
use Rattle.std.specs.Prelude.{filter}
use Rattle.std.specs.List.{list_any, find, range_with_len}
use Rattle.std.specs.declared.alloc.Global.{Global}
use Rattle.nm_base.specs.Numbers.{is_among}
use Rattle.nm_schema_tree.specs.Nodes.{SchemaTree, case_at, choice_at, outer_case}
use Rattle.nm_validate_rules.specs.Cases.{numbers, outwards, cases_over, case_of_choice, is_choice, is_in_case}
use Rattle.nm_validate_rules.specs.Violated.{is_of_choice}
use Rattle.nm_validate_places.specs.declared.tables.By.{By}
use Rattle.nm_validate_places.specs.declared.tables.By.TheVariants as by
use Rattle.nm_validate_places.specs.Tables.{Table, nodes_in, AreNone, ends_with, once, once_if, PutsOnce, group_of, is_of, PutsInto, AreBy, AreOfChoices, AreOfCases}
use Rattle.nm_validate_places.proofs.Leasts.{filter_append}

-- ---- no groups

none_push : (gs : Table) (g : Vec ℕ Global) (k : ℕ) → ((j : ℕ) → nodes_in gs j ≡ []) → g.items ≡ [] → nodes_in (gs ++ g ∷ []) k ≡ []
none_push [] g zero none e = e
none_push [] g (suc k) none e = refl
none_push (h ∷ gs) g zero none e = none 0
none_push (h ∷ gs) g (suc k) none e = none_push gs g k (λ j. none (suc j)) e

length_push : (gs : Table) (g : Vec ℕ Global) → length (gs ++ g ∷ []) ≡ length gs + 1
length_push [] g = refl
length_push (h ∷ gs) g = let r = length_push gs g in omega (arith, r)

pub none_zero : AreNone 0 []
none_zero = record { count_is = refl; none = λ k. refl }

pub none_more : (n : ℕ) (gs : Table) (g : Vec ℕ Global) → AreNone n gs → g.items ≡ [] → AreNone (n + 1) (gs ++ g ∷ [])
none_more n gs g h e = record { count_is = length_push gs g ∙ ap (λ (k : ℕ). k + 1) h.count_is; none = λ k. none_push gs g k h.none e }

-- ---- one group

same_suc : (a b : ℕ) → (suc a == suc b) ≡ (a == b)
same_suc a b = grind (arith, common_steps, nat_tests)

never : (k : ℕ) → (0 == suc k) ≡ false
never k = grind (arith, common_steps, nat_tests)

never_back : (k : ℕ) → (suc k == 0) ≡ false
never_back k = grind (arith, common_steps, nat_tests)

stays : (b : Bool) (x : ℕ) (nodes : List ℕ) → b ≡ false → nodes ≡ once_if b x nodes
stays true x nodes e = absurd (cc)
stays false x nodes e = refl

put_by : (gs : Table) (at k : ℕ) (old new : Vec ℕ Global) (x : ℕ) → slice_get gs at ≡ Some old → new.items ≡ once x old.items → k < length gs
    → nodes_in (slice_set gs at new) k ≡ once_if (at == k) x (nodes_in gs k)
put_by [] at k old new x is e lt = absurd (omega (arith, lt))
put_by (g ∷ gs) zero zero old new x is e lt =
    let same : g ≡ old = cc in
    e ∙ ap (λ (h : Vec ℕ Global). once x h.items) (sym same)
put_by (g ∷ gs) zero (suc k) old new x is e lt = stays (0 == suc k) x (nodes_in gs k) (never k)
put_by (g ∷ gs) (suc at) zero old new x is e lt = stays (suc at == 0) x g.items (never_back at)
put_by (g ∷ gs) (suc at) (suc k) old new x is e lt =
    put_by gs at k old new x is e (omega (arith, lt)) ∙ ap (λ b. once_if b x (nodes_in gs k)) (sym (same_suc at k))

same_length : (gs : Table) (at : ℕ) (new : Vec ℕ Global) → length (slice_set gs at new) ≡ length gs
same_length [] at new = refl
same_length (g ∷ gs) zero new = refl
same_length (g ∷ gs) (suc at) new = ap suc (same_length gs at new)

at_index : (gs : Table) (at : ℕ) (g : Vec ℕ Global) → at < length gs → g ≡ get_or gs at g → slice_get gs at ≡ Some g
at_index [] at g lt e = absurd (omega (arith, lt))
at_index (h ∷ gs) zero g lt e = ap Some (sym e)
at_index (h ∷ gs) (suc at) g lt e = at_index gs at g (omega (arith, lt)) e

pub put_is : (gs : Table) (at : ℕ) (old new : Vec ℕ Global) (x : ℕ) → at < length gs → old ≡ get_or gs at old → new.items ≡ once x old.items
    → PutsOnce x (Some at) gs (slice_set gs at new)
put_is gs at old new x lt is e = record { same_count = same_length gs at new; put = λ k less. put_by gs at k old new x (at_index gs at old lt is) e less }

beyond : (gs : Table) (at k : ℕ) → slice_get gs at ≡ None → k < length gs → (at == k) ≡ false
beyond [] at k is lt = absurd (omega (arith, lt))
beyond (g ∷ gs) zero k is lt = absurd (cc)
beyond (g ∷ gs) (suc at) zero is lt = never_back at
beyond (g ∷ gs) (suc at) (suc k) is lt = same_suc at k ∙ beyond gs at k is (omega (arith, lt))

-- there is no such group
pub put_beyond : (gs : Table) (at x : ℕ) → slice_get gs at ≡ None → PutsOnce x (Some at) gs gs
put_beyond gs at x is = record { same_count = refl; put = λ k lt. stays (at == k) x (nodes_in gs k) (beyond gs at k is lt) }

pub put_nowhere : (gs : Table) (x : ℕ) → PutsOnce x None gs gs
put_nowhere gs x = record { same_count = refl; put = λ k lt. refl }

-- ---- the groups of the cases that a node stands in

itself : (i : ℕ) → (i == i) ≡ true
itself i = grind (arith, common_steps)

last_behind : (y z : ℕ) (nodes : List ℕ) → slice_get (y ∷ z ∷ nodes) (length (y ∷ z ∷ nodes) - 1) ≡ slice_get (z ∷ nodes) (length (z ∷ nodes) - 1)
last_behind y z nodes = let e : suc (suc (length nodes)) - 1 ≡ suc (suc (length nodes) - 1) = omega arith in ap (slice_get (y ∷ z ∷ nodes)) e

ends_itself : (x : ℕ) (nodes : List ℕ) → ends_with x (nodes ++ x ∷ []) ≡ true
ends_itself x [] = itself x
ends_itself x (y ∷ []) = itself x
ends_itself x (y ∷ z ∷ nodes) = ap (is_choice x) (last_behind y z (nodes ++ x ∷ [])) ∙ ends_itself x (z ∷ nodes)

-- put twice, a node is there once
once_twice : (x : ℕ) (nodes : List ℕ) → once x (once x nodes) ≡ once x nodes
once_twice x nodes = by (ends_with x nodes) refl
  where
    by : (b : Bool) → ends_with x nodes ≡ b → once x (if b then nodes else nodes ++ x ∷ []) ≡ (if b then nodes else nodes ++ x ∷ [])
    by true e = ap (λ b. if b then nodes else nodes ++ x ∷ []) e
    by false e = ap (λ b. if b then nodes ++ x ∷ [] else (nodes ++ x ∷ []) ++ x ∷ []) (ends_itself x nodes)

once_more : (a b : Bool) (x : ℕ) (nodes : List ℕ) → once_if b x (once_if a x nodes) ≡ once_if (a || b) x nodes
once_more true true x nodes = once_twice x nodes
once_more true false x nodes = refl
once_more false b x nodes = refl

-- the groups once a node is put into those of the first cases from one on outwards, and so many are left to look at
pub record AreLeft (t : SchemaTree) (way : By) (x left : ℕ) (over : Option ℕ) (most : ℕ) (from : Option ℕ) (before after : Table) : Type 0 where
  pub same_count : length after ≡ length before
  pub put : (k : ℕ) → k < length before → once_if (is_of way t k (outwards t left over)) x (nodes_in after k) ≡ once_if (is_of way t k (outwards t most from)) x (nodes_in before k)

zero_out : (t : SchemaTree) (n : ℕ) (o : Option ℕ) → n ≡ 0 → outwards t n o ≡ []
zero_out t zero None e = refl
zero_out t zero (Some own) e = refl
zero_out t (suc n) o e = absurd (omega (arith, e))

one_out : (t : SchemaTree) (n own : ℕ) → 0 < n → outwards t n (Some own) ≡ own ∷ outwards t (n - 1) (outer_case t.choices t.cases own)
one_out t zero own lt = absurd (omega (arith, lt))
one_out t (suc n) own lt = let less : n ≡ suc n - 1 = omega arith in ap (λ (m : ℕ). own ∷ outwards t m (outer_case t.choices t.cases own)) less

module _ (t : SchemaTree) (way : By) (x most : ℕ) (from : Option ℕ) (before : Table) where
  pub all_left : AreLeft t way x most from most from before before
  all_left = record { same_count = refl; put = λ k lt. refl }

  pub none_left : (left : ℕ) (over : Option ℕ) (after : Table) → over ≡ None → AreLeft t way x left over most from before after → PutsInto t way x (outwards t most from) before after
  none_left left over after none h = record {
    same_count = h.same_count;
    put = λ k lt. ap (λ o. once_if (is_of way t k (outwards t left o)) x (nodes_in after k)) (sym none) ∙ h.put k lt;
  }

  pub enough : (left : ℕ) (over : Option ℕ) (after : Table) → left ≡ 0 → AreLeft t way x left over most from before after → PutsInto t way x (outwards t most from) before after
  enough left over after none h = record {
    same_count = h.same_count;
    put = λ k lt. ap (λ l. once_if (is_of way t k l) x (nodes_in after k)) (sym (zero_out t left over none)) ∙ h.put k lt;
  }

  -- the node is put into the group of one case more
  pub left_on : (left own : ℕ) (over outer : Option ℕ) (middle after : Table) → 0 < left → over ≡ Some own → outer ≡ outer_case t.choices t.cases own
      → PutsOnce x (group_of way t own) middle after → AreLeft t way x left over most from before middle → AreLeft t way x (left - 1) outer most from before after
  left_on left own over outer middle after lt is out put h = record {
    same_count = put.same_count ∙ h.same_count;
    put = λ k less.
        let rest = λ (o : Option ℕ). is_of way t k (outwards t (left - 1) o) in
        ap (once_if (rest outer) x) (put.put k (subst (λ (n : ℕ). k < n) (sym h.same_count) less))
        ∙ once_more (is_choice k (group_of way t own)) (rest outer) x (nodes_in middle k)
        ∙ ap (λ o. once_if (is_choice k (group_of way t own) || rest o) x (nodes_in middle k)) out
        ∙ ap (λ l. once_if (is_of way t k l) x (nodes_in middle k)) (sym (ap (outwards t left) is ∙ one_out t left own lt))
        ∙ h.put k less;
  }

-- ---- all nodes

-- so many groups have those of the first nodes that stand in a case of theirs
pub record AreUpTo (t : SchemaTree) (way : By) (count n : ℕ) (groups : Table) : Type 0 where
  pub count_is : length groups ≡ count
  pub each : (k : ℕ) → k < count → nodes_in groups k ≡ filter (λ x. is_of way t k (cases_over t x)) (range_with_len 0 n)

pub none_yet : (t : SchemaTree) (way : By) (count : ℕ) (gs : Table) → AreNone count gs → AreUpTo t way count 0 gs
none_yet t way count gs h = record { count_is = h.count_is; each = λ k lt. h.none k }

range_more : (a n : ℕ) → range_with_len a (suc n) ≡ range_with_len a n ++ (a + n) ∷ []
range_more a zero = let e : a ≡ a + 0 = omega arith in ap (λ (k : ℕ). k ∷ []) e
range_more a (suc n) =
    let e : a + 1 + n ≡ a + suc n = omega arith in
    ap (λ l. a ∷ l) (range_more (a + 1) n ∙ ap (λ (k : ℕ). range_with_len (a + 1) n ++ k ∷ []) e)

range_next : (x : ℕ) → range_with_len 0 (x + 1) ≡ range_with_len 0 x ++ x ∷ []
range_next x =
    let more : x + 1 ≡ suc x = omega arith in
    let same : 0 + x ≡ x = omega arith in
    ap (range_with_len 0) more ∙ range_more 0 x ∙ ap (λ (k : ℕ). range_with_len 0 x ++ k ∷ []) same

-- numbers below one don't end with it
lower : (test : ℕ → Bool) (x a n : ℕ) → a + n < x + 1 → ends_with x (filter test (range_with_len a n)) ≡ false
lower test x a zero lt = refl
lower test x a (suc n) lt = by (test a) (filter test (range_with_len (a + 1) n)) (lower test x (a + 1) n (omega (arith, lt)))
  where
    other : (a == x) ≡ false
    other = let less : a < x = omega (arith, lt) in grind (arith, nat_tests, less)

    by : (b : Bool) (rest : List ℕ) → ends_with x rest ≡ false → ends_with x (cond b (a ∷ rest) rest) ≡ false
    by true [] e = other
    by true (y ∷ rest) e = ap (is_choice x) (last_behind a y rest) ∙ e
    by false rest e = e

put_one : (b c : Bool) (x : ℕ) (nodes : List ℕ) → ends_with x nodes ≡ false → b ≡ c → once_if b x nodes ≡ nodes ++ cond c (x ∷ []) []
put_one true true x nodes e same = ap (λ b. if b then nodes else nodes ++ x ∷ []) e
put_one false false x nodes e same = sym (append-nil nodes)
put_one true false x nodes e same = absurd (cc)
put_one false true x nodes e same = absurd (cc)

pub over_is : (t : SchemaTree) (x n : ℕ) (o : Option ℕ) → n ≡ length t.cases → o ≡ case_at t.nodes x → outwards t n o ≡ cases_over t x
unfolding cases_over
over_is t x n o many is = ap (λ (k : ℕ). outwards t k o) many ∙ ap (outwards t (length t.cases)) is

-- one node more is grouped
pub one_node : (t : SchemaTree) (way : By) (count x : ℕ) (cases : List ℕ) (before after : Table) → cases ≡ cases_over t x → PutsInto t way x cases before after
    → AreUpTo t way count x before → AreUpTo t way count (x + 1) after
one_node t way count x cases before after are put h = record {
  count_is = put.same_count ∙ h.count_is;
  each = λ k lt.
      let test = λ (y : ℕ). is_of way t k (cases_over t y) in
      put.put k (subst (λ (n : ℕ). k < n) (sym h.count_is) lt)
      ∙ ap (once_if (is_of way t k cases) x) (h.each k lt)
      ∙ put_one (is_of way t k cases) (test x) x (filter test (range_with_len 0 x)) (lower test x 0 x (omega arith)) (ap (is_of way t k) are)
      ∙ sym (ap (filter test) (range_next x) ∙ filter_append test (range_with_len 0 x) (x ∷ []));
}

pub all_nodes : (t : SchemaTree) (way : By) (count x : ℕ) (gs : Table) → x ≡ length t.nodes → AreUpTo t way count x gs → AreBy t way count gs
all_nodes t way count x gs is h = record { count_is = h.count_is; each = λ k lt. h.each k lt ∙ ap (λ (n : ℕ). filter (λ y. is_of way t k (cases_over t y)) (range_with_len 0 n)) is }

-- ---- by choice

found : {X : Type 0} (test : X → Bool) (xs : List X) → list_any test xs ≡ is_some (find test xs)
found test [] = refl
found test (x ∷ xs) = elim (test x) as (λ b. (b || list_any test xs) ≡ is_some (cond b (Some x) (find test xs))) [
  | true ↦ refl
  | false ↦ found test xs
]

same_filter : {X : Type 0} (f g : X → Bool) (xs : List X) → ((x : X) → f x ≡ g x) → filter f xs ≡ filter g xs
same_filter f g [] same = refl
same_filter f g (x ∷ xs) same = ap (λ b. cond b (x ∷ filter f xs) (filter f xs)) (same x) ∙ ap (λ l. cond (g x) (x ∷ l) l) (same_filter f g xs same)

of_choice : (t : SchemaTree) (k x : ℕ) → is_of by.Choice t k (cases_over t x) ≡ is_of_choice t k x
unfolding case_of_choice
of_choice t k x = found (λ c. is_choice k (choice_at t.cases c)) (cases_over t x)

pub choices_are : (t : SchemaTree) (count : ℕ) (gs : Table) → count ≡ length t.choices → AreBy t by.Choice count gs → AreOfChoices t gs
choices_are t count gs is h = record {
  count = h.count_is ∙ is;
  each = λ k lt. h.each k (subst (λ (n : ℕ). k < n) (sym is) lt) ∙ same_filter (λ x. is_of by.Choice t k (cases_over t x)) (is_of_choice t k) (numbers t.nodes) (of_choice t k);
}

-- ---- by case

of_case : (t : SchemaTree) (c x : ℕ) → is_of by.Case t c (cases_over t x) ≡ is_in_case t c x
unfolding is_among
of_case t c x = refl

pub cases_are : (t : SchemaTree) (count : ℕ) (gs : Table) → count ≡ length t.cases → AreBy t by.Case count gs → AreOfCases t gs
cases_are t count gs is h = record {
  count = h.count_is ∙ is;
  each = λ k lt. h.each k (subst (λ (n : ℕ). k < n) (sym is) lt) ∙ same_filter (λ x. is_of by.Case t k (cases_over t x)) (is_in_case t k) (numbers t.nodes) (of_case t k);
}
