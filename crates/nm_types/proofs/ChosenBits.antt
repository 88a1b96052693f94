-- Bits of one value: the places of its words among the names, each once.
use Rattle.std.proofs.Common.{◌≡◌, ℕ, zero, suc, ◌+◌, ◌<◌, ◌≤◌, Bool, true, false, cond, List, [], ◌∷◌, ◌++◌, map, filter, take, drop, length, get_or, Option, Some, None, is_some, fold, Bor, nat_cmp, arith, ap, refl, sym, ◌∙◌, subst, inl, inr}
use Rattle.std.specs.Prelude.{◌&&◌, ◌||◌, not, nat_lt}
use Rattle.std.specs.Str.{bytes_eq}
use Rattle.std.specs.List.{list_any, range_with_len, AllByRecursion}
use Rattle.std.specs.Option.{IfSome}
use Rattle.std.specs.List.Sorted.{IsStrictlySortedBy}
use Rattle.std.specs.BTreeMap.{is_at}
use Rattle.std.specs.BTreeSet.{BTreeSet, contains, IsOrdered}
use Rattle.std.specs.Cmp.Lexicographic.{bytes_decides, nat_list_eq_equiv}
use Rattle.std.specs.declared.cmp.Ordering.TheVariants.{Less}
use Rattle.std.proofs.lemmas.Bool.{cases_Bool, and_parts, false_from_ne_true, true≢false}
use Rattle.std.proofs.lemmas.Bool.Decides.{nat_tests}
use Rattle.std.proofs.lemmas.Cmp.{nat_cmp_total, tied_itself}
use Rattle.std.proofs.lemmas.List.{take_more, take-append-drop}
use Rattle.std.proofs.lemmas.Option.{same_Some}
use Rattle.std.proofs.lemmas.List.Folds.{list_any-append}
use Rattle.std.proofs.lemmas.List.Kept.{IsStrictlySortedBy-filter}
use Rattle.std.proofs.lemmas.Map.Lookups.{btree_set_from_contains, exact_unsigned}
use Rattle.std.proofs.lemmas.Map.Views.{any-filter_same, tells_apart}
use Rattle.nm_types.specs.Names.{has_text, is_once, place_in, is_chosen, Chooses}
use Rattle.nm_types.specs.Reading.{are_bits, spaced, bits_text}
use Rattle.nm_types.proofs.Places.{is_placed, stands_at, place_at}

-- ---- words that are bits

swapped : (h a e A k b : Bool) → h && not (a || (e || false)) && (A && (k && not b)) ≡ (h && not a && A) && (k && not (e || b))
swapped true true true A k b = refl
swapped true true false A k b = refl
swapped true false true true true b = refl
swapped true false true true false b = refl
swapped true false true false k b = refl
swapped true false false A k b = refl
swapped false a e A k b = refl

turned : (x y : List ℕ) → bytes_eq x y ≡ bytes_eq y x
turned x y = nat_list_eq_equiv.symm x y

-- one word more
pub are_bits-push : (names ws : List (List ℕ)) (w : List ℕ) → are_bits names (ws ++ w ∷ []) ≡ are_bits names ws && (has_text names w && not (has_text ws w))
unfolding are_bits
are_bits-push names [] w = and_true (has_text names w && true)
  where
    and_true : (b : Bool) → b && true ≡ b
    and_true true = refl
    and_true false = refl
are_bits-push names (v ∷ ws) w =
    ap (λ (t : Bool). has_text names v && not t && are_bits names (ws ++ w ∷ [])) (list_any-append (λ t. bytes_eq t v) ws (w ∷ []))
    ∙ ap (λ (t : Bool). has_text names v && not (has_text ws v || (bytes_eq w v || false)) && t) (are_bits-push names ws w)
    ∙ swapped (has_text names v) (has_text ws v) (bytes_eq w v) (are_bits names ws) (has_text names w) (has_text ws w)
    ∙ ap (λ (t : Bool). (has_text names v && not (has_text ws v) && are_bits names ws) && (has_text names w && not (t || has_text ws w))) (turned w v)

-- what is no bits stays none
pub are_bits-front : (names ws vs : List (List ℕ)) → are_bits names ws ≡ false → are_bits names (ws ++ vs) ≡ false
unfolding are_bits
are_bits-front names [] vs e = cc
are_bits-front names (w ∷ ws) vs e =
    ap (λ (t : Bool). has_text names w && not t && are_bits names (ws ++ vs)) (list_any-append (λ t. bytes_eq t w) ws vs)
    ∙ by (has_text names w) (has_text ws w) (has_text vs w) (are_bits names ws) (are_bits names (ws ++ vs)) (are_bits-front names ws vs) e
  where
    by : (h a b A B : Bool) → (A ≡ false → B ≡ false) → h && not a && A ≡ false → h && not (a || b) && B ≡ false
    by true true b A B f g = refl
    by true false true A B f g = refl
    by true false false A B f g = f g
    by false a b A B f g = refl

-- ---- words along the walk

abbrev texts : List (Bor (List ℕ)) → List (List ℕ)
texts ws = map (λ (w : Bor (List ℕ)). w.now) ws

texts-append : (xs ys : List (Bor (List ℕ))) → texts (xs ++ ys) ≡ texts xs ++ texts ys
texts-append [] ys = refl
texts-append (x ∷ xs) ys = ap (λ (l : List (List ℕ)). x.now ∷ l) (texts-append xs ys)

words_more : (ws : List (Bor (List ℕ))) (k : ℕ) (d : Bor (List ℕ)) (w : List ℕ) → k < length ws → w ≡ (get_or ws k d).now → texts (take (k + 1) ws) ≡ texts (take k ws) ++ w ∷ []
words_more ws k d w h e = ap texts (take_more ws k d h) ∙ texts-append (take k ws) (get_or ws k d ∷ []) ∙ ap (λ (v : List ℕ). texts (take k ws) ++ v ∷ []) (sym e)

words_cut : (ws : List (Bor (List ℕ))) (k : ℕ) → texts (take k ws) ++ texts (drop k ws) ≡ texts ws
words_cut ws k = sym (texts-append (take k ws) (drop k ws)) ∙ ap texts (take-append-drop k ws)

module _ (names : List (List ℕ)) (ws : List (Bor (List ℕ))) (k : ℕ) (d : Bor (List ℕ)) (w : List ℕ) (h : k < length ws) (e : w ≡ (get_or ws k d).now) where
  -- words that are no bits with one more are none
  stops : are_bits names (texts (take k ws) ++ w ∷ []) ≡ false → are_bits names (texts ws) ≡ false
  stops n = ap (are_bits names) (sym (words_cut ws (k + 1))) ∙ are_bits-front names (texts (take (k + 1) ws)) (texts (drop (k + 1) ws)) (ap (are_bits names) (words_more ws k d w h e) ∙ n)

  and_false : (a : Bool) → a && false ≡ false
  and_false true = refl
  and_false false = refl

  pub unknown_word : place_in w names ≡ None → are_bits names (texts ws) ≡ false
  unknown_word n =
      let none = sym (is_placed w names) ∙ ap is_some n in
      stops (are_bits-push names (texts (take k ws)) w ∙ rw none (and_false (are_bits names (texts (take k ws)))))

  pub word_again : (p : ℕ) → place_in w names ≡ Some p → is_chosen names (texts (take k ws)) p ≡ true → are_bits names (texts ws) ≡ false
  word_again p s c =
      let at = stands_at w names p s in
      let again : has_text (texts (take k ws)) w ≡ true = ap (has_text (texts (take k ws))) (sym (at.1 [])) ∙ (and_parts (nat_lt p (length names)) _ c).1 in
      stops (are_bits-push names (texts (take k ws)) w ∙ rw again (ap (λ (t : Bool). are_bits names (texts (take k ws)) && t) (and_false (has_text names w)) ∙ and_false (are_bits names (texts (take k ws)))))

  pub word_more : (p : ℕ) → place_in w names ≡ Some p → is_chosen names (texts (take k ws)) p ≡ false → are_bits names (texts (take k ws)) ≡ true → are_bits names (texts (take (k + 1) ws)) ≡ true
  word_more p s c b =
      let at = stands_at w names p s in
      let known : has_text names w ≡ true = sym (is_placed w names) ∙ ap is_some s in
      let within : nat_lt p (length names) ≡ true = grind (arith, nat_tests, at.0) in
      let new : has_text (texts (take k ws)) w ≡ false = ap (has_text (texts (take k ws))) (sym (at.1 [])) ∙ rw within at c in
      ap (are_bits names) (words_more ws k d w h e) ∙ are_bits-push names (texts (take k ws)) w ∙ rw (b, known, new) refl

-- ---- places that are chosen

-- a name stands at one place
only_place : (names : List (List ℕ)) (w : List ℕ) (p i : ℕ) → is_once names ≡ true → place_in w names ≡ Some p → i < length names → get_or names i [] ≡ w → i ≡ p
only_place names w p i o s h e = same_Some i p (sym (place_at names i [] o h) ∙ ap (λ (t : List ℕ). place_in t names) e ∙ s)

-- the places that are chosen with one word more
chosen_push : (names ws : List (List ℕ)) (w : List ℕ) (p i : ℕ) → is_once names ≡ true → place_in w names ≡ Some p → is_chosen names (ws ++ w ∷ []) i ≡ cond (is_at (nat_cmp p) i) true (is_chosen names ws i)
chosen_push names ws w p i o s =
    let at = stands_at w names p s in
    let more = list_any-append (λ t. bytes_eq t (get_or names i [])) ws (w ∷ []) in
    ap (λ (t : Bool). nat_lt i (length names) && t) more
    ∙ elim (cases_Bool (is_at (nat_cmp p) i)) [
      | inl here ↦
          let same : p ≡ i = tells_apart exact_unsigned p i here in
          let within : nat_lt i (length names) ≡ true = grind (arith, nat_tests, at.0) in
          let found : bytes_eq w (get_or names i []) ≡ true = (bytes_decides w (get_or names i [])).1 (sym (ap (λ (k : ℕ). get_or names k []) (sym same) ∙ at.1 [])) in
          rw (here, within, found) (or_true (has_text ws (get_or names i [])))
      | inr other ↦ elim (cases_Bool (nat_lt i (length names))) [
        | inr beyond ↦ rw (other, beyond) refl
        | inl within ↦
            let l : i < length names = grind (arith, nat_tests) in
            let no : bytes_eq w (get_or names i []) ≡ false = false_from_ne_true (bytes_eq w (get_or names i [])) (λ t.
            let same : i ≡ p = only_place names w p i o s l (sym ((bytes_decides w (get_or names i [])).0 t)) in
            true≢false (sym (ap (λ (k : ℕ). is_at (nat_cmp p) k) same ∙ at_itself p) ∙ other)) in
            rw (other, within, no) (or_false (has_text ws (get_or names i [])))
      ]
    ]
  where
    or_true : (a : Bool) → a || (true || false) ≡ true
    or_true true = refl
    or_true false = refl

    or_false : (a : Bool) → a || (false || false) ≡ a
    or_false true = refl
    or_false false = refl

    at_itself : (k : ℕ) → is_at (nat_cmp k) k ≡ true
    at_itself k = let e = tied_itself nat_cmp_total k in rw e refl

-- the set of places with one word more
pub place_more : (names : List (List ℕ)) (ws : List (Bor (List ℕ))) (k : ℕ) (d : Bor (List ℕ)) (w : List ℕ) (p i : ℕ) (old new : Bool) → k < length ws → w ≡ (get_or ws k d).now → is_once names ≡ true → place_in w names ≡ Some p
    → new ≡ cond (is_at (nat_cmp p) i) true old → old ≡ is_chosen names (texts (take k ws)) i → new ≡ is_chosen names (texts (take (k + 1) ws)) i
place_more names ws k d w p i old new h e o s u g =
    u ∙ ap (cond (is_at (nat_cmp p) i) true) g
    ∙ sym (chosen_push names (texts (take k ws)) w p i o s)
    ∙ ap (λ (l : List (List ℕ)). is_chosen names l i) (sym (words_more ws k d w h e))

-- no word chooses no place
pub bits_none : (names : List (List ℕ)) → are_bits names [] ≡ true
unfolding are_bits
bits_none names = refl

pub chosen_none : (names : List (List ℕ)) (i : ℕ) → false ≡ is_chosen names [] i
chosen_none names i = both (nat_lt i (length names))
  where
    both : (b : Bool) → false ≡ b && false
    both true = refl
    both false = refl

-- what an insert tells
pub added_new : (added old : Bool) → added ≡ not old → added ≡ true → old ≡ false
added_new added true e f = cc
added_new added false e f = refl

pub not_added : (added old : Bool) → added ≡ not old → added ≡ false → old ≡ true
not_added added true e f = refl
not_added added false e f = cc

-- ---- names at the places

above : (b a n : ℕ) → b < a → AllByRecursion (λ k. nat_cmp b k ≡ Less) (range_with_len a n)
above b a zero h = tt
above b a (suc n) h = (grind (arith, nat_tests), above b (a + 1) n (omega (arith, h)))

range_rises : (a n : ℕ) → IsStrictlySortedBy nat_cmp (range_with_len a n)
unfolding IsStrictlySortedBy
range_rises a zero = tt
range_rises a (suc n) = (above a (a + 1) n (omega arith), range_rises (a + 1) n)

in_range : (i a n : ℕ) → a ≤ i → i < a + n → list_any (is_at (nat_cmp i)) (range_with_len a n) ≡ true
in_range i a zero h l = absurd (omega (arith, h, l))
in_range i a (suc n) h l = elim (cases_Bool (is_at (nat_cmp i) a)) [
  | inl here ↦ rw here refl
  | inr other ↦ rw other (in_range i (a + 1) n (let d : (a ≡ i → ⊥) = λ e. true≢false (sym (ap (λ (k : ℕ). is_at (nat_cmp i) k) e ∙ itself i) ∙ other) in omega (arith, h, d)) (omega (arith, l)))
]
  where
    itself : (k : ℕ) → is_at (nat_cmp k) k ≡ true
    itself k = let e = tied_itself nat_cmp_total k in rw e refl

names_at : (f : ℕ → List ℕ) (p : ℕ → Bool) (q : List ℕ → Bool) (ns : List (List ℕ)) (a : ℕ) → ((k : ℕ) → k < length ns → f (a + k) ≡ get_or ns k []) → ((k : ℕ) → k < length ns → p (a + k) ≡ q (get_or ns k []))
    → map f (filter p (range_with_len a (length ns))) ≡ filter q ns
names_at f p q [] a g h = refl
names_at f p q (n ∷ ns) a g h =
    let here : a + 0 ≡ a = omega arith in
    let name : f a ≡ n = ap f (sym here) ∙ g 0 (omega arith) in
    let test : p a ≡ q n = ap p (sym here) ∙ h 0 (omega arith) in
    let rest = names_at f p q ns (a + 1)
    (λ k l. let e : (a + 1) + k ≡ a + suc k = omega arith in ap f e ∙ g (suc k) (omega (arith, l)))
    (λ k l. let e : (a + 1) + k ≡ a + suc k = omega arith in ap p e ∙ h (suc k) (omega (arith, l))) in
    elim (cases_Bool (q n)) [
      | inl y ↦ (let t = test ∙ y in rw (t, y, name) (ap (λ (l : List (List ℕ)). n ∷ l) rest))
      | inr m ↦ (let t = test ∙ m in rw (t, m) rest)
    ]

-- the names at the chosen places, in order, are those among the words
pub chosen_names : (names ws : List (List ℕ)) (s : BTreeSet ℕ) → IsOrdered nat_cmp s → Chooses names ws s → map (λ place. get_or names place []) s.keys ≡ filter (has_text ws) names
chosen_names names ws s o same =
    let n = length names in
    let t : BTreeSet ℕ = record { keys = filter (is_chosen names ws) (range_with_len 0 n) } in
    let has : (i : ℕ) → contains nat_cmp s i ≡ contains nat_cmp t i = λ i. same i ∙ sym (any-filter_same (is_at (nat_cmp i)) (is_chosen names ws) (is_chosen names ws i) (λ k h. ap (is_chosen names ws) (sym (tells_apart exact_unsigned i k h))) (range_with_len 0 n) ∙ all (is_chosen names ws i) (list_any (is_at (nat_cmp i)) (range_with_len 0 n)) (λ c. in_range i 0 n (omega arith) (within i c))) in
    let keys = btree_set_from_contains nat_cmp_total s t o (IsStrictlySortedBy-filter nat_cmp (is_chosen names ws) (range_with_len 0 n) (range_rises 0 n)) has exact_unsigned in
    ap (map (λ (place : ℕ). get_or names place [])) keys
    ∙ names_at (λ place. get_or names place []) (is_chosen names ws) (has_text ws) names 0 (λ k l. let e : 0 + k ≡ k = omega arith in ap (λ (i : ℕ). get_or names i []) e) (λ k l. let e : 0 + k ≡ k = omega arith in ap (is_chosen names ws) e ∙ (let in_it : nat_lt k (length names) ≡ true = grind (arith, nat_tests, l) in rw in_it refl))
  where
    all : (p r : Bool) → (p ≡ true → r ≡ true) → p && r ≡ p
    all true r f = f refl
    all false r f = refl

    within : (i : ℕ) → is_chosen names ws i ≡ true → i < 0 + length names
    within i c = let w = (and_parts (nat_lt i (length names)) (has_text ws (get_or names i [])) c).0 in grind (arith, nat_tests)

-- ---- what reading bits does with a set of places

pub chosen_within : (names ws : List (List ℕ)) (o : Option (BTreeSet ℕ)) (s : BTreeSet ℕ) → o ≡ Some s → IfSome o (λ places. Chooses names ws places) → (i : ℕ) → contains nat_cmp s i ≡ true → i < length names
chosen_within names ws o s e h i c =
    let chosen = subst (λ (x : Option (BTreeSet ℕ)). IfSome x (Chooses names ws)) e h in
    let w = (and_parts (nat_lt i (length names)) (has_text ws (get_or names i [])) (sym (chosen i) ∙ c)).0 in
    grind (arith, nat_tests)

pub chosen_text : (names ws : List (List ℕ)) (o : Option (BTreeSet ℕ)) (s : BTreeSet ℕ) → o ≡ Some s → IfSome o (λ places. Chooses names ws places) → IfSome o (λ places. IsOrdered nat_cmp places) → fold spaced [] (map (λ place. get_or names place []) s.keys) ≡ bits_text names ws
unfolding bits_text
chosen_text names ws o s e h r =
    ap (fold spaced []) (chosen_names names ws s (subst (λ (x : Option (BTreeSet ℕ)). IfSome x (IsOrdered nat_cmp)) e r) (subst (λ (x : Option (BTreeSet ℕ)). IfSome x (Chooses names ws)) e h))
