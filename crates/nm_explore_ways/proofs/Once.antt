-- Each way is in the list once.
use Rattle.std.proofs.Common.{◌≡◌, ℕ, zero, suc, ◌+◌, ◌-◌, ◌==◌, ◌&&◌, nat_le, nat_lt, Bool, true, false, List, [], ◌∷◌, ◌++◌, cond, refl, sym, ap, ◌∙◌, arith}
use Rattle.std.proofs.lemmas.Bool.Decides.{nat_tests}
use Rattle.nm_explore_ways.specs.declared.put.Put.{Put}
use Rattle.nm_explore_ways.specs.Ways.{before_each, each_fault, each_place, is_way, same_put, same_way, times_in, ways}

zero_more : (n : ℕ) → 0 + n ≡ n
zero_more n = omega arith

times_append : (way : List Put) (xs ys : List (List Put)) → times_in way (xs ++ ys) ≡ times_in way xs + times_in way ys
times_append way [] ys = sym (zero_more (times_in way ys))
times_append way (x ∷ xs) ys = ap (λ n. cond (same_way way x) 1 0 + n) (times_append way xs ys) ∙ shift (cond (same_way way x) 1 0) (times_in way xs) (times_in way ys)
  where
    shift : (a b c : ℕ) → a + (b + c) ≡ a + b + c
    shift a b c = omega arith

none_before : (one : Put) (xs : List (List Put)) → times_in [] (before_each one xs) ≡ 0
none_before one [] = refl
none_before one (x ∷ xs) = zero_more (times_in [] (before_each one xs)) ∙ none_before one xs

-- one more before both
times_before : (one other : Put) (rest : List Put) (xs : List (List Put)) → times_in (one ∷ rest) (before_each other xs) ≡ cond (same_put one other) (times_in rest xs) 0
times_before one other rest xs = by_same (same_put one other) refl xs
  where
    by_same : (b : Bool) → same_put one other ≡ b → (xs : List (List Put)) → times_in (one ∷ rest) (before_each other xs) ≡ cond b (times_in rest xs) 0
    by_same true e [] = refl
    by_same false e [] = refl
    by_same true e (x ∷ xs) = ap (λ b. cond (b && same_way rest x) 1 0 + times_in (one ∷ rest) (before_each other xs)) e ∙ ap (λ n. cond (same_way rest x) 1 0 + n) (by_same true e xs)
    by_same false e (x ∷ xs) = ap (λ b. cond (b && same_way rest x) 1 0 + times_in (one ∷ rest) (before_each other xs)) e ∙ zero_more (times_in (one ∷ rest) (before_each other xs)) ∙ by_same false e xs

-- one place, each fault from a number on
module _ (one : Put) (rest : List Put) (place : ℕ) (others : List (List Put)) where
  abbrev is_here : ℕ → ℕ → Bool
  is_here fault count = (one.place == place) && (nat_le fault one.fault && nat_lt one.fault (fault + count))

  here_none : (fault : ℕ) → is_here fault 0 ≡ false
  here_none fault = grind (arith, nat_tests)

  first_alone : (fault count : ℕ) → same_put one (record { place = place; fault = fault }) ≡ true → is_here (fault + 1) count ≡ false
  first_alone fault count e = alone one.place one.fault fault count e
    where
      alone : (q x f m : ℕ) → ((q == place) && (x == f)) ≡ true → ((q == place) && (nat_le (f + 1) x && nat_lt x (f + 1 + m))) ≡ false
      alone q x f m e = grind (arith, nat_tests, e)

  first_there : (fault count : ℕ) → same_put one (record { place = place; fault = fault }) ≡ true → is_here fault (suc count) ≡ true
  first_there fault count e = there one.place one.fault fault count e
    where
      there : (q x f m : ℕ) → ((q == place) && (x == f)) ≡ true → ((q == place) && (nat_le f x && nat_lt x (f + suc m))) ≡ true
      there q x f m e = grind (arith, nat_tests, e)

  others_alike : (fault count : ℕ) → same_put one (record { place = place; fault = fault }) ≡ false → is_here (fault + 1) count ≡ is_here fault (suc count)
  others_alike fault count e = alike one.place one.fault fault count e
    where
      alike : (q x f m : ℕ) → ((q == place) && (x == f)) ≡ false → ((q == place) && (nat_le (f + 1) x && nat_lt x (f + 1 + m))) ≡ ((q == place) && (nat_le f x && nat_lt x (f + suc m)))
      alike q x f m e = grind (arith, nat_tests, e)

  step : (fault count n : ℕ) (b : Bool) → same_put one (record { place = place; fault = fault }) ≡ b
      → cond b n 0 + cond (is_here (fault + 1) count) n 0 ≡ cond (is_here fault (suc count)) n 0
  step fault count n true e =
      ap (λ b. n + cond b n 0) (first_alone fault count e) ∙ more_none n ∙ sym (ap (λ b. cond b n 0) (first_there fault count e))
    where
      more_none : (n : ℕ) → n + 0 ≡ n
      more_none n = omega arith
  step fault count n false e = zero_more (cond (is_here (fault + 1) count) n 0) ∙ ap (λ b. cond b n 0) (others_alike fault count e)

  times_faults : (fault count : ℕ) → times_in (one ∷ rest) (each_fault place fault count others) ≡ cond (is_here fault count) (times_in rest others) 0
  times_faults fault zero = sym (ap (λ b. cond b (times_in rest others) 0) (here_none fault))
  times_faults fault (suc count) =
      let first : Put = record { place = place; fault = fault } in
      times_append (one ∷ rest) (before_each first others) (each_fault place (fault + 1) count others)
      ∙ ap (λ n. n + times_in (one ∷ rest) (each_fault place (fault + 1) count others)) (times_before one first rest others)
      ∙ ap (λ n. cond (same_put one first) (times_in rest others) 0 + n) (times_faults (fault + 1) count)
      ∙ step fault count (times_in rest others) (same_put one first) refl

-- ---- all places

abbrev is_first : ℕ → ℕ → ℕ → Put → Bool
is_first faults place places one = nat_le place one.place && (nat_lt one.place (place + places) && nat_lt one.fault faults)

module _ (faults : ℕ) (others : ℕ → List (List Put)) where
  none_fault : (place fault count : ℕ) (xs : List (List Put)) → times_in [] (each_fault place fault count xs) ≡ 0
  none_fault place fault zero xs = refl
  none_fault place fault (suc count) xs =
      let first : Put = record { place = place; fault = fault } in
      times_append [] (before_each first xs) (each_fault place (fault + 1) count xs) ∙ ap (λ n. n + times_in [] (each_fault place (fault + 1) count xs)) (none_before first xs)
      ∙ zero_more (times_in [] (each_fault place (fault + 1) count xs)) ∙ none_fault place (fault + 1) count xs

  none_place : (place places : ℕ) → times_in [] (each_place faults others place places) ≡ 0
  none_place place zero = refl
  none_place place (suc places) =
      times_append [] (each_fault place 0 faults (others place)) (each_place faults others (place + 1) places)
      ∙ ap (λ n. n + times_in [] (each_place faults others (place + 1) places)) (none_fault place 0 faults (others place))
      ∙ zero_more (times_in [] (each_place faults others (place + 1) places)) ∙ none_place (place + 1) places

  module _ (one : Put) (rest : List Put) where
    -- how often the rest is among what may come from its place on
    abbrev after : ℕ
    after = times_in rest (others one.place)

    none_first : (place : ℕ) → is_first faults place 0 one ≡ false
    none_first place = none one.place one.fault
      where
        none : (q x : ℕ) → (nat_le place q && (nat_lt q (place + 0) && nat_lt x faults)) ≡ false
        none q x = grind (arith, nat_tests)

    at_first : (place places : ℕ) (b : Bool) → (one.place == place) ≡ b
        → cond ((one.place == place) && (nat_le 0 one.fault && nat_lt one.fault (0 + faults))) (times_in rest (others place)) 0
        + cond (is_first faults (place + 1) places one) after 0 ≡ cond (is_first faults place (suc places) one) after 0
    at_first place places true e =
        let same : one.place ≡ place = is_same one.place place e in
        let none : is_first faults (place + 1) places one ≡ false = not_later one.place one.fault e in
        let there : is_first faults place (suc places) one ≡ nat_lt one.fault faults = here_first one.place one.fault e in
        ap (λ b. cond (b && (nat_le 0 one.fault && nat_lt one.fault (0 + faults))) (times_in rest (others place)) 0 + cond (is_first faults (place + 1) places one) after 0) e
        ∙ ap (λ b. cond (nat_le 0 one.fault && nat_lt one.fault (0 + faults)) (times_in rest (others place)) 0 + cond b after 0) none
        ∙ more_none (cond (nat_le 0 one.fault && nat_lt one.fault (0 + faults)) (times_in rest (others place)) 0)
        ∙ ap (λ b. cond b (times_in rest (others place)) 0) (plain one.fault)
        ∙ ap (λ q. cond (nat_lt one.fault faults) (times_in rest (others q)) 0) (sym same)
        ∙ sym (ap (λ b. cond b after 0) there)
      where
        is_same : (q p : ℕ) → (q == p) ≡ true → q ≡ p
        is_same q p e = grind (arith, nat_tests, e)

        not_later : (q x : ℕ) → (q == place) ≡ true → (nat_le (place + 1) q && (nat_lt q (place + 1 + places) && nat_lt x faults)) ≡ false
        not_later q x e = grind (arith, nat_tests, e)

        here_first : (q x : ℕ) → (q == place) ≡ true → (nat_le place q && (nat_lt q (place + suc places) && nat_lt x faults)) ≡ nat_lt x faults
        here_first q x e = grind (arith, nat_tests, e)

        more_none : (n : ℕ) → n + 0 ≡ n
        more_none n = omega arith

        plain : (x : ℕ) → (nat_le 0 x && nat_lt x (0 + faults)) ≡ nat_lt x faults
        plain x = grind (arith, nat_tests)
    at_first place places false e =
        ap (λ b. cond (b && (nat_le 0 one.fault && nat_lt one.fault (0 + faults))) (times_in rest (others place)) 0 + cond (is_first faults (place + 1) places one) after 0) e
        ∙ zero_more (cond (is_first faults (place + 1) places one) after 0)
        ∙ ap (λ b. cond b after 0) (later one.place one.fault e)
      where
        later : (q x : ℕ) → (q == place) ≡ false → (nat_le (place + 1) q && (nat_lt q (place + 1 + places) && nat_lt x faults)) ≡ (nat_le place q && (nat_lt q (place + suc places) && nat_lt x faults))
        later q x e = grind (arith, nat_tests, e)

    times_places : (place places : ℕ) → times_in (one ∷ rest) (each_place faults others place places) ≡ cond (is_first faults place places one) after 0
    times_places place zero = sym (ap (λ b. cond b after 0) (none_first place))
    times_places place (suc places) =
        times_append (one ∷ rest) (each_fault place 0 faults (others place)) (each_place faults others (place + 1) places)
        ∙ ap (λ n. n + times_in (one ∷ rest) (each_place faults others (place + 1) places)) (times_faults one rest place (others place) 0 faults)
        ∙ ap (λ n. cond ((one.place == place) && (nat_le 0 one.fault && nat_lt one.fault (0 + faults))) (times_in rest (others place)) 0 + n) (times_places (place + 1) places)
        ∙ at_first place places (one.place == place) refl

-- ---- ways

nested : (a b c d : Bool) → cond (a && (b && c)) (cond {A = ℕ} d 1 0) 0 ≡ cond {A = ℕ} (a && (b && (c && d))) 1 0
nested true true true d = refl
nested true true false d = refl
nested true false c d = refl
nested false b c d = refl

-- up to the last place
to_last : (last place q : ℕ) (c : Bool) → (nat_le place q && (nat_lt q (place + (last - place)) && c)) ≡ (nat_le place q && (nat_lt q last && c))
to_last last place q c = grind (arith, nat_tests)

pub once : (last faults more place : ℕ) (way : List Put) → times_in way (ways last faults more place) ≡ cond (is_way last faults more place way) 1 0
once last faults zero place [] = refl
once last faults zero place (one ∷ rest) = refl
once last faults (suc more) place [] = none_place faults (ways last faults more) place (last - place)
once last faults (suc more) place (one ∷ rest) =
    times_places faults (ways last faults more) one rest place (last - place)
    ∙ ap (λ b. cond b (times_in rest (ways last faults more one.place)) 0) (to_last last place one.place (nat_lt one.fault faults))
    ∙ ap (λ n. cond (nat_le place one.place && (nat_lt one.place last && nat_lt one.fault faults)) n 0) (once last faults more one.place rest)
    ∙ nested (nat_le place one.place) (nat_lt one.place last) (nat_lt one.fault faults) (is_way last faults more one.place rest)
