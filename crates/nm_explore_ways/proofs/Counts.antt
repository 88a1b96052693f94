-- How many ways there are.
use Rattle.std.proofs.Common.{◌≡◌, ℕ, zero, suc, ◌+◌, ◌-◌, ◌*◌, ◌^◌, ◌/◌, ◌≤◌, ◌<◌, List, [], ◌∷◌, ◌++◌, length, refl, sym, ap, ◌∙◌, arith}
use Rattle.std.proofs.lemmas.List.{append_assoc, length-append}
use Rattle.std.proofs.Math.Nat.{zero-mul, suc-mul, mul-zero, mul-suc, mul-add, add-mul, mul_assoc, mul_comm, mul-one, one-mul, pow-suc, pow-zero, mul-div_cancel}
use Rattle.nm_explore_ways.specs.declared.put.Put.{Put}
use Rattle.nm_explore_ways.specs.Ways.{before_each, choose, each_fault, each_place, ways, ways_up_to}

length_before : (one : Put) (xs : List (List Put)) → length (before_each one xs) ≡ length xs
length_before one [] = refl
length_before one (x ∷ xs) = ap suc (length_before one xs)

length_faults : (place fault count : ℕ) (xs : List (List Put)) → length (each_fault place fault count xs) ≡ count * length xs
length_faults place fault zero xs = sym (zero-mul (length xs))
length_faults place fault (suc count) xs =
    let first : Put = record { place = place; fault = fault } in
    length-append (before_each first xs) (each_fault place (fault + 1) count xs)
    ∙ ap (λ n. n + length (each_fault place (fault + 1) count xs)) (length_before first xs)
    ∙ ap (λ n. length xs + n) (length_faults place (fault + 1) count xs)
    ∙ turned (length xs) (count * length xs) ∙ sym (suc-mul count (length xs))
  where
    turned : (a b : ℕ) → a + b ≡ b + a
    turned a b = omega arith

-- fewer can't be chosen from
none_left : (k more : ℕ) → choose k (suc (k + more)) ≡ 0
none_left zero more = refl
none_left (suc k) more =
    let e : suc k + more ≡ suc (k + more) = omega arith in
    ap (λ n. choose (suc k) (suc n)) e ∙ ap (λ n. n + choose k (suc (suc (k + more)))) (none_left k more)
    ∙ ap (λ n. 0 + choose k (suc n)) (sym (next k more)) ∙ ap (λ n. 0 + n) (none_left k (suc more))
  where
    next : (k more : ℕ) → k + suc more ≡ suc (k + more)
    next k more = omega arith

none_at : (k : ℕ) → choose k (suc k) ≡ 0
none_at k = ap (λ n. choose k (suc n)) (sym (same k)) ∙ none_left k 0
  where
    same : (k : ℕ) → k + 0 ≡ k
    same k = omega arith

-- so many places of the first fault, up to the last
module _ (last faults k : ℕ) (known : (q : ℕ) → length (ways last faults k q) ≡ faults ^ k * choose (last - q + k - 1) k) where
  one_place : (place n : ℕ) → place + suc n ≡ last → length (ways last faults k place) ≡ faults ^ k * choose (n + k) k
  one_place place n e = known place ∙ ap (λ j. faults ^ k * choose j k) (same place n last k e)
    where
      same : (place n last k : ℕ) → place + suc n ≡ last → last - place + k - 1 ≡ n + k
      same place n last k e = omega (arith, e)

  summed : (p a b : ℕ) → faults * (p * a) + p * faults * b ≡ p * faults * (a + b)
  summed p a b =
      ap (λ n. n + p * faults * b) (sym (mul_assoc faults p a) ∙ ap (λ n. n * a) (mul_comm faults p)) ∙ sym (mul-add (p * faults) a b)

  pub places_counted : (place n : ℕ) → place + n ≡ last → length (each_place faults (ways last faults k) place n) ≡ faults ^ suc k * choose (n + k) (suc k)
  places_counted place zero e =
      sym (ap (λ j. faults ^ suc k * choose j (suc k)) (nothing k) ∙ ap (λ n. faults ^ suc k * n) (none_at k) ∙ mul-zero (faults ^ suc k))
    where
      nothing : (k : ℕ) → 0 + k ≡ k
      nothing k = omega arith
  places_counted place (suc n) e =
      length-append (each_fault place 0 faults (ways last faults k place)) (each_place faults (ways last faults k) (place + 1) n)
      ∙ ap (λ j. j + length (each_place faults (ways last faults k) (place + 1) n))
      (length_faults place 0 faults (ways last faults k place) ∙ ap (λ j. faults * j) (one_place place n e))
      ∙ ap (λ j. faults * (faults ^ k * choose (n + k) k) + j) (places_counted (place + 1) n (after place n last e) ∙ ap (λ p. p * choose (n + k) (suc k)) (pow-suc faults k))
      ∙ summed (faults ^ k) (choose (n + k) k) (choose (n + k) (suc k))
      ∙ ap (λ p. p * (choose (n + k) k + choose (n + k) (suc k))) (sym (pow-suc faults k))
      ∙ ap (λ j. faults ^ suc k * choose j (suc k)) (sym (more n k))
    where
      after : (place n last : ℕ) → place + suc n ≡ last → place + 1 + n ≡ last
      after place n last e = omega (arith, e)

      more : (n k : ℕ) → suc n + k ≡ suc (n + k)
      more n k = omega arith

  -- where the first place is past the last, there is none
  pub all_counted : (first : ℕ) → length (each_place faults (ways last faults k) first (last - first)) ≡ faults ^ suc k * choose (last - first + suc k - 1) (suc k)
  all_counted first = by_order (last - first) refl
    where
      as_it_is : (n k : ℕ) → n + k ≡ n + suc k - 1
      as_it_is n k = omega arith

      by_order : (n : ℕ) → last - first ≡ n → length (each_place faults (ways last faults k) first n) ≡ faults ^ suc k * choose (n + suc k - 1) (suc k)
      by_order zero e =
          sym (ap (λ j. faults ^ suc k * choose j (suc k)) (nothing k) ∙ ap (λ n. faults ^ suc k * n) (none_at k) ∙ mul-zero (faults ^ suc k))
        where
          nothing : (k : ℕ) → 0 + suc k - 1 ≡ k
          nothing k = omega arith
      by_order (suc n) e =
          places_counted first (suc n) (there first last n e) ∙ ap (λ j. faults ^ suc k * choose j (suc k)) (as_it_is (suc n) k)
        where
          there : (first last n : ℕ) → last - first ≡ suc n → first + suc n ≡ last
          there first last n e = omega (arith, e)

pub counted : (last faults many first : ℕ) → length (ways last faults many first) ≡ faults ^ many * choose (last - first + many - 1) many
counted last faults zero first = sym (ap (λ n. n * 1) (pow-zero faults))
counted last faults (suc many) first = all_counted last faults many (counted last faults many) first

-- ---- one fault, and two

chosen_one : (n : ℕ) → choose n 1 ≡ n
chosen_one zero = refl
chosen_one (suc n) = ap (λ k. 1 + k) (chosen_one n) ∙ next n
  where
    next : (n : ℕ) → 1 + n ≡ suc n
    next n = omega arith

chosen_two : (n : ℕ) → 2 * choose (n + 1) 2 ≡ n * (n + 1)
chosen_two zero = refl
chosen_two (suc n) =
    ap (λ k. 2 * choose k 2) (next n) ∙ mul-add 2 (choose (n + 1) 1) (choose (n + 1) 2) ∙ ap (λ k. 2 * k + 2 * choose (n + 1) 2) (chosen_one (n + 1))
    ∙ ap (λ k. 2 * (n + 1) + k) (chosen_two n) ∙ sym (add-mul 2 n (n + 1)) ∙ mul_comm (2 + n) (n + 1) ∙ ap (λ k. k * (2 + n)) (one n) ∙ ap (λ k. suc n * k) (two n)
  where
    next : (n : ℕ) → suc n + 1 ≡ suc (n + 1)
    next n = omega arith

    one : (n : ℕ) → n + 1 ≡ suc n
    one n = omega arith

    two : (n : ℕ) → 2 + n ≡ suc n + 1
    two n = omega arith

pub with_one : (last faults : ℕ) → faults * last ≡ length (ways last faults 1 0)
with_one last faults =
    sym (counted last faults 1 0 ∙ ap (λ n. faults ^ 1 * choose n 1) (as_it_is last) ∙ ap (λ n. faults ^ 1 * n) (chosen_one last) ∙ ap (λ p. p * last) (to_one faults))
  where
    as_it_is : (last : ℕ) → last - 0 + 1 - 1 ≡ last
    as_it_is last = omega arith

    to_one : (faults : ℕ) → faults ^ 1 ≡ faults
    to_one faults = pow-suc faults 0 ∙ ap (λ p. p * faults) (pow-zero faults) ∙ one-mul faults

half_of : (n k : ℕ) → 2 * n ≡ k → k / 2 ≡ n
half_of n k e = omega (arith, e)

pub with_two : (last faults : ℕ) → faults * faults * (last * (last + 1) / 2) ≡ length (ways last faults 2 0)
with_two last faults =
    ap (λ n. faults * faults * n) (half_of (choose (last + 1) 2) (last * (last + 1)) (chosen_two last))
    ∙ sym (counted last faults 2 0 ∙ ap (λ n. faults ^ 2 * choose n 2) (as_it_is last) ∙ ap (λ p. p * choose (last + 1) 2) (to_two faults))
  where
    as_it_is : (last : ℕ) → last - 0 + 2 - 1 ≡ last + 1
    as_it_is last = omega arith

    to_two : (faults : ℕ) → faults ^ 2 ≡ faults * faults
    to_two faults = pow-suc faults 1 ∙ ap (λ p. p * faults) (pow-suc faults 0 ∙ ap (λ p. p * faults) (pow-zero faults) ∙ one-mul faults)

pub halves : (n : ℕ) → 2 * (n * (n + 1) / 2) ≡ n * (n + 1)
halves n = ap (λ k. 2 * k) (half_of (choose (n + 1) 2) (n * (n + 1)) (chosen_two n)) ∙ chosen_two n

pub with_pairs : (last faults pairs : ℕ) → 2 * pairs ≡ last * (last + 1) → faults * faults * pairs ≡ length (ways last faults 2 0)
with_pairs last faults pairs e = sym (ap (λ n. faults * faults * n) (half_of pairs (last * (last + 1)) e)) ∙ with_two last faults

pub up_to_one : (last faults : ℕ) → length (ways_up_to last faults 1) ≡ 1 + length (ways last faults 1 0)
up_to_one last faults = length-append (ways last faults 0 0) (ways last faults 1 0)

pub up_to_two : (last faults : ℕ) → length (ways_up_to last faults 2) ≡ 1 + length (ways last faults 1 0) + length (ways last faults 2 0)
up_to_two last faults = length-append (ways_up_to last faults 1) (ways last faults 2 0) ∙ ap (λ n. n + length (ways last faults 2 0)) (up_to_one last faults)

-- ---- stretches

pub stretched : (faults : ℕ) (others : ℕ → List (List Put)) (place some more : ℕ) → each_place faults others place (some + more)
    ≡ each_place faults others place some ++ each_place faults others (place + some) more
stretched faults others place zero more = ap (each_place faults others place) (none more) ∙ ap (λ p. each_place faults others p more) (sym (same place))
  where
    none : (n : ℕ) → 0 + n ≡ n
    none n = omega arith

    same : (n : ℕ) → n + 0 ≡ n
    same n = omega arith
stretched faults others place (suc some) more =
    ap (each_place faults others place) (next some more)
    ∙ ap (λ xs. each_fault place 0 faults (others place) ++ xs) (stretched faults others (place + 1) some more)
    ∙ sym (append_assoc (each_fault place 0 faults (others place)) (each_place faults others (place + 1) some) (each_place faults others (place + 1 + some) more))
    ∙ ap (λ p. each_fault place 0 faults (others place) ++ each_place faults others (place + 1) some ++ each_place faults others p more) (later place some)
  where
    next : (n m : ℕ) → suc n + m ≡ suc (n + m)
    next n m = omega arith

    later : (place n : ℕ) → place + 1 + n ≡ place + suc n
    later place n = omega arith
