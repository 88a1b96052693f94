-- What follows where each row stands in an earlier one.
use Rattle.std.proofs.Common.{◌≡◌, ℕ, zero, suc, ◌+◌, ◌<◌, ◌≤◌, List, [], ◌∷◌, length, get_or, slice_get, true, false, Option, Some, None, if◌then◌else◌, refl, sym, ap, ◌∙◌, subst, arith}
use Rattle.std.proofs.lemmas.Grind.{common_steps}
use Rattle.std.proofs.lemmas.Option.{slice_get_within}
use Rattle.nm_schema_statements.specs.declared.row.Row.{Row}
use Rattle.nm_schema_statements.specs.Rows.{same_parent, those_in, children, stands_before, ParentsBefore, AreRows, FromModules, module_at, rows_of, roots}
use Rattle.nm_schema_statements.proofs.Modules.{words_of_rows, modules_of_rows, modules_of_tops}

parents : (n : ℕ) (rows : List Row) (i p : ℕ) (r : Row) → ParentsBefore n rows → slice_get rows i ≡ Some r → r.parent ≡ Some p → p < n + i
parents n [] i p r b at is = cc
parents n (s ∷ rows) zero p r b at is =
    let e : s ≡ r = cc in
    let f : s.parent ≡ Some p = ap (λ (x : Row). x.parent) e ∙ is in
    let h : p < n = subst (λ x. stands_before n x) f b.0 in
    omega arith
parents n (s ∷ rows) (suc i) p r b at is = let h = parents (suc n) rows i p r b.1 at is in omega arith

-- the places of a list of those that stand in `parent`
record AreIn (n : ℕ) (parent : Option ℕ) (rows : List Row) (numbers : List ℕ) : Type 0 where
  low : (k : ℕ) → k < length numbers → n ≤ get_or numbers k 0
  high : (k : ℕ) → k < length numbers → get_or numbers k 0 < n + length rows
  stand : (k m : ℕ) (r : Row) → k < length numbers → n + m ≡ get_or numbers k 0 → slice_get rows m ≡ Some r → same_parent r.parent parent ≡ true
  listed : (m : ℕ) (r : Row) → slice_get rows m ≡ Some r → same_parent r.parent parent ≡ true → (k : ℕ) × (k < length numbers) × (get_or numbers k 0 ≡ n + m)
  ascending : (k l : ℕ) → k < l → l < length numbers → get_or numbers k 0 < get_or numbers l 0

none_in : (n : ℕ) (parent : Option ℕ) → AreIn n parent [] []
none_in n parent = record {
  low = λ k lt. absurd (omega arith);
  high = λ k lt. absurd (omega arith);
  stand = λ k m r lt e at. absurd (omega arith);
  listed = λ m r at same. let lt = slice_get_within [] m r at in absurd (omega arith);
  ascending = λ k l lt below. absurd (omega arith);
}

low_first : (n : ℕ) (numbers : List ℕ) → ((k : ℕ) → k < length numbers → suc n ≤ get_or numbers k 0) → (k : ℕ) → k < length (n ∷ numbers) → n ≤ get_or (n ∷ numbers) k 0
low_first n numbers low zero lt = omega arith
low_first n numbers low (suc k) lt = let l = low k (omega arith) in omega arith

high_first : (n : ℕ) (rows : List Row) (numbers : List ℕ) → ((k : ℕ) → k < length numbers → get_or numbers k 0 < suc n + length rows) → (k : ℕ) → k < length (n ∷ numbers) → get_or (n ∷ numbers) k 0 < n + suc (length rows)
high_first n rows numbers high zero lt = omega arith
high_first n rows numbers high (suc k) lt = let l = high k (omega arith) in omega arith

stand_first : (n : ℕ) (parent : Option ℕ) (s : Row) (rows : List Row) (numbers : List ℕ) → same_parent s.parent parent ≡ true → ((k : ℕ) → k < length numbers → suc n ≤ get_or numbers k 0)
    → ((k m : ℕ) (r : Row) → k < length numbers → suc n + m ≡ get_or numbers k 0 → slice_get rows m ≡ Some r → same_parent r.parent parent ≡ true)
    → (k m : ℕ) (r : Row) → k < length (n ∷ numbers) → n + m ≡ get_or (n ∷ numbers) k 0 → slice_get (s ∷ rows) m ≡ Some r → same_parent r.parent parent ≡ true
stand_first n parent s rows numbers same low stand zero zero r lt e at = let f : s ≡ r = cc in ap (λ (x : Row). same_parent x.parent parent) (sym f) ∙ same
stand_first n parent s rows numbers same low stand zero (suc m) r lt e at = absurd (omega arith)
stand_first n parent s rows numbers same low stand (suc k) zero r lt e at = let l = low k (omega arith) in absurd (omega arith)
stand_first n parent s rows numbers same low stand (suc k) (suc m) r lt e at = stand k m r (omega arith) (omega arith) at

stand_other : (n : ℕ) (parent : Option ℕ) (s : Row) (rows : List Row) (numbers : List ℕ) → ((k : ℕ) → k < length numbers → suc n ≤ get_or numbers k 0)
    → ((k m : ℕ) (r : Row) → k < length numbers → suc n + m ≡ get_or numbers k 0 → slice_get rows m ≡ Some r → same_parent r.parent parent ≡ true)
    → (k m : ℕ) (r : Row) → k < length numbers → n + m ≡ get_or numbers k 0 → slice_get (s ∷ rows) m ≡ Some r → same_parent r.parent parent ≡ true
stand_other n parent s rows numbers low stand k zero r lt e at = let l = low k lt in absurd (omega arith)
stand_other n parent s rows numbers low stand k (suc m) r lt e at = stand k m r lt (omega arith) at

listed_first : (n : ℕ) (parent : Option ℕ) (s : Row) (rows : List Row) (numbers : List ℕ)
    → ((m : ℕ) (r : Row) → slice_get rows m ≡ Some r → same_parent r.parent parent ≡ true → (k : ℕ) × (k < length numbers) × (get_or numbers k 0 ≡ suc n + m))
    → (m : ℕ) (r : Row) → slice_get (s ∷ rows) m ≡ Some r → same_parent r.parent parent ≡ true → (k : ℕ) × (k < length (n ∷ numbers)) × (get_or (n ∷ numbers) k 0 ≡ n + m)
listed_first n parent s rows numbers listed zero r at same = (0, omega arith, omega arith)
listed_first n parent s rows numbers listed (suc m) r at same = let h = listed m r at same in (suc h.0, omega (arith, h.1), omega (arith, h.2))

listed_other : (n : ℕ) (parent : Option ℕ) (s : Row) (rows : List Row) (numbers : List ℕ) → same_parent s.parent parent ≡ false
    → ((m : ℕ) (r : Row) → slice_get rows m ≡ Some r → same_parent r.parent parent ≡ true → (k : ℕ) × (k < length numbers) × (get_or numbers k 0 ≡ suc n + m))
    → (m : ℕ) (r : Row) → slice_get (s ∷ rows) m ≡ Some r → same_parent r.parent parent ≡ true → (k : ℕ) × (k < length numbers) × (get_or numbers k 0 ≡ n + m)
listed_other n parent s rows numbers other listed zero r at same =
    let f : s ≡ r = cc in
    let g : same_parent s.parent parent ≡ true = ap (λ (x : Row). same_parent x.parent parent) f ∙ same in
    let no : true ≡ false = sym g ∙ other in
    cc
listed_other n parent s rows numbers other listed (suc m) r at same = let h = listed m r at same in (h.0, h.1, omega (arith, h.2))

ascending_first : (n : ℕ) (numbers : List ℕ) → ((k : ℕ) → k < length numbers → suc n ≤ get_or numbers k 0) → ((k l : ℕ) → k < l → l < length numbers → get_or numbers k 0 < get_or numbers l 0)
    → (k l : ℕ) → k < l → l < length (n ∷ numbers) → get_or (n ∷ numbers) k 0 < get_or (n ∷ numbers) l 0
ascending_first n numbers low ascending k zero lt below = absurd (omega arith)
ascending_first n numbers low ascending zero (suc l) lt below = let h = low l (omega arith) in omega arith
ascending_first n numbers low ascending (suc k) (suc l) lt below = ascending k l (omega arith) (omega arith)

first_in : (n : ℕ) (parent : Option ℕ) (s : Row) (rows : List Row) (numbers : List ℕ) → same_parent s.parent parent ≡ true → AreIn (suc n) parent rows numbers → AreIn n parent (s ∷ rows) (n ∷ numbers)
first_in n parent s rows numbers same h = record {
  low = low_first n numbers h.low;
  high = high_first n rows numbers h.high;
  stand = stand_first n parent s rows numbers same h.low h.stand;
  listed = listed_first n parent s rows numbers h.listed;
  ascending = ascending_first n numbers h.low h.ascending;
}

not_in : (n : ℕ) (parent : Option ℕ) (s : Row) (rows : List Row) (numbers : List ℕ) → same_parent s.parent parent ≡ false → AreIn (suc n) parent rows numbers → AreIn n parent (s ∷ rows) numbers
not_in n parent s rows numbers other h = record {
  low = λ k lt. let l = h.low k lt in omega arith;
  high = λ k lt. let l = h.high k lt in omega arith;
  stand = stand_other n parent s rows numbers h.low h.stand;
  listed = listed_other n parent s rows numbers other h.listed;
  ascending = h.ascending;
}

are_in : (n : ℕ) (parent : Option ℕ) (rows : List Row) → AreIn n parent rows (those_in n parent rows)
unfolding those_in
are_in n parent [] = none_in n parent
are_in n parent (s ∷ rows) =
    let h = are_in (suc n) parent rows in
    (elim (same_parent s.parent parent) as (λ b. same_parent s.parent parent ≡ b → AreIn n parent (s ∷ rows) (if b then n ∷ those_in (suc n) parent rows else those_in (suc n) parent rows)) [
      | true ↦ λ e. first_in n parent s rows (those_in (suc n) parent rows) e h
      | false ↦ λ e. not_in n parent s rows (those_in (suc n) parent rows) e h
    ]) refl

parent_is : (p : Option ℕ) (i : ℕ) → same_parent p (Some i) ≡ true → p ≡ Some i
parent_is None i e = cc
parent_is (Some j) i e = let h : j ≡ i = grind (arith, common_steps) in ap (λ k. Some k) h

same_is : (p : Option ℕ) (i : ℕ) → p ≡ Some i → same_parent p (Some i) ≡ true
same_is None i e = cc
same_is (Some j) i e = let h : j ≡ i = cc in grind (arith, common_steps)

there : (rows : List Row) (j : ℕ) → j < length rows → (r : Row) × (slice_get rows j ≡ Some r)
there [] j lt = absurd (omega arith)
there (s ∷ rows) zero lt = (s, refl)
there (s ∷ rows) (suc j) lt = there rows j (omega arith)

pub are_rows : (rows : List Row) → ParentsBefore 0 rows → FromModules rows → AreRows rows
are_rows rows b from = record {
  parents = λ i p r at is. let h = parents 0 rows i p r b at is in omega arith;
  within = λ i k lt.
      let h = are_in 0 (Some i) rows in
      let high = h.high k lt in
      let r = there rows (get_or (children rows i) k 0) (omega arith) in
      let is = parent_is r.0.parent i (h.stand k (get_or (children rows i) k 0) r.0 lt (omega arith) r.1) in
      let low = parents 0 rows (get_or (children rows i) k 0) i r.0 b r.1 is in
      (omega arith, omega arith);
  stand = λ i k r lt at.
      let h = are_in 0 (Some i) rows in
      parent_is r.parent i (h.stand k (get_or (children rows i) k 0) r lt (omega arith) at);
  listed = λ i j r at is.
      let h = are_in 0 (Some i) rows in
      let k = h.listed j r at (same_is r.parent i is) in
      (k.0, k.1, omega (arith, k.2));
  ascending = λ i. let h = are_in 0 (Some i) rows in h.ascending;
  tops = λ k lt. let h = are_in 0 None rows in let high = h.high k lt in omega arith;
  words = λ i r at. words_of_rows from.0 i r (ap (λ (l : List Row). slice_get l i) (sym from.1) ∙ at);
  modules = λ i p r at is.
      ap (λ (l : List Row). module_at l p) from.1 ∙ modules_of_rows from.0 i p r (ap (λ (l : List Row). slice_get l i) (sym from.1) ∙ at) is;
  tops_are = λ k lt.
      let e = from.1 in
      let count : length (roots rows) ≡ length (roots (rows_of from.0)) = ap (λ (l : List Row). length (roots l)) e in
      ap (λ (l : List Row). module_at l (get_or (roots l) k 0)) e ∙ modules_of_tops from.0 k (omega arith);
}
