-- Where the group of an end is found, it is that which one more run joins.
use Rattle.std.proofs.Common.{◌≡◌, ◌<◌, ℕ, zero, suc, ◌+◌, List, [], ◌∷◌, ◌++◌, length, get_or, set, Bool, true, false, Some, None, refl, sym, ap, ◌∙◌, arith, inl, inr, ltb}
use Rattle.std.specs.List.{position, position_or_len}
use Rattle.std.proofs.lemmas.Bool.{cases_Bool}
use Rattle.std.proofs.lemmas.List.Quantifiers.{position-Some}
use Rattle.std.proofs.lemmas.List.Sums.{fails_before_first}
use Rattle.nm_explore_ways.specs.declared.put.Put.{Put}
use Rattle.nm_explore_groups.specs.declared.group.Group.{Group}
use Rattle.nm_explore_groups.specs.Groups.{added, is_of, one_more, one_run, with_one}
use Rattle.nm_explore_groups.proofs.Merged.{added_by}

module _ {End : Type 0} where
  -- one more run at a place is a write there
  pub written : (place : ℕ) (gs : List (Group End)) (d : Group End) → place < length gs
      → set gs place (with_one (get_or gs place d)) ≡ one_more place gs
  written place [] d lt = refl
  written zero (g ∷ gs) d lt = refl
  written (suc place) (g ∷ gs) d lt = ap (λ rest. g ∷ rest) (written place gs d (omega (arith, lt)))

module _ {End : Type 0} (alike : End → End → Bool) (end : End) (way : List Put) where
  joins : (place : ℕ) (gs : List (Group End)) → place < length gs → is_of alike end (get_or gs place (one_run end way)) ≡ true
      → ((k : ℕ) → k < place → is_of alike end (get_or gs k (one_run end way)) ≡ false) → one_more place gs ≡ added alike gs (one_run end way)
  joins place [] lt here before = absurd (omega (arith, lt))
  joins zero (g ∷ gs) lt here before = sym (added_by alike true g (one_run end way) gs here)
  joins (suc place) (g ∷ gs) lt here before =
      ap (λ rest. g ∷ rest) (joins place gs (omega (arith, lt)) here (λ k below. before (suc k) (omega (arith, below))))
      ∙ sym (added_by alike false g (one_run end way) gs (before 0 (omega arith)))

  last : (gs : List (Group End)) → ((k : ℕ) → k < length gs → is_of alike end (get_or gs k (one_run end way)) ≡ false)
      → gs ++ one_run end way ∷ [] ≡ added alike gs (one_run end way)
  last [] none = refl
  last (g ∷ gs) none =
      ap (λ rest. g ∷ rest) (last gs (λ k below. none (suc k) (omega (arith, below)))) ∙ sym (added_by alike false g (one_run end way) gs (none 0 (omega arith)))

  -- it joins the group that was found
  pub joins_found : (place : ℕ) (gs : List (Group End)) → position (is_of alike end) gs ≡ Some place → one_more place gs ≡ added alike gs (one_run end way)
  joins_found place gs found =
      let at = position-Some (is_of alike end) gs place (one_run end way) found in
      joins place gs at.0 at.1 at.2

  -- it comes last where none was
  pub comes_last : (gs : List (Group End)) → position (is_of alike end) gs ≡ None → gs ++ one_run end way ∷ [] ≡ added alike gs (one_run end way)
  comes_last gs none =
      let p = is_of alike end in
      elim (cases_Bool (ltb (position_or_len p gs) (length gs))) [
        | inl y ↦ absurd (let e = rw y at none in cc)
        | inr n ↦ last gs (λ k below. fails_before_first p gs k (one_run end way) (grind (arith, n, below)))
      ]
