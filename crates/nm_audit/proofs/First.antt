-- Going through lists.
use Rattle.std.proofs.Common.{◌≡◌, ◌<◌, ◌≤◌, inl, inr, ℕ, ◌+◌, List, length, get_or, slice_get, Option, Some, None, refl, sym, subst, ◌∙◌, arith}
use Rattle.std.proofs.lemmas.Bool.{cases_eq}
use Rattle.std.proofs.lemmas.Option.{same_Some, slice_get_read, slice_get_within}
use Rattle.nm_audit.specs.declared.mismatch.Mismatch.{Mismatch}
use Rattle.nm_audit.specs.First.{FitTo, IsFirst, Then}

module _ {T : Type 0} (Fits : ℕ → T → Type 0) where
  pub fit_none : (xs : List T) → FitTo Fits xs 0
  fit_none xs place it less at = absurd (omega (arith, less))

  pub fit_more : (xs : List T) (i : ℕ) (x : T) → FitTo Fits xs i → i < length xs → x ≡ get_or xs i x → Fits i x → FitTo Fits xs (i + 1)
  fit_more xs i x fits within is fit place it less at = elim (cases_eq place i) [
    | inl same ↦ (
        let there : Some x ≡ Some it = sym (slice_get_read xs (length xs) i x refl within is) ∙ subst (λ n. slice_get xs n ≡ Some it) same at in
        subst (λ n. Fits n it) (sym same) (subst (Fits i) (same_Some x it there) fit))
    | inr other ↦ fits place it (omega (arith, less, other)) at
  ]

  -- all of a list fit
  pub fit_all : (xs : List T) (i : ℕ) → FitTo Fits xs i → length xs ≤ i → FitTo Fits xs (length xs)
  fit_all xs i fits out place it less at = fits place it (omega (arith, less, out)) at

  pub each_fits : (xs : List T) → FitTo Fits xs (length xs) → (place : ℕ) (it : T) → slice_get xs place ≡ Some it → Fits place it
  each_fits xs fits place it at = fits place it (slice_get_within xs place it at) at

module _ {T : Type 0} (Fits : ℕ → T → Type 0) (Fails : ℕ → T → Mismatch → Type 0) where
  pub first_at : (xs : List T) (i : ℕ) (x : T) (mismatch : Mismatch) → FitTo Fits xs i → i < length xs → x ≡ get_or xs i x → Fails i x mismatch → IsFirst Fits Fails xs mismatch
  first_at xs i x mismatch fits within is fails = record { place = i; it = x; stands = slice_get_read xs (length xs) i x refl within is; before = fits; fails = fails }

pub then_second : (First Second : Option Mismatch → Type 0) (found : Option Mismatch) → First None → Second found → Then First Second found
then_second First Second None first second = (first, second)
then_second First Second (Some mismatch) first second = inr (first, second)
