-- Values of the first rows, one after another.
use Rattle.std.proofs.Common.{◌≡◌, ◌∙◌, ◌<◌, ◌≤◌, ◌+◌, ◌⊎◌, inl, inr, ℕ, List, [], ◌∷◌, ◌++◌, length, Option, None, slice_index_or, get_or, refl, sym, ap, arith}
use Rattle.std.proofs.lemmas.Bool.{cases_lt}
use Rattle.std.proofs.lemmas.List.{length-append, get_or_append_left, get_or_default}
use Rattle.std.proofs.Math.Seq.{get_or-append_seam}
use Rattle.nm_schema_uses.specs.Worth.{AreWorth}

module _ {Y : Type 0} (value : ℕ → Option Y) where
  pub filled_none : AreWorth value 0 []
  filled_none = record { size = refl; each = λ i lt. absurd (omega arith) }

  filled_each : (n : ℕ) (values : List (Option Y)) (v : Option Y) → AreWorth value n values → v ≡ value n → (i : ℕ) → i < n + 1 → (i < n) ⊎ (n ≤ i) → slice_index_or (values ++ v ∷ []) i None ≡ value i
  filled_each n values v h is i lt (inl under) = let size = h.size in get_or_append_left values (v ∷ []) None i (omega arith) ∙ h.each i under
  filled_each n values v h is i lt (inr past) =
      let size = h.size in
      let same : i ≡ length values = omega arith in
      let last : i ≡ n = omega arith in
      rw same (get_or-append_seam values v [] None) ∙ is ∙ ap value (sym last)

  pub filled_more : (n : ℕ) (values : List (Option Y)) (v : Option Y) → AreWorth value n values → v ≡ value n → AreWorth value (n + 1) (values ++ v ∷ [])
  filled_more n values v h is = record { size = length-append values (v ∷ []) ∙ ap (λ k. k + 1) h.size; each = λ i lt. filled_each n values v h is i lt (cases_lt i n) }

  pub filled_all : (n count : ℕ) (values : List (Option Y)) → AreWorth value n values → n ≡ count → AreWorth value count values
  filled_all n count values h all = record { size = h.size ∙ all; each = λ i lt. h.each i (omega arith) }

  pub filled_read : (count i : ℕ) (values : List (Option Y)) (v : Option Y) → AreWorth value count values → i < count → v ≡ get_or values i v → v ≡ value i
  filled_read count i values v h lt at = let size = h.size in at ∙ get_or_default values i v None (omega arith) ∙ h.each i lt
