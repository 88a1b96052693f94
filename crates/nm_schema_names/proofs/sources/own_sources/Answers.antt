use Rattle.std.proofs.Common.{◌≡◌, ◌∙◌, ◌<◌, ◌≤◌, ◌+◌, ◌⊎◌, inl, inr, ℕ, List, [], ◌∷◌, ◌++◌, length, get_or, ap, arith}
use Rattle.std.proofs.Math.Seq.{get_or-append_seam}
use Rattle.std.proofs.lemmas.Bool.{cases_lt}
use Rattle.std.proofs.lemmas.List.{get_or_append_left, get_or_past, length_push}
use Rattle.nm_schema_names.specs.Sharing.{source_at}
use Rattle.nm_schema_names.proofs.sources.own_sources.Goals as goal

own_last : (xs : List ℕ) (n i : ℕ) → length xs ≡ n → n ≤ i → (i < n + 1) ⊎ (n + 1 ≤ i) → source_at (xs ++ n ∷ []) i ≡ i
own_last xs n i size le (inl lt) =
    let at : i ≡ length xs = omega (arith, size, le, lt) in
    let same : n ≡ i = omega (arith, le, lt) in
    ap (λ k. get_or (xs ++ n ∷ []) k i) at ∙ get_or-append_seam xs n [] i ∙ same
own_last xs n i size le (inr past) = get_or_past (xs ++ n ∷ []) i i (omega (arith, size, past, length_push xs n))

own_each : (xs : List ℕ) (n i : ℕ) → length xs ≡ n → ((j : ℕ) → source_at xs j ≡ j) → (i < n) ⊎ (n ≤ i) → source_at (xs ++ n ∷ []) i ≡ i
own_each xs n i size each (inl lt) = get_or_append_left xs (n ∷ []) i i (omega (arith, size, lt)) ∙ each i
own_each xs n i size each (inr le) = own_last xs n i size le (cases_lt i (n + 1))

pub loop-at-preserved : goal.loop-at-preserved
loop-at-preserved c = record {
  size = ap (λ (l : List ℕ). length l) c.in_ok-push.ensures.items ∙ length_push c.loop-at.sources.items c.loop-at.at ∙ ap (λ k. k + 1) c.loop-at.invariant.size;
  each = λ i. ap (λ (l : List ℕ). source_at l i) c.in_ok-push.ensures.items ∙ own_each c.loop-at.sources.items c.loop-at.at i c.loop-at.invariant.size c.loop-at.invariant.each (cases_lt i c.loop-at.at);
}
