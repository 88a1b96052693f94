-- Marks of the rows at which misfits are told.
use Rattle.std.proofs.Common.{◌≡◌, ◌≢◌, ◌∙◌, ◌⊎◌, inl, inr, ℕ, ◌+◌, ◌<◌, ◌≤◌, List, length, set, slice_index_or, slice_get, unwrap_or, Bool, true, false, ◌||◌, ◌&&◌, ◌==◌, Option, Some, refl, sym, ap, arith}
use Rattle.std.specs.List.{list_any, range_with_len}
use Rattle.std.proofs.lemmas.Bool.{cases_eq}
use Rattle.std.proofs.lemmas.Bool.Decides.{nat_tests}
use Rattle.std.proofs.lemmas.Grind.{common_steps}
use Rattle.std.proofs.lemmas.List.{get_or-set_same, get_or-set_other}
use Rattle.nm_schema_statements.specs.declared.row.Row.{Row}
use Rattle.nm_schema_statements.specs.declared.word.Word.TheVariants as word
use Rattle.nm_schema_statements.specs.Rows.{first_below}
use Rattle.nm_schema_nodes.specs.declared.instance.Instance.{Instance}
use Rattle.nm_schema_faults.specs.Facts.{Facts}
use Rattle.nm_schema_faults.specs.Misfit.{is_misfit, is_misfit_told, has_misfit, told_in, AreMisfits}
use Rattle.nm_schema_faults.proofs.Ranges.{any_more}

or_false : (b : Bool) → b ≡ (b || false)
or_false true = refl
or_false false = refl

or_true : (b : Bool) → true ≡ (b || true)
or_true true = refl
or_true false = refl

same_is : (n at : ℕ) → at ≡ n → (n == at) ≡ true
same_is n at e = grind (arith, nat_tests)

other_is : (n at : ℕ) → at ≢ n → (n == at) ≡ false
other_is n at ne = grind (arith, common_steps)

-- what isn't a misfit is told nowhere
pub unmarked : (rows : List Row) (facts : Facts) (b : Bool) (at x : ℕ) → is_misfit rows facts x ≡ false → b ≡ (b || is_misfit_told rows facts at x)
unfolding is_misfit_told
unmarked rows facts b at x fits = or_false b ∙ ap (λ (c : Bool). b || (c && told_in rows (slice_get facts.nodes x) at)) (sym fits)

module _ (rows : List Row) (facts : Facts) (x : ℕ) (node : Instance) (is : is_misfit rows facts x ≡ true) (there : slice_get facts.nodes x ≡ Some node) where
  abbrev pub told_at : ℕ
  told_at = unwrap_or (first_below rows node.row word.Default) node.row

  told-same : (at : ℕ) → is_misfit_told rows facts at x ≡ (told_at == at)
  unfolding is_misfit_told
  told-same at = ap (λ (c : Bool). c && told_in rows (slice_get facts.nodes x) at) is ∙ ap (λ (o : Option Instance). told_in rows o at) there

  set_at : (marks : List Bool) (k at : ℕ) → k < length marks → (at ≡ k) ⊎ (at ≢ k) → slice_index_or (set marks k true) at false ≡ (slice_index_or marks at false || (k == at))
  set_at marks k at lt (inl same) =
      ap (λ n. slice_index_or (set marks k true) n false) same ∙ get_or-set_same marks k true false lt
      ∙ or_true (slice_index_or marks at false) ∙ ap (λ b. slice_index_or marks at false || b) (sym (same_is k at same))
  set_at marks k at lt (inr other) =
      get_or-set_other marks k at true false other
      ∙ or_false (slice_index_or marks at false) ∙ ap (λ b. slice_index_or marks at false || b) (sym (other_is k at other))

  -- a misfit is marked where it is told
  pub marked : (marks : List Bool) (k at : ℕ) → k ≡ told_at → k < length marks → slice_index_or (set marks k true) at false ≡ (slice_index_or marks at false || is_misfit_told rows facts at x)
  marked marks k at e lt = set_at marks k at lt (cases_eq at k) ∙ ap (λ b. slice_index_or marks at false || b) (ap (λ n. n == at) e ∙ sym (told-same at))

  -- what is told past the marks isn't marked
  pub past : (marks : List Bool) (k at : ℕ) → k ≡ told_at → length marks ≤ k → at < length marks → slice_index_or marks at false ≡ (slice_index_or marks at false || is_misfit_told rows facts at x)
  past marks k at e le lt =
      let other : at ≢ k = λ same. absurd (omega (arith, same)) in
      or_false (slice_index_or marks at false) ∙ ap (λ b. slice_index_or marks at false || b) (sym (other_is k at other) ∙ (ap (λ n. n == at) e ∙ sym (told-same at)))

-- ---- the marks of the first nodes

-- the marks tell of the nodes below n
pub record AreMarked (rows : List Row) (facts : Facts) (n : ℕ) (marks : List Bool) : Type 0 where
  pub size : length marks ≡ length rows
  pub each : (at : ℕ) → at < length rows → slice_index_or marks at false ≡ list_any (is_misfit_told rows facts at) (range_with_len 0 n)

pub marked_more : (rows : List Row) (facts : Facts) (n : ℕ) (old new : List Bool) → AreMarked rows facts n old → length new ≡ length old
    → ((at : ℕ) → at < length old → slice_index_or new at false ≡ (slice_index_or old at false || is_misfit_told rows facts at n)) → AreMarked rows facts (n + 1) new
marked_more rows facts n old new are size put = record {
  size = size ∙ are.size;
  each = λ at lt. let within : at < length old = omega (arith, are.size, lt) in
      put at within ∙ ap (λ b. b || is_misfit_told rows facts at n) (are.each at lt) ∙ sym (any_more (is_misfit_told rows facts at) n);
}

-- all nodes are marked
pub marked_all : (rows : List Row) (facts : Facts) (nodes : List Instance) (n : ℕ) (marks : List Bool) → n ≡ length nodes → nodes ≡ facts.nodes → AreMarked rows facts n marks → AreMisfits rows facts marks
unfolding has_misfit
marked_all rows facts nodes n marks all same are = record {
  size = are.size;
  each = λ at lt. are.each at lt ∙ ap (λ k. list_any (is_misfit_told rows facts at) (range_with_len 0 k)) (all ∙ ap (λ (l : List Instance). length l) same);
}
