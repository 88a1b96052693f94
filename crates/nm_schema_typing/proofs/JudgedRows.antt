-- Judgements of all rows.
use Rattle.std.proofs.Common.{◌≡◌, refl, arith, sym, ◌∙◌, ℕ, ◌<◌, ◌≤◌, List, length, Option, inl, inr, slice_index_or}
use Rattle.std.proofs.lemmas.Bool.{cases_lt}
use Rattle.nm_schema_statements.specs.declared.row.Row.{Row}
use Rattle.nm_schema_typing.specs.declared.listing.Judgement.{Judgement}
use Rattle.nm_schema_typing.specs.Flaws.{base_above}
use Rattle.nm_schema_typing.specs.Listing.{judgement_at, judged_at, all_fine, AreJudgements}
use Rattle.nm_schema_typing.proofs.Valuing.{past_rows, past_list}

-- nothing is wrong past the last row
judgement_past : (rows : List Row) (typedefs : List (Option ℕ)) (i : ℕ) → length rows ≤ i → judgement_at rows typedefs i ≡ all_fine
unfolding judgement_at judged_at base_above
judgement_past rows typedefs i h = rw (past_rows rows i h) refl

pub judgements_are : (rows : List Row) (typedefs : List (Option ℕ)) (all : List Judgement) (n : ℕ) → length rows ≤ n → length all ≡ n → ((i : ℕ) → i < n → slice_index_or all i all_fine ≡ judgement_at rows typedefs i) → AreJudgements rows typedefs all
judgements_are rows typedefs all n most size h = λ i. elim (cases_lt i n) [ inl lt ↦ h i lt | inr le ↦ past_list all i all_fine (omega (arith, size, le)) ∙ sym (judgement_past rows typedefs i (omega (arith, most, le))) ]
