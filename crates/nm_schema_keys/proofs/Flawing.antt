-- Marks of the `unique` statements that have a flaw.
use Rattle.std.proofs.Common.{◌≡◌, ◌∙◌, ◌⊎◌, inl, inr, ℕ, ◌+◌, ◌<◌, ◌≤◌, List, [], ◌∷◌, ◌++◌, length, get_or, slice_get, slice_index_or, Bool, false, Option, None, is_some, sym, ap, subst, arith, length-append}
use Rattle.std.proofs.Math.ListN.{get_or-append}
use Rattle.std.proofs.Math.Seq.{get_or-append_seam}
use Rattle.std.proofs.lemmas.Bool.{cases_lt}
use Rattle.std.proofs.lemmas.List.{get_or_past}
use Rattle.std.proofs.lemmas.Option.{slice_get_past}
use Rattle.nm_schema_statements.specs.declared.word.Word.TheVariants as word
use Rattle.nm_schema_statements.specs.declared.row.Row.{Row}
use Rattle.nm_schema_keys.specs.ConfigUse.{ConfigUse}
use Rattle.nm_schema_keys.specs.Said.{said_in, said_at}
use Rattle.nm_schema_keys.specs.Uniques.{said_unique_flaw, unique_flaw}

-- the marks of the numbers before n
pub record AreMarked (mark : ℕ → Bool) (n : ℕ) (marks : List Bool) : Type 0 where
  pub size : length marks ≡ n
  pub each : (i : ℕ) → i < n → slice_index_or marks i false ≡ mark i

pub marked_none : (mark : ℕ → Bool) (marks : List Bool) → marks ≡ [] → AreMarked mark 0 marks
marked_none mark marks e = record {
  size = ap (λ (l : List Bool). length l) e;
  each = λ i lt. absurd (omega (arith, lt));
}

marked_at : (mark : ℕ → Bool) (n i : ℕ) (marks : List Bool) (next : Bool) → AreMarked mark n marks → next ≡ mark n → i < n + 1 → (i < n) ⊎ (n ≤ i) → slice_index_or (marks ++ next ∷ []) i false ≡ mark i
marked_at mark n i marks next are is lt (inl below) =
    let within : i < length marks = omega (arith, are.size) in
    get_or-append marks (next ∷ []) false i within ∙ are.each i below
marked_at mark n i marks next are is lt (inr above) =
    let here : i ≡ length marks = omega (arith, are.size) in
    let same : n ≡ i = omega (arith, lt, above) in
    ap (λ k. get_or (marks ++ next ∷ []) k false) here ∙ get_or-append_seam marks next [] false ∙ is ∙ ap mark same

-- a mark more
pub marked_more : (mark : ℕ → Bool) (n : ℕ) (marks after : List Bool) (next : Bool) → AreMarked mark n marks → next ≡ mark n → after ≡ marks ++ next ∷ [] → AreMarked mark (n + 1) after
marked_more mark n marks after next are is pushed = subst (λ l. AreMarked mark (n + 1) l) (sym pushed) (record {
  size = length-append marks (next ∷ []) ∙ ap (λ k. k + 1) are.size;
  each = λ i lt. marked_at mark n i marks next are is lt (cases_lt i n);
})

-- what is past the last row has no flaw
flaw_past : (rows : List Row) (groupings : List (Option ℕ)) (standing : ConfigUse) (i : ℕ) → length rows ≤ i → unique_flaw rows groupings standing i ≡ None
unfolding unique_flaw said_at
flaw_past rows groupings standing i le =
    let past : slice_get rows i ≡ None = slice_get_past rows i le in
    ap (λ (o : Option Row). said_unique_flaw rows groupings standing (said_in rows word.Unique o)) past

-- all rows are marked
pub marked_all : (rows : List Row) (groupings : List (Option ℕ)) (standing : ConfigUse) (n i : ℕ) (marks : List Bool) → AreMarked (λ k. is_some (unique_flaw rows groupings standing k)) n marks → length rows ≤ n
    → (i < n) ⊎ (n ≤ i) → slice_index_or marks i false ≡ is_some (unique_flaw rows groupings standing i)
marked_all rows groupings standing n i marks are all (inl lt) = are.each i lt
marked_all rows groupings standing n i marks are all (inr le) =
    let past : length marks ≤ i = omega (arith, are.size) in
    get_or_past marks i false past ∙ sym (ap (λ f. is_some f) (flaw_past rows groupings standing i (omega (arith, all, le))))
