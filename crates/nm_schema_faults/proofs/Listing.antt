-- The keys of all lists.
use Rattle.std.proofs.Common.{◌≡◌, ◌∙◌, ◌⊎◌, inl, inr, ℕ, ◌+◌, ◌<◌, ◌≤◌, List, [], ◌∷◌, ◌++◌, length, get_or, slice_index_or, Option, None, refl, sym, ap, subst, arith, length-append}
use Rattle.std.proofs.Math.ListN.{get_or-append}
use Rattle.std.proofs.Math.Seq.{get_or-append_seam}
use Rattle.std.proofs.lemmas.Bool.{cases_lt}
use Rattle.std.proofs.lemmas.List.{get_or_past}
use Rattle.nm_schema_statements.specs.declared.row.Row.{Row}
use Rattle.nm_schema_statements.specs.declared.word.Word.TheVariants as word
use Rattle.nm_schema_statements.specs.Rows.{AreRows, children, first_with}
use Rattle.nm_schema_keys.specs.ConfigUse.{ConfigUse}
use Rattle.nm_schema_keys.specs.Keys.{keys_at, keys_of}

-- the values of the numbers before n
pub record AreListed {X : Type 0} (value : ℕ → Option X) (n : ℕ) (values : List (Option X)) : Type 0 where
  pub size : length values ≡ n
  pub each : (i : ℕ) → i < n → slice_index_or values i None ≡ value i

listed_at : {X : Type 0} (value : ℕ → Option X) (n i : ℕ) (values : List (Option X)) (next : Option X) → AreListed value n values → next ≡ value n → i < n + 1 → (i < n) ⊎ (n ≤ i)
    → slice_index_or (values ++ next ∷ []) i None ≡ value i
listed_at value n i values next are is lt (inl below) =
    let within : i < length values = omega (arith, are.size) in
    get_or-append values (next ∷ []) None i within ∙ are.each i below
listed_at value n i values next are is lt (inr above) =
    let here : i ≡ length values = omega (arith, are.size) in
    let same : n ≡ i = omega (arith, lt, above) in
    ap (λ k. get_or (values ++ next ∷ []) k None) here ∙ get_or-append_seam values next [] None ∙ is ∙ ap value same

pub listed_more : {X : Type 0} (value : ℕ → Option X) (n : ℕ) (values after : List (Option X)) (next : Option X) → AreListed value n values → next ≡ value n → after ≡ values ++ next ∷ [] → AreListed value (n + 1) after
listed_more value n values after next are is pushed = subst (λ l. AreListed value (n + 1) l) (sym pushed) (record {
  size = length-append values (next ∷ []) ∙ ap (λ k. k + 1) are.size;
  each = λ i lt. listed_at value n i values next are is lt (cases_lt i n);
})

pub listed_all : {X : Type 0} (value : ℕ → Option X) (n i : ℕ) (values : List (Option X)) → AreListed value n values → (n ≤ i → value i ≡ None) → (i < n) ⊎ (n ≤ i) → slice_index_or values i None ≡ value i
listed_all value n i values are none (inl lt) = are.each i lt
listed_all value n i values are none (inr le) =
    let past : length values ≤ i = omega (arith, are.size) in
    get_or_past values i None past ∙ sym (none le)

-- nothing stands in what is past the last row
none_within : (rows : List Row) (i : ℕ) (is : List ℕ) → AreRows rows → children rows i ≡ is → length rows ≤ i → first_with rows word.Key is ≡ None
none_within rows i [] are e le = refl
none_within rows i (k ∷ ks) are e le =
    let some : 0 < length (children rows i) = rw e (omega arith) in
    let both = are.within i 0 some in
    absurd (omega (arith, both.0, both.1, le))

pub keys_past : (rows : List Row) (groupings : List (Option ℕ)) (standing : ConfigUse) (i : ℕ) → AreRows rows → length rows ≤ i → keys_of rows groupings standing i ≡ None
unfolding keys_of
keys_past rows groupings standing i are le = ap (λ (o : Option ℕ). keys_at rows groupings standing o) (none_within rows i (children rows i) are refl le)
