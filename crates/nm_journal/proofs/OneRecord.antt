-- One record of a journal's bytes.
use Rattle.std.proofs.Common.{◌≡◌, ◌⊎◌, inl, inr, ℕ, suc, ◌*◌, true, false, Option, Some, None, Ok, Err, List, [], ◌∷◌, ◌++◌, length, drop, refl}
use Rattle.std.proofs.lemmas.Bool.{cases_Bool}
use Rattle.nm_proto.specs.declared.journal.Entry.{Entry}
use Rattle.nm_journal.specs.Entries.{entries_from, ends_here, next_entry}

-- the list ends here, or the record here is damaged, or it has the next entry
pub record Ends (more : ℕ) (before : List Entry) (bytes : List ℕ) : Type 0 where
  pub here : ends_here bytes ≡ true
  pub reads : entries_from (suc more) before bytes ≡ Ok before

pub record IsBad (more : ℕ) (before : List Entry) (bytes : List ℕ) : Type 0 where
  pub here : ends_here bytes ≡ false
  pub none : next_entry before bytes ≡ None
  pub reads : entries_from (suc more) before bytes ≡ Err (16 * length before)

pub record HasNext (more : ℕ) (before : List Entry) (bytes : List ℕ) : Type 0 where
  pub here : ends_here bytes ≡ false
  pub entry : Entry
  pub next : next_entry before bytes ≡ Some entry
  pub reads : entries_from (suc more) before bytes ≡ entries_from more (before ++ entry ∷ []) (drop 16 bytes)

option_cases : (o : Option Entry) → (o ≡ None) ⊎ ((entry : Entry) × (o ≡ Some entry))
option_cases None = inl refl
option_cases (Some entry) = inr (entry, refl)

pub ends_step : (more : ℕ) (before : List Entry) (bytes : List ℕ) → ends_here bytes ≡ true → entries_from (suc more) before bytes ≡ Ok before
ends_step more before bytes here = rw here refl

pub next_step : (more : ℕ) (before : List Entry) (bytes : List ℕ) (entry : Entry) → ends_here bytes ≡ false → next_entry before bytes ≡ Some entry
    → entries_from (suc more) before bytes ≡ entries_from more (before ++ entry ∷ []) (drop 16 bytes)
next_step more before bytes entry here next = rw (here, next) refl

pub bad_step : (more : ℕ) (before : List Entry) (bytes : List ℕ) → ends_here bytes ≡ false → next_entry before bytes ≡ None → entries_from (suc more) before bytes ≡ Err (16 * length before)
bad_step more before bytes here none = rw (here, none) refl

pub step_cases : (more : ℕ) (before : List Entry) (bytes : List ℕ) → Ends more before bytes ⊎ (IsBad more before bytes ⊎ HasNext more before bytes)
step_cases more before bytes = elim (cases_Bool (ends_here bytes)) [
  | inl here ↦ inl (record { here = here; reads = ends_step more before bytes here })
  | inr here ↦ elim (option_cases (next_entry before bytes)) [
    | inl none ↦ inr (inl (record { here = here; none = none; reads = bad_step more before bytes here none }))
    | inr some ↦ inr (inr (record { here = here; entry = some.0; next = some.1; reads = next_step more before bytes some.0 here some.1 }))
  ]
]
