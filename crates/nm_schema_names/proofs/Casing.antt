-- The names of cases.
use Rattle.std.proofs.Common.{◌≡◌, ◌≢◌, ◌∙◌, ◌<◌, ◌+◌, ◌⊎◌, inl, inr, ℕ, zero, suc, List, [], length, get_or, set, replicate, Bool, true, false, ◌||◌, ◌&&◌, Option, Some, None, refl, sym, ap, arith, add-one}
use Rattle.std.specs.Str.{bytes_eq}
use Rattle.std.proofs.lemmas.Bool.{cases_eq}
use Rattle.std.proofs.lemmas.List.{length-set, get_or-set_same, get_or-set_other, length-replicate}
use Rattle.std.proofs.lemmas.Slice.Eq.{bytes_eq-Decides}
use Rattle.nm_schema_statements.specs.declared.row.Row.{Row}
use Rattle.nm_schema_statements.specs.Rows.{same_parent}
use Rattle.nm_schema_uses.specs.Arguments.{argument_at}
use Rattle.nm_schema_names.proofs.Holders.{other_row, same_row}
use Rattle.nm_schema_names.specs.Clash.{has_name, choice_of, is_case_taken, AreCasesTaken}

module _ (rows : List Row) where
  none_yet : (n c : ℕ) (name : List ℕ) → has_name (get_or (replicate n []) c []) name ≡ false
  none_yet zero c name = refl
  none_yet (suc n) zero name = refl
  none_yet (suc n) (suc c) name = none_yet n c name

  pub cases_start : (taken : List (List (List ℕ))) → taken ≡ replicate (length rows) [] → AreCasesTaken rows 0 taken
  unfolding is_case_taken
  cases_start taken is = rw is (record { size = length-replicate (length rows) []; each = λ c name lt. none_yet (length rows) c name })

  case_step : (at c : ℕ) (name : List ℕ) (choice : Option ℕ) → choice ≡ choice_of rows at → is_case_taken rows c (at + 1) name ≡ ((same_parent choice (Some c) && bytes_eq name (argument_at rows at)) || is_case_taken rows c at name)
  unfolding is_case_taken
  case_step at c name choice is = rw (add-one, is) refl

  pub cases_none : (taken : List (List (List ℕ))) (at : ℕ) → AreCasesTaken rows at taken → None ≡ choice_of rows at → AreCasesTaken rows (at + 1) taken
  cases_none taken at t is = record { size = t.size; each = λ c name lt. t.each c name lt ∙ sym (case_step at c name None is) }

  had : (same b : Bool) → (same ≡ true → b ≡ true) → b ≡ (same || b)
  had true b h = h refl
  had false b h = refl

  same_each : (taken : List (List (List ℕ))) (at h : ℕ) → AreCasesTaken rows at taken → Some h ≡ choice_of rows at → has_name (get_or taken h []) (argument_at rows at) ≡ true → (c : ℕ) (name : List ℕ) → c < length rows → (c ≡ h) ⊎ (c ≢ h)
      → has_name (get_or taken c []) name ≡ is_case_taken rows c (at + 1) name
  same_each taken at h t is e c name lt (inl same) =
      t.each c name lt
      ∙ had (bytes_eq name (argument_at rows at)) (is_case_taken rows c at name)
      (λ f. sym (t.each c name lt) ∙ ap (λ i. has_name (get_or taken i []) name) same ∙ ap (λ (n : List ℕ). has_name (get_or taken h []) n) ((bytes_eq-Decides name (argument_at rows at)).0 f) ∙ e)
      ∙ sym (case_step at c name (Some h) is ∙ rw (same, same_row h) refl)
  same_each taken at h t is e c name lt (inr other) = t.each c name lt ∙ sym (case_step at c name (Some h) is ∙ rw (other_row h c other) refl)

  pub cases_same : (taken : List (List (List ℕ))) (at h : ℕ) → AreCasesTaken rows at taken → Some h ≡ choice_of rows at → has_name (get_or taken h []) (argument_at rows at) ≡ true → AreCasesTaken rows (at + 1) taken
  cases_same taken at h t is e = record { size = t.size; each = λ c name lt. same_each taken at h t is e c name lt (cases_eq c h) }

  more_each : (taken : List (List (List ℕ))) (at h : ℕ) (all : List (List ℕ)) → AreCasesTaken rows at taken → Some h ≡ choice_of rows at → h < length rows
      → ((n : List ℕ) → has_name all n ≡ (bytes_eq n (argument_at rows at) || has_name (get_or taken h []) n)) → (c : ℕ) (name : List ℕ) → c < length rows → (c ≡ h) ⊎ (c ≢ h)
      → has_name (get_or (set taken h all) c []) name ≡ is_case_taken rows c (at + 1) name
  more_each taken at h all t is lt more c name within (inl same) =
      let size = t.size in
      rw same (ap (λ (names : List (List ℕ)). has_name names name) (get_or-set_same taken h all [] (omega arith)) ∙ more name ∙ ap (λ b. bytes_eq name (argument_at rows at) || b) (t.each h name lt)
      ∙ sym (case_step at h name (Some h) is ∙ rw (same_row h) refl))
  more_each taken at h all t is lt more c name within (inr other) =
      ap (λ (names : List (List ℕ)). has_name names name) (get_or-set_other taken h c all [] other) ∙ t.each c name within ∙ sym (case_step at c name (Some h) is ∙ rw (other_row h c other) refl)

  pub cases_more : (taken : List (List (List ℕ))) (at h : ℕ) (all : List (List ℕ)) → AreCasesTaken rows at taken → Some h ≡ choice_of rows at → h < length rows
      → ((n : List ℕ) → has_name all n ≡ (bytes_eq n (argument_at rows at) || has_name (get_or taken h []) n)) → AreCasesTaken rows (at + 1) (set taken h all)
  cases_more taken at h all t is lt more = record { size = length-set taken h all ∙ t.size; each = λ c name within. more_each taken at h all t is lt more c name within (cases_eq c h) }

  pub had-name : (taken : List (List (List ℕ))) (at h : ℕ) (slot : List (List ℕ)) (name : List ℕ) (r b : Bool) → slot ≡ get_or taken h [] → name ≡ argument_at rows at → r ≡ has_name slot name → r ≡ b → has_name (get_or taken h []) (argument_at rows at) ≡ b
  had-name taken at h slot name r b here is e f = rw (sym here, sym is) (sym e ∙ f)
