-- Sets of names.
use Rattle.std.proofs.Common.{◌≡◌, ◌∙◌, ◌<◌, ◌≤◌, ◌+◌, ◌≢◌, ◌⊎◌, inl, inr, ℕ, zero, suc, List, [], ◌∷◌, length, map, drop, get_or, set, replicate, Bool, true, false, ◌||◌, ◌&&◌, cond, Option, Some, None, refl, sym, ap, arith, drop-cons, add-one}
use Rattle.std.specs.List.{find, list_any}
use Rattle.std.specs.Str.{bytes_eq}
use Rattle.std.specs.Ordering.{is_eq, nat_cmp}
use Rattle.std.specs.Cmp.Lexicographic.{slice_cmp}
use Rattle.std.proofs.lemmas.Grind.{common_steps}
use Rattle.std.proofs.lemmas.Bool.{cases_eq}
use Rattle.std.proofs.lemmas.List.{drop_all, length-set, get_or-set_same, get_or-set_other, length-replicate}
use mathlib.Core.Path.{fun_ext}
use Rattle.std.proofs.lemmas.Map.Text.{is_eq-slice_cmp}
use Rattle.nm_schema_statements.specs.declared.row.Row.{Row}
use Rattle.nm_schema_statements.specs.Rows.{same_parent}
use Rattle.nm_schema_uses.specs.Arguments.{argument_at}
use Rattle.nm_schema_names.proofs.Holders.{other_row, same_row}
use Rattle.nm_schema_names.specs.Clash.{names_from, has_name, holder_of, is_taken, clash_by, known_at, Knowledge, names_at, brought_by, Parts, no_parts, has_part, AreTaken}

pub contained : (keys : List (List ℕ)) (name : List ℕ) → list_any (λ k. is_eq (slice_cmp nat_cmp name k)) keys ≡ has_name keys name
contained [] name = refl
contained (k ∷ keys) name = rw (is_eq-slice_cmp name k, contained keys name) refl

bytes_same : (a b : List ℕ) → bytes_eq a b ≡ bytes_eq b a
bytes_same [] [] = refl
bytes_same [] (y ∷ b) = refl
bytes_same (x ∷ a) [] = refl
bytes_same (x ∷ a) (y ∷ b) = grind (arith, common_steps, bytes_same a b)

pub added : (old new : List (List ℕ)) (name n : List ℕ) → list_any (λ k. is_eq (slice_cmp nat_cmp n k)) new ≡ cond (is_eq (slice_cmp nat_cmp name n)) true (list_any (λ k. is_eq (slice_cmp nat_cmp n k)) old)
    → has_name new n ≡ (bytes_eq n name || has_name old n)
added old new name n e =
    sym (contained new n) ∙ e ∙ rw (is_eq-slice_cmp name n, bytes_same name n, contained old n) (elim (bytes_eq n name) as (λ b. cond b true (has_name old n) ≡ (b || has_name old n)) [ true ↦ refl | false ↦ refl ])

dropped : (xs : List ℕ) (i : ℕ) → i < length xs → drop i xs ≡ get_or xs i 0 ∷ drop (i + 1) xs
dropped xs i lt = drop-cons xs i 0 lt ∙ rw add-one refl

names-drop : (rows : List Row) (nodes : List ℕ) (i : ℕ) → i < length nodes → map (argument_at rows) (drop i nodes) ≡ argument_at rows (get_or nodes i 0) ∷ map (argument_at rows) (drop (i + 1) nodes)
names-drop rows nodes i lt = ap (λ (l : List ℕ). map (argument_at rows) l) (dropped nodes i lt)

pub find_found : (p : List ℕ → Bool) (rows : List Row) (nodes : List ℕ) (i : ℕ) (all : Option (List ℕ)) → i < length nodes → find p (map (argument_at rows) (drop i nodes)) ≡ all
    → p (argument_at rows (get_or nodes i 0)) ≡ true → Some (argument_at rows (get_or nodes i 0)) ≡ all
find_found p rows nodes i all lt is e =
    let h : find p (map (argument_at rows) (drop i nodes)) ≡ Some (argument_at rows (get_or nodes i 0)) = rw (names-drop rows nodes i lt, e) refl in
    sym h ∙ is

pub find_passed : (p : List ℕ → Bool) (rows : List Row) (nodes : List ℕ) (i : ℕ) (all : Option (List ℕ)) → i < length nodes → find p (map (argument_at rows) (drop i nodes)) ≡ all
    → p (argument_at rows (get_or nodes i 0)) ≡ false → find p (map (argument_at rows) (drop (i + 1) nodes)) ≡ all
find_passed p rows nodes i all lt is e =
    let h : find p (map (argument_at rows) (drop i nodes)) ≡ find p (map (argument_at rows) (drop (i + 1) nodes)) = rw (names-drop rows nodes i lt, e) refl in
    sym h ∙ is

pub find_end : (p : List ℕ → Bool) (rows : List Row) (nodes : List ℕ) (i : ℕ) (all : Option (List ℕ)) → length nodes ≤ i → find p (map (argument_at rows) (drop i nodes)) ≡ all → None ≡ all
find_end p rows nodes i all le is = sym (ap (λ (l : List ℕ). find p (map (argument_at rows) l)) (drop_all i nodes le)) ∙ is

pub any_found : (p : List ℕ → Bool) (rows : List Row) (nodes : List ℕ) (i : ℕ) (all : Bool) → i < length nodes → list_any p (map (argument_at rows) (drop i nodes)) ≡ all
    → p (argument_at rows (get_or nodes i 0)) ≡ true → true ≡ all
any_found p rows nodes i all lt is e =
    let h : list_any p (map (argument_at rows) (drop i nodes)) ≡ true = rw (names-drop rows nodes i lt, e) refl in
    sym h ∙ is

pub any_passed : (p : List ℕ → Bool) (rows : List Row) (nodes : List ℕ) (i : ℕ) (all : Bool) → i < length nodes → list_any p (map (argument_at rows) (drop i nodes)) ≡ all
    → p (argument_at rows (get_or nodes i 0)) ≡ false → list_any p (map (argument_at rows) (drop (i + 1) nodes)) ≡ all
any_passed p rows nodes i all lt is e =
    let h : list_any p (map (argument_at rows) (drop i nodes)) ≡ list_any p (map (argument_at rows) (drop (i + 1) nodes)) = rw (names-drop rows nodes i lt, e) refl in
    sym h ∙ is

pub any_end : (p : List ℕ → Bool) (rows : List Row) (nodes : List ℕ) (i : ℕ) (all : Bool) → length nodes ≤ i → list_any p (map (argument_at rows) (drop i nodes)) ≡ all → false ≡ all
any_end p rows nodes i all le is = sym (ap (λ (l : List ℕ). list_any p (map (argument_at rows) l)) (drop_all i nodes le)) ∙ is

or_turn : (a b c : Bool) → (b || (a || c)) ≡ ((a || b) || c)
or_turn true true c = refl
or_turn true false c = refl
or_turn false true c = refl
or_turn false false c = refl

pub add_next : (rows : List Row) (nodes : List ℕ) (i : ℕ) (old new : List (List ℕ)) (name n : List ℕ) (all : Bool) → i < length nodes → name ≡ argument_at rows (get_or nodes i 0)
    → has_name new n ≡ (bytes_eq n name || has_name old n) → (has_name (map (argument_at rows) (drop i nodes)) n || has_name old n) ≡ all
    → (has_name (map (argument_at rows) (drop (i + 1) nodes)) n || has_name new n) ≡ all
add_next rows nodes i old new name n all lt is e h =
    let first = ap (λ (l : List (List ℕ)). has_name l n || has_name old n) (names-drop rows nodes i lt) in
    ap (λ b. has_name (map (argument_at rows) (drop (i + 1) nodes)) n || b) (e ∙ ap (λ (m : List ℕ). bytes_eq n m || has_name old n) is)
    ∙ or_turn (bytes_eq n (argument_at rows (get_or nodes i 0))) (has_name (map (argument_at rows) (drop (i + 1) nodes)) n) (has_name old n) ∙ sym first ∙ h

pub add_end : (rows : List Row) (nodes : List ℕ) (i : ℕ) (old : List (List ℕ)) (n : List ℕ) (all : Bool) → length nodes ≤ i → (has_name (map (argument_at rows) (drop i nodes)) n || has_name old n) ≡ all → has_name old n ≡ all
add_end rows nodes i old n all le h =
    let none : drop i nodes ≡ [] = grind (arith, common_steps) in
    sym (ap (λ (l : List ℕ). has_name (map (argument_at rows) l) n || has_name old n) none) ∙ h

module _ (k : Knowledge) where
  nothing : (name : List ℕ) → has_part k no_parts name ≡ false
  unfolding has_part
  nothing name = refl

  none_yet : (n : ℕ) (name : List ℕ) (h : ℕ) → has_part k (get_or (replicate n no_parts) h no_parts) name ≡ false
  none_yet zero name h = nothing name
  none_yet (suc n) name zero = nothing name
  none_yet (suc n) name (suc h) = none_yet n name h

  pub taken_start : (taken : List Parts) → taken ≡ replicate (length k.rows) no_parts → AreTaken k 0 taken
  unfolding is_taken
  taken_start taken is = rw is (record { size = length-replicate (length k.rows) no_parts; each = λ h name lt. none_yet (length k.rows) name h })

  taken_step : (at : ℕ) (h : ℕ) (name : List ℕ) (holder : Option ℕ) → holder_of k.rows at ≡ holder
      → is_taken (known_at k.brought) k.rows h (at + 1) name ≡ ((same_parent holder (Some h) && brought_by k at name) || is_taken (known_at k.brought) k.rows h at name)
  unfolding is_taken brought_by names_at
  taken_step at h name holder is = rw (add-one, is) refl

  pub taken_none : (taken : List Parts) (at : ℕ) → AreTaken k at taken → holder_of k.rows at ≡ None → AreTaken k (at + 1) taken
  taken_none taken at t is = record { size = t.size; each = λ h name lt. t.each h name lt ∙ sym (taken_step at h name None is) }

  taken_each : (taken : List Parts) (at h : ℕ) (all : Parts) → AreTaken k at taken → holder_of k.rows at ≡ Some h → h < length k.rows
      → ((n : List ℕ) → has_part k all n ≡ (brought_by k at n || has_part k (get_or taken h no_parts) n)) → (g : ℕ) (name : List ℕ) → g < length k.rows → (g ≡ h) ⊎ (g ≢ h)
      → has_part k (get_or (set taken h all) g no_parts) name ≡ is_taken (known_at k.brought) k.rows g (at + 1) name
  taken_each taken at h all t is lt more g name within (inl same) =
      let size = t.size in
      rw same (ap (λ (p : Parts). has_part k p name) (get_or-set_same taken h all no_parts (omega arith)) ∙ more name ∙ ap (λ b. brought_by k at name || b) (t.each h name lt)
      ∙ sym (taken_step at h name (Some h) is ∙ rw (same_row h) refl))
  taken_each taken at h all t is lt more g name within (inr other) =
      ap (λ (p : Parts). has_part k p name) (get_or-set_other taken h g all no_parts other) ∙ t.each g name within ∙ sym (taken_step at g name (Some h) is ∙ rw (other_row h g other) refl)

  pub taken_more : (taken : List Parts) (at h : ℕ) (all : Parts) → AreTaken k at taken → holder_of k.rows at ≡ Some h → h < length k.rows
      → ((n : List ℕ) → has_part k all n ≡ (brought_by k at n || has_part k (get_or taken h no_parts) n)) → AreTaken k (at + 1) (set taken h all)
  taken_more taken at h all t is lt more = record { size = length-set taken h all ∙ t.size; each = λ g name within. taken_each taken at h all t is lt more g name within (cases_eq g h) }

  pub clash_some : (taken : List Parts) (at h : ℕ) → AreTaken k at taken → holder_of k.rows at ≡ Some h → h < length k.rows → find (has_part k (get_or taken h no_parts)) (names_at k at) ≡ clash_by (known_at k.brought) k.rows at
  unfolding clash_by names_at
  clash_some taken at h t is lt =
      let same : has_part k (get_or taken h no_parts) ≡ is_taken (known_at k.brought) k.rows h at = fun_ext (λ name. t.each h name lt) in
      rw is (ap (λ (p : List ℕ → Bool). find p (names_from k.rows (known_at k.brought at))) same)

  names-source : (source at : ℕ) → known_at k.brought source ≡ known_at k.brought at → names_at k source ≡ names_at k at
  unfolding names_at
  names-source source at e = ap (λ (nodes : Option (List ℕ)). names_from k.rows nodes) e

  pub brought-source : (source at : ℕ) (name : List ℕ) → known_at k.brought source ≡ known_at k.brought at → brought_by k source name ≡ brought_by k at name
  unfolding brought_by
  brought-source source at name e = ap (λ (names : List (List ℕ)). has_name names name) (names-source source at e)

  pub clash-source : (taken : List Parts) (source at h : ℕ) (earlier : Parts) → AreTaken k at taken → holder_of k.rows at ≡ Some h → h < length k.rows → earlier ≡ get_or taken h no_parts → known_at k.brought source ≡ known_at k.brought at
      → find (has_part k earlier) (names_at k source) ≡ clash_by (known_at k.brought) k.rows at
  clash-source taken source at h earlier t is lt here e =
      ap (λ (p : Parts). find (has_part k p) (names_at k source)) here ∙ ap (λ (names : List (List ℕ)). find (has_part k (get_or taken h no_parts)) names) (names-source source at e) ∙ clash_some taken at h t is lt

module _ (bring : ℕ → Option (List ℕ)) (rows : List Row) where
  pub clash_none : (at : ℕ) → holder_of rows at ≡ None → None ≡ clash_by bring rows at
  unfolding clash_by
  clash_none at is = rw is refl
