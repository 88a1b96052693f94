-- A key that is put at its place.
use Rattle.std.proofs.Common.{◌≡◌, ℕ, suc, List, [], ◌∷◌, Bool, true, false, cond, length, slice_get, Some, nat_cmp, refl, sym, ap, ◌∙◌, arith}
use Rattle.std.specs.Cmp.Lexicographic.{slice_cmp}
use Rattle.std.specs.List.{insert}
use Rattle.std.specs.Ordering.{is_lt, match_ordering}
use Rattle.serde_json.specs.Data.{Data, member, put}
use Rattle.nm_types.specs.declared.value.Value.{Value}
use Rattle.nm_schema_tree.specs.declared.node.Node.{Node}
use Rattle.nm_path.specs.Spelling.{name_at}
use Rattle.nm_json.specs.Writing.{value_data, narrow_at}
use Rattle.nm_json_text.specs.Passing.{held, front_keys, is_before_key}
use Rattle.nm_json_text.proofs.Behind.{less, greater}

module _ (nodes : List Node) (k : ℕ) (v : Value) where
  abbrev name : List ℕ
  name = name_at nodes k

  abbrev datum : Data
  datum = value_data (narrow_at nodes (Some k)) v

  put_at : (b : Bool) (l : ℕ) (ks : List ℕ) (u : Value) (vs : List Value) → is_lt (slice_cmp nat_cmp (name_at nodes l) name) ≡ b
      → (is_before_key nodes name (slice_get ks (front_keys nodes name ks)) ≡ true → held nodes (insert ks (front_keys nodes name ks) k) (insert vs (front_keys nodes name ks) v) ≡ put name datum (held nodes ks vs))
      → is_before_key nodes name (slice_get (l ∷ ks) (cond b (suc (front_keys nodes name ks)) 0)) ≡ true
      → held nodes (insert (l ∷ ks) (cond b (suc (front_keys nodes name ks)) 0) k) (insert (u ∷ vs) (cond b (suc (front_keys nodes name ks)) 0) v) ≡ put name datum (held nodes (l ∷ ks) (u ∷ vs))
  put_at true l ks u vs e further next =
      let n = name_at nodes l in
      let d = value_data (narrow_at nodes (Some l)) u in
      let ms = held nodes ks vs in
      ap (member n d) (further next) ∙ sym (ap (λ o. match_ordering o (member name datum (member n d ms)) (member n datum ms) (member n d (put name datum ms))) (greater n name e))
  put_at false l ks u vs e further next =
      let n = name_at nodes l in
      let d = value_data (narrow_at nodes (Some l)) u in
      let ms = held nodes ks vs in
      sym (ap (λ o. match_ordering o (member name datum (member n d ms)) (member n datum ms) (member n d (put name datum ms))) (less _ next))

  pub put_sorted : (ks : List ℕ) (vs : List Value) → length ks ≡ length vs → is_before_key nodes name (slice_get ks (front_keys nodes name ks)) ≡ true
      → held nodes (insert ks (front_keys nodes name ks) k) (insert vs (front_keys nodes name ks) v) ≡ put name datum (held nodes ks vs)
  put_sorted [] [] even next = refl
  put_sorted [] (u ∷ vs) even next = absurd (omega (arith, even))
  put_sorted (l ∷ ks) [] even next = absurd (omega (arith, even))
  put_sorted (l ∷ ks) (u ∷ vs) even next = put_at _ l ks u vs refl (λ h. put_sorted ks vs (omega (arith, even)) h) next

  pub put_placed : (ks : List ℕ) (vs : List Value) (place : ℕ) (ks_now : List ℕ) (vs_now : List Value) → length ks ≡ length vs → place ≡ front_keys nodes name ks
      → is_before_key nodes name (slice_get ks place) ≡ true → ks_now ≡ insert ks place k → vs_now ≡ insert vs place v → held nodes ks_now vs_now ≡ put name datum (held nodes ks vs)
  put_placed ks vs place ks_now vs_now even at next ks_are vs_are =
      ap (λ xs. held nodes xs vs_now) ks_are ∙ ap (held nodes (insert ks place k)) vs_are ∙ ap (λ i. held nodes (insert ks i k) (insert vs i v)) at
      ∙ put_sorted ks vs even (ap (λ i. is_before_key nodes name (slice_get ks i)) (sym at) ∙ next)
