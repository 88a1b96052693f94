-- A case among those outwards of one.
use Rattle.std.proofs.Common.{◌≡◌, ℕ, zero, suc, ◌-◌, ◌<◌, Bool, true, false, ◌||◌, ◌==◌, Option, Some, None, refl, ap, ◌∙◌, arith}
use Rattle.std.proofs.lemmas.Grind.{common_steps}
use Rattle.std.specs.List.{list_any}
use Rattle.nm_base.specs.Numbers.{is_among}
use Rattle.nm_schema_tree.specs.Nodes.{SchemaTree, outer_case}
use Rattle.nm_validate_rules.specs.Cases.{outwards}

itself : (i : ℕ) → (i == i) ≡ true
itself i = grind (arith, common_steps)

same_number : (i j : ℕ) → (i == j) ≡ true → i ≡ j
same_number i j e = grind (arith, common_steps)

told_apart : (b : Bool) (i j : ℕ) → (i == j) ≡ b → ¬ (i ≡ j) → b ≡ false
told_apart true i j e h = absurd (h (same_number i j e))
told_apart false i j e h = refl

module _ (t : SchemaTree) (c : ℕ) where
  pub out_none : (n : ℕ) → is_among c (outwards t n None) ≡ false
  unfolding is_among
  out_none n = refl

  pub out_zero : (n : ℕ) (o : Option ℕ) → n ≡ 0 → is_among c (outwards t n o) ≡ false
  unfolding is_among
  out_zero zero None e = refl
  out_zero zero (Some own) e = refl
  out_zero (suc n) o e = absurd (omega (arith, e))

  pub out_here : (n own : ℕ) → 0 < n → own ≡ c → is_among c (outwards t n (Some own)) ≡ true
  unfolding is_among
  out_here zero own lt e = absurd (omega (arith, lt))
  out_here (suc n) own lt e = ap (λ b. b || list_any (λ j. j == c) (outwards t n (outer_case t.choices t.cases own))) (ap (λ (k : ℕ). k == c) e ∙ itself c)

  less_one : (n : ℕ) → n ≡ suc n - 1
  less_one n = omega arith

  pub out_on : (n own : ℕ) → 0 < n → ¬ (own ≡ c) → is_among c (outwards t n (Some own)) ≡ is_among c (outwards t (n - 1) (outer_case t.choices t.cases own))
  unfolding is_among
  out_on zero own lt e = absurd (omega (arith, lt))
  out_on (suc n) own lt e =
      ap (λ b. b || list_any (λ j. j == c) (outwards t n (outer_case t.choices t.cases own))) (told_apart (own == c) own c refl e)
      ∙ ap (λ (k : ℕ). list_any (λ j. j == c) (outwards t k (outer_case t.choices t.cases own))) (less_one n)
