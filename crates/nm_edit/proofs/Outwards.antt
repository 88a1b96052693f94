-- A case among those outwards of one that passes a test.
use Rattle.std.proofs.Common.{◌≡◌, ℕ, zero, suc, ◌-◌, ◌<◌, Bool, true, false, ◌||◌, Option, Some, None, refl, ap, ◌∙◌, arith}
use Rattle.std.specs.List.{list_any}
use Rattle.nm_schema_tree.specs.Nodes.{SchemaTree, outer_case}
use Rattle.nm_validate_rules.specs.Cases.{outwards}

module _ (t : SchemaTree) (test : ℕ → Bool) where
  pub any_none : (n : ℕ) → list_any test (outwards t n None) ≡ false
  any_none n = refl

  pub any_zero : (n : ℕ) (o : Option ℕ) → n ≡ 0 → list_any test (outwards t n o) ≡ false
  any_zero zero None e = refl
  any_zero zero (Some own) e = refl
  any_zero (suc n) o e = absurd (omega (arith, e))

  pub any_here : (n own : ℕ) → 0 < n → test own ≡ true → list_any test (outwards t n (Some own)) ≡ true
  any_here zero own lt e = absurd (omega (arith, lt))
  any_here (suc n) own lt e = ap (λ b. b || list_any test (outwards t n (outer_case t.choices t.cases own))) e

  less_one : (n : ℕ) → n ≡ suc n - 1
  less_one n = omega arith

  pub any_on : (n own : ℕ) → 0 < n → test own ≡ false → list_any test (outwards t n (Some own)) ≡ list_any test (outwards t (n - 1) (outer_case t.choices t.cases own))
  any_on zero own lt e = absurd (omega (arith, lt))
  any_on (suc n) own lt e =
      ap (λ b. b || list_any test (outwards t n (outer_case t.choices t.cases own))) e ∙ ap (λ (k : ℕ). list_any test (outwards t k (outer_case t.choices t.cases own))) (less_one n)
