-- What is told is the least violation, and there is but one.
use Rattle.std.proofs.Common.{◌≡◌, ℕ, ◌<◌, List, Bool, true, false, Option, Some, None, option_map, refl, sym, ap, ◌∙◌, inl, inr, arith}
use Rattle.std.specs.Ordering.{is_gt, ordering_reverse}
use Rattle.std.specs.declared.cmp.Ordering.{Ordering}
use Rattle.std.specs.declared.cmp.Ordering.TheVariants.{Less, Equal, Greater}
use Rattle.nm_types.specs.Path.{PathStep, path_cmp}
use Rattle.nm_types.specs.PathLaws.{paths_total, path_cmp-IsAntisymmetric}
use Rattle.nm_schema_tree.specs.Nodes.{SchemaTree}
use Rattle.nm_schema_tree.specs.Levels.{IsTree}
use Rattle.nm_config.specs.Rows.{Rows}
use Rattle.nm_proto.specs.Content.{Refusal}
use Rattle.nm_validate_rules.specs.Rule.{rule_number}
use Rattle.nm_validate_rules.specs.Violated.{violated}
use Rattle.nm_validate_rules.specs.Violation.{Violation, IsUpto, IsLeastViolation, IsTold, violation}
use Rattle.nm_validate_rules.proofs.Telling.{violation_is_told}
use Rattle.nm_validate.specs.Told.{refusal_of, violation_told, IsToldRightly}

contrary : (b : Bool) → b ≡ true → b ≡ false → ⊥
contrary true e h = cc
contrary false e h = cc

-- ---- there is one least violation

by_order : (r : Ordering) (p q : List PathStep) → path_cmp p q ≡ r → is_gt r ≡ false → is_gt (ordering_reverse r) ≡ false → p ≡ q
by_order Less p q is e f = absurd (cc)
by_order Equal p q is e f = path_cmp-IsAntisymmetric p q is
by_order Greater p q is e f = absurd (cc)

-- paths of which neither stands behind the other are one
one_path : (p q : List PathStep) → is_gt (path_cmp p q) ≡ false → is_gt (path_cmp q p) ≡ false → p ≡ q
one_path p q e f = by_order (path_cmp p q) p q refl e (ap is_gt (sym (paths_total.antisymm q p)) ∙ f)

not_before : (a b : ℕ) → a < b → b < a → ⊥
not_before a b p q = omega (arith, p, q)

not_both : (v w : Violation) → rule_number v.rule < rule_number w.rule → IsUpto w v.rule v.path → ⊥
not_both v w lt (inl back) = not_before (rule_number v.rule) (rule_number w.rule) lt back
not_both v w lt (inr same) = let e = ap rule_number same.0 in omega (arith, lt, e)

one : (v w : Violation) → IsUpto v w.rule w.path → IsUpto w v.rule v.path → v ≡ w
one v w (inl lt) back = absurd (not_both v w lt back)
one v w (inr same) (inl lt) = absurd (not_both w v lt (inr same))
one v w (inr same) (inr back) =
    let path_is = one_path v.path w.path same.1 back.1 in
    λ i. record { rule = same.0 i; path = path_is i }

module _ (t : SchemaTree) (rows : Rows) where
  one_least : (v w : Violation) → IsLeastViolation t rows v → IsLeastViolation t rows w → v ≡ w
  one_least v w p q = one v w (p.least w.rule w.path q.violated_there) (q.least v.rule v.path p.violated_there)

  some_is : (a b : Refusal) → ◌≡◌ {A = Option Refusal} (Some a) (Some b) → a ≡ b
  some_is a b e = cc

  none_some : (a : Refusal) → ◌≡◌ {A = Option Refusal} None (Some a) → ⊥
  none_some a e = cc

  some_none : (a : Refusal) → ◌≡◌ {A = Option Refusal} (Some a) None → ⊥
  some_none a e = cc

  by : (o : Option Violation) → IsTold t rows o → IsToldRightly t rows (option_map (refusal_of t) o)
  by None valid = record {
    none = (λ e. valid, λ h. refl);
    some = λ refusal. (λ e. absurd (none_some refusal e), λ h. absurd (contrary (violated t rows h.least.rule h.least.path) h.is_least.violated_there (valid h.least.rule h.least.path)));
  }
  by (Some v) least = record {
    none = (λ e. absurd (some_none (refusal_of t v) e), λ h. absurd (contrary (violated t rows v.rule v.path) least.violated_there (h v.rule v.path)));
    some = λ refusal. (
      λ e. record { least = v; is_least = least; told = sym (some_is (refusal_of t v) refusal e) },
      λ h. ap Some (ap (refusal_of t) (one_least v h.least least h.is_least) ∙ sym h.told),
    );
  }

-- what is told is told rightly
pub rightly : (t : SchemaTree) (rows : Rows) → IsTree t.nodes → IsToldRightly t rows (violation_told t rows)
rightly t rows tree = by t rows (violation t rows) (violation_is_told t rows tree)
