-- What the last step of a path chooses.
use Rattle.std.proofs.Common.{◌≡◌, suc, ◌-◌, List, [], ◌∷◌, length, take, Option, Some, slice_get, refl, sym, ap, ◌∙◌, arith}
use Rattle.nm_types.specs.Path.{PathStep, choice_values}
use Rattle.nm_validate_rules.specs.Guards.{front}
use Rattle.nm_validate_rules.specs.Values.{chosen_values}
use Rattle.nm_validate_rules.specs.Violated.{last_chosen}

chosen_is : (s r : PathStep) → ◌≡◌ {A = Option PathStep} (Some s) (Some r) → s.chosen ≡ r.chosen
chosen_is s r e = cc

one_less : (s r : PathStep) (ss : List PathStep) → length (s ∷ r ∷ ss) - 1 ≡ suc (length (r ∷ ss) - 1)
one_less s r ss = omega arith

pub chosen_last : (ss : List PathStep) (s : PathStep) → slice_get ss (length ss - 1) ≡ Some s → last_chosen ss ≡ s.chosen
chosen_last [] s e = absurd (cc)
chosen_last (r ∷ []) s e = chosen_is r s e
chosen_last (r ∷ q ∷ ss) s e = chosen_last (q ∷ ss) s (ap (slice_get (r ∷ q ∷ ss)) (sym (one_less r q ss)) ∙ e)

pub values_last : (ss : List PathStep) (s : PathStep) → slice_get ss (length ss - 1) ≡ Some s → chosen_values ss ≡ choice_values s.chosen
values_last [] s e = absurd (cc)
values_last (r ∷ []) s e = ap choice_values (chosen_is r s e)
values_last (r ∷ q ∷ ss) s e = values_last (q ∷ ss) s (ap (slice_get (r ∷ q ∷ ss)) (sym (one_less r q ss)) ∙ e)

-- a path without its last step
pub front_is : (path : List PathStep) → take (length path - 1) path ≡ front path
front_is [] = refl
front_is (s ∷ []) = refl
front_is (s ∷ r ∷ ss) =
    ap (λ n. take n (s ∷ r ∷ ss)) (one_less s r ss) ∙ ap (λ p. s ∷ p) (front_is (r ∷ ss))
