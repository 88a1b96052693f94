-- Laws on values of nodes.
use Rattle.std.specs.Prelude.{◌≡◌, ◌<◌, ℕ, zero, suc, List, [], ◌∷◌, length, Contains, Option, None, Some, slice_index_or}
use Rattle.std.specs.Option.{option_map, option_and_then}
use Rattle.std.proofs.Common.{arith, refl, ap, sym, ◌∙◌}
use Rattle.nm_graph.specs.Value.{Step, IsStrict, all_there, strict}

-- where one value is missing, not all are there
pub one_missing : {Y : Type 0} (values : List (Option Y)) → Contains values None → all_there values ≡ None
one_missing [] c = absurd (omega (arith, c.1))
one_missing (None ∷ values) c = refl
one_missing (Some value ∷ values) (zero, lt, is) = absurd (some_is_none value is)
  where
    some_is_none : {Y : Type 0} (value : Y) → Some value ≡ None → ⊥
    some_is_none value e = grind arith
one_missing (Some value ∷ values) (suc k, lt, is) = rw (one_missing values (k, omega (arith, lt), is)) refl

-- a step that asks for the value of each successor gives none where one is missing
pub strict-is_strict : {Y : Type 0} (step : ℕ → List Y → Option Y) → IsStrict (strict step)
strict-is_strict step node values c = rw (one_missing values c) refl
