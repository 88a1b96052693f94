-- The candidates of mandatory choices.
use Rattle.std.proofs.Common.{◌≡◌, ℕ, List, [], ◌∷◌, ◌++◌, map, Option, Some, None, if◌then◌else◌, length, slice_get, refl, ap}
use Rattle.std.specs.List.{flat_map, range_with_len}
use Rattle.nm_types.specs.Path.{PathStep}
use Rattle.nm_schema_tree.specs.declared.choice.ChoiceNode.{ChoiceNode}
use Rattle.nm_schema_tree.specs.Nodes.{SchemaTree}
use Rattle.nm_validate_rules.specs.Places.{choice_step}
use Rattle.nm_validate_rules.specs.Candidates.{fronts_of, areas_below_fronts, choices_below_fronts, is_mandatory_choice}
use Rattle.nm_incremental.specs.Candidates.{areas_of, mandatory_at, choices_of}
use Rattle.nm_incremental.proofs.Listed.{flat_kept}

areas_are : (t : SchemaTree) (row : List PathStep) (o : Option ℕ) → areas_of t (fronts_of row) o ≡ areas_below_fronts t row o
areas_are t row None = refl
areas_are t row (Some x) = refl

one : (t : SchemaTree) (row : List PathStep) (o : Option ChoiceNode) → mandatory_at t (fronts_of row) o ≡ (if is_mandatory_choice o then choices_below_fronts t row o else [])
one t row None = refl
one t row (Some k) = ap (λ l. if k.mandatory then map (λ (above : List PathStep). above ++ choice_step k ∷ []) l else []) (areas_are t row k.parent)

-- those of all choices are those of the mandatory ones
pub all_choices : (t : SchemaTree) (row : List PathStep)
    → flat_map (λ (k : ℕ). mandatory_at t (fronts_of row) (slice_get t.choices k)) (range_with_len 0 (length t.choices)) ≡ choices_of t row
all_choices t row =
    flat_kept (λ (k : ℕ). choices_below_fronts t row (slice_get t.choices k)) (λ (k : ℕ). mandatory_at t (fronts_of row) (slice_get t.choices k)) (λ (k : ℕ). is_mandatory_choice (slice_get t.choices k))
    (range_with_len 0 (length t.choices)) (λ k. one t row (slice_get t.choices k))
