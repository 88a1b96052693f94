-- Tests of one number after another, and of rows as they are listed.
use Rattle.std.proofs.Common.{◌≡◌, ℕ, ◌+◌, ◌-◌, ◌<◌, List, [], ◌∷◌, map, Bool, true, false, ◌||◌, refl, sym, ap, ◌∙◌}
use Rattle.std.specs.List.{list_any, range_with_len}
use Rattle.std.specs.FinMap.{keys}
use Rattle.nm_types.specs.Path.{PathStep}
use Rattle.nm_schema_tree.specs.Nodes.{SchemaTree}
use Rattle.nm_config.specs.Rows.{Rows}
use Rattle.nm_validate_places.specs.declared.areas.Grouped.{Grouped}
use Rattle.nm_validate_places.specs.declared.areas.NodeRow.{NodeRow}
use Rattle.nm_validate_places.specs.Groups.{IsGrouped}
use Rattle.nm_validate_places.specs.Listed.{Row, alone}
use Rattle.nm_validate_places.proofs.Leasts.{range_step}

module _ (test : ℕ → Bool) (i n : ℕ) (all : Bool) where
  abbrev rest : List ℕ
  rest = range_with_len (i + 1) (n - (i + 1))

  -- one number passes
  pub any_here : i < n → test i ≡ true → list_any test (range_with_len i (n - i)) ≡ all → true ≡ all
  any_here lt e h = sym (ap (list_any test) (range_step i n lt) ∙ ap (λ b. b || list_any test rest) e) ∙ h

  -- one doesn't
  pub any_on : i < n → test i ≡ false → list_any test (range_with_len i (n - i)) ≡ all → list_any test rest ≡ all
  any_on lt e h = sym (ap (list_any test) (range_step i n lt) ∙ ap (λ b. b || list_any test rest) e) ∙ h

  -- all are tested
  pub any_done : n - i ≡ 0 → list_any test (range_with_len i (n - i)) ≡ all → false ≡ all
  any_done e h = sym (ap (λ (k : ℕ). list_any test (range_with_len i k)) e) ∙ h

any_alone : (test : List PathStep → Bool) (rs : List NodeRow) → list_any (λ (row : NodeRow). test row.path.now) rs ≡ list_any test (map (λ (e : Row). e.0) (map alone rs))
any_alone test [] = refl
any_alone test (r ∷ rs) = ap (λ b. test r.path.now || b) (any_alone test rs)

-- a test of rows as they are grouped is one of the paths that have rows
pub any_grouped : (t : SchemaTree) (rows : Rows) (grouped : Grouped) (lent : List NodeRow) (test : List PathStep → Bool) → lent ≡ grouped.rows.items → IsGrouped t rows grouped
    → list_any (λ (row : NodeRow). test row.path.now) lent ≡ list_any test (keys rows)
any_grouped t rows grouped lent test same h =
    ap (list_any (λ (row : NodeRow). test row.path.now)) same ∙ any_alone test grouped.rows.items ∙ ap (λ es. list_any test (map (λ (e : Row). e.0) es)) h.rows_are
