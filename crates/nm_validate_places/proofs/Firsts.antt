-- The least of paths that stand in order is the first.
use Rattle.std.proofs.Common.{◌≡◌, List, [], ◌∷◌, map, Bool, true, false, cond, ◌&&◌, Some, if◌then◌else◌, refl, ap, ◌∙◌}
use lib.Dec.{T}
use Rattle.std.specs.Prelude.{filter}
use Rattle.std.specs.List.{fold, find}
use Rattle.std.specs.Ordering.{is_lt, ordering_reverse}
use Rattle.std.specs.FinMap.{keys, entries, entries_sorted}
use Rattle.std.specs.FinMap.Entries.{is_sorted, below_all}
use Rattle.std.specs.declared.cmp.Ordering.{Ordering}
use Rattle.std.specs.declared.cmp.Ordering.TheVariants.{Less, Equal, Greater}
use Rattle.nm_types.specs.Path.{PathStep, path_cmp}
use Rattle.nm_types.specs.PathLaws.{paths_total}
use Rattle.nm_config.specs.Rows.{Rows}
use Rattle.nm_validate_rules.specs.Violation.{lesser, least_of}
use Rattle.nm_validate_places.specs.Listed.{Row}

pub first_of : (a b : Bool) → T (a && b) → T a
first_of true b p = tt
first_of false b p = p

pub second_of : (a b : Bool) → T (a && b) → T b
second_of true b p = p
second_of false b p = absurd p

turned : (r : Ordering) → T (is_lt r) → is_lt (ordering_reverse r) ≡ false
turned Less h = refl
turned Equal h = absurd h
turned Greater h = absurd h

-- of a path and a later one the first is the lesser
stays : (m q : List PathStep) → T (is_lt (path_cmp m q)) → lesser m q ≡ m
stays m q h = ap (λ b. if b then q else m) (ap is_lt (paths_total.antisymm q m) ∙ turned (path_cmp m q) h)

module _ (test : List PathStep → Bool) where
  -- a path before all is the least, whatever is left of the others
  before_all : (m : List PathStep) (es : List Row) → T (below_all path_cmp m es) → fold lesser m (filter test (map (λ e. e.0) es)) ≡ m
  before_all m [] h = refl
  before_all m (e ∷ es) h =
      let rest = before_all m es (second_of _ _ h) in
      let others = filter test (map (λ (r : Row). r.0) es) in
      elim (test e.0) as (λ b. fold lesser m (cond b (e.0 ∷ others) others) ≡ m) [
        | true ↦ ap (λ x. fold lesser x others) (stays m e.0 (first_of _ _ h)) ∙ rest
        | false ↦ rest
      ]

  sorted_first : (es : List Row) → T (is_sorted path_cmp es) → least_of (filter test (map (λ e. e.0) es)) ≡ find test (map (λ e. e.0) es)
  sorted_first [] h = refl
  sorted_first (e ∷ es) h =
      let rest = sorted_first es (second_of _ _ h) in
      let others = filter test (map (λ (r : Row). r.0) es) in
      elim (test e.0) as (λ b. least_of (cond b (e.0 ∷ others) others) ≡ cond b (Some e.0) (find test (map (λ (r : Row). r.0) es))) [
        | true ↦ ap Some (before_all e.0 es (first_of _ _ h))
        | false ↦ rest
      ]

  -- of the paths of rows that pass a test the least is the first
  pub least_key : (rows : Rows) → least_of (filter test (keys rows)) ≡ find test (keys rows)
  least_key rows = sorted_first (entries rows) (entries_sorted rows)
