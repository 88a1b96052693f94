-- Rows whose claims aren't all reached are those that violate the rule.
use Rattle.std.proofs.Common.{◌≡◌, List, [], ◌∷◌, ◌++◌, Bool, true, false, not, ◌||◌, refl, sym, ap, ◌∙◌}
use Rattle.std.specs.List.{list_any, AllByRecursion}
use Rattle.std.specs.FinMap.{entries}
use Rattle.nm_schema_tree.specs.Nodes.{SchemaTree}
use Rattle.nm_config.specs.Rows.{Rows}
use Rattle.nm_validate_rules.specs.declared.rule.Rule.TheVariants.{Leafref}
use Rattle.nm_validate_rules.specs.Values.{Claim, claims_by, is_reached}
use Rattle.nm_validate_rules.specs.Violated.{violated}
use Rattle.nm_validate_rules.specs.Violation.{least_at}
use Rattle.nm_path.specs.Spelling.{node_of}
use Rattle.nm_validate_places.specs.declared.areas.Grouped.{Grouped}
use Rattle.nm_validate_places.specs.declared.areas.NodeRow.{NodeRow}
use Rattle.nm_validate_places.specs.Groups.{IsGrouped}
use Rattle.nm_validate_places.specs.Listed.{Row}
use Rattle.nm_validate_places.proofs.Firsts.{least_key}
use Rattle.nm_validate_places.proofs.Rows.{Have, all_there, same_first, where_is}
use Rattle.nm_validate_leafref.specs.Lost.{any_lost, is_lost_at, first_lost}

or_or : (a b c : Bool) → (a || (b || c)) ≡ ((a || b) || c)
or_or true b c = refl
or_or false b c = refl

any_append : {X : Type 0} (test : X → Bool) (xs ys : List X) → list_any test (xs ++ ys) ≡ (list_any test xs || list_any test ys)
any_append test [] ys = refl
any_append test (x ∷ xs) ys = ap (λ b. test x || b) (any_append test xs ys) ∙ or_or (test x) (list_any test xs) (list_any test ys)

module _ (t : SchemaTree) (rows : Rows) where
  -- claims one after another
  pub lost_append : (one other : List Claim) → any_lost t rows (one ++ other) ≡ (any_lost t rows one || any_lost t rows other)
  lost_append one other = any_append (λ claim. not (is_reached t rows claim)) one other

  by_rows : (es : List Row) → Have rows es → AllByRecursion (λ e. violated t rows Leafref e.0 ≡ is_lost_at t rows (node_of t e.0) e.0 e.1) es
  by_rows [] h = tt
  by_rows (e ∷ es) h = (ap (λ o. any_lost t rows (claims_by t e.0 o)) h.0, by_rows es h.1)

  -- the first row that isn't all reached is the least at which the rule is violated
  pub lost_rows : (grouped : Grouped) (lent : List NodeRow) → lent ≡ grouped.rows.items → IsGrouped t rows grouped → first_lost t rows lent ≡ least_at t rows Leafref
  unfolding least_at
  lost_rows grouped lent same h =
      where_is t rows (is_lost_at t rows) grouped lent same h
      ∙ sym (least_key (violated t rows Leafref) rows ∙ same_first (violated t rows Leafref) (λ e. is_lost_at t rows (node_of t e.0) e.0 e.1) (entries rows) (by_rows (entries rows) (all_there rows)))
