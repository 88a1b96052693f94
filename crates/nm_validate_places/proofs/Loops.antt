-- The loop over all nodes, of which each has its places.
use Rattle.std.proofs.Common.{◌≡◌, ℕ, ◌-◌, List, length, Option, None, sym, ap, ◌∙◌, subst}
use Rattle.std.specs.Prelude.{filter}
use Rattle.std.specs.List.{flat_map, range_with_len}
use Rattle.std.specs.FinMap.{keys}
use Rattle.nm_types.specs.Path.{PathStep}
use Rattle.nm_schema_tree.specs.Nodes.{SchemaTree}
use Rattle.nm_config.specs.Rows.{Rows}
use Rattle.nm_validate_rules.specs.declared.rule.Rule.{Rule}
use Rattle.nm_validate_rules.specs.Cases.{numbers}
use Rattle.nm_validate_rules.specs.Places.{places}
use Rattle.nm_validate_rules.specs.Violated.{violated}
use Rattle.nm_validate_rules.specs.Violation.{looked_at, least_of, least_at}
use Rattle.nm_validate_places.specs.declared.areas.Grouped.{Grouped}
use Rattle.nm_validate_places.specs.Groups.{Group, AreOf, IsGrouped}
use Rattle.nm_validate_places.specs.Least.{least_with}
use Rattle.nm_validate_places.proofs.Leasts.{least_is_found}

-- the groups of a grouping, as they are lent
pub lent_groups : (t : SchemaTree) (rows : Rows) (grouped : Grouped) (lent : List Group) → IsGrouped t rows grouped → lent ≡ grouped.groups.items → AreOf t (keys rows) lent
lent_groups t rows grouped lent h same = subst (λ gs. AreOf t (keys rows) gs) (sym same) h.groups_are

-- once all nodes are looked at, what is found is the least
pub all_looked : (t : SchemaTree) (rows : Rows) (rule : Rule) → looked_at t rows rule ≡ flat_map (places t rows) (numbers t.nodes) → (i : ℕ) (found : Option (List PathStep)) → length t.nodes - i ≡ 0
    → least_with found (filter (violated t rows rule) (flat_map (places t rows) (range_with_len i (length t.nodes - i)))) ≡ least_with None (filter (violated t rows rule) (flat_map (places t rows) (numbers t.nodes)))
    → found ≡ least_at t rows rule
unfolding least_at
all_looked t rows rule looked i found done h =
    ap (λ (k : ℕ). least_with found (filter (violated t rows rule) (flat_map (places t rows) (range_with_len i k)))) (sym done)
    ∙ h ∙ least_is_found (filter (violated t rows rule) (flat_map (places t rows) (numbers t.nodes))) ∙ ap (λ l. least_of (filter (violated t rows rule) l)) (sym looked)
