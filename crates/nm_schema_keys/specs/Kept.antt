-- Values of rows that are kept for the next time (this project's own).
use Rattle.std.specs.Prelude.{◌≡◌, ℕ, List, Option, IfSome}
use Rattle.std.specs.Ordering.{nat_cmp}
use Rattle.std.specs.BTreeMap.{BTreeMap, get}
use Rattle.nm_schema_statements.specs.declared.row.Row.{Row}
use Rattle.nm_schema_uses.specs.Members.{members}
use Rattle.nm_schema_uses.specs.Passing.{kept_members}
use Rattle.nm_schema_keys.specs.Membership.{Sight, sight}

-- what is kept of a number is its value
unfoldable pub Keeps : {X : Type 0} → (ℕ → X) → BTreeMap ℕ X → Type 0
Keeps value kept = (i : ℕ) → IfSome (get nat_cmp kept i) (λ x. x ≡ value i)

-- the members of row i, and those that are kept
unfoldable pub members_at : List Row → List (Option ℕ) → ℕ → Sight
members_at rows groupings i = sight rows (members rows groupings i) (kept_members rows groupings i)
