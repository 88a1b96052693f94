-- The members of a statement by name.
use Rattle.std.specs.Prelude.{◌≡◌, ℕ, List, Option}
use Rattle.std.specs.List.{find}
use Rattle.std.specs.Ordering.{nat_cmp}
use Rattle.std.specs.Cmp.Lexicographic.{slice_cmp}
use Rattle.std.specs.BTreeMap.{BTreeMap, get_by}
use Rattle.std.specs.Borrow.{Bor}
use Rattle.nm_schema_statements.specs.declared.row.Row.{Row}
use Rattle.nm_schema_keys.specs.Found.{is_called}

-- the rows of modules, and the members of one of them, where these are known
pub record Membership : Type 0 where
  pub rows : List Row
  pub nodes : Option (List ℕ)

-- rows with the members of one of them
abbrev pub membership : List Row → Option (List ℕ) → Membership
membership rows nodes = record { rows = rows; nodes = nodes }

-- the rows of modules, the members of one of them, and those that are neither state nor in a choice that is, where these are known
pub record Sight : Type 0 where
  pub rows : List Row
  pub nodes : Option (List ℕ)
  pub kept : Option (List ℕ)

-- rows with the members of one of them, and with those that are neither state nor in a choice that is
abbrev pub sight : List Row → Option (List ℕ) → Option (List ℕ) → Sight
sight rows nodes kept = record { rows = rows; nodes = nodes; kept = kept }

-- where a map leads for a name
abbrev pub led : BTreeMap (Bor (List ℕ)) ℕ → List ℕ → Option ℕ
led map name = get_by (λ k. slice_cmp nat_cmp name k.now) map

-- each name leads to the first node that has it
unfoldable pub Leads : List Row → List ℕ → BTreeMap (Bor (List ℕ)) ℕ → Type 0
Leads rows nodes map = (name : List ℕ) → led map name ≡ find (is_called rows name) nodes
