-- The tree while it grows.
use Rattle.std.specs.Prelude.{◌≡◌, ℕ, ◌+◌, ◌<◌, ◌≤◌, List, [], length, map, drop, filter, All, Option, Some, IfSome, slice_get}
use Rattle.nm_schema_statements.specs.declared.row.Row.{Row}
use Rattle.nm_schema_uses.specs.Sizes.{total_of, unit_at}
use Rattle.nm_schema_nodes.specs.declared.instance.Instance.{Instance}
use Rattle.nm_schema_nodes.specs.Expansion.{count_at, counts_before, kept_below, grown_members, is_below, is_top, owner_of, AreNumbered}

-- a node that stands in another, or at the top of a module
unfoldable pub instance : Option ℕ → ℕ → ℕ → Instance
instance parent owner row = record { parent = parent; row = row; owner = owner }

-- the row of a node
unfoldable pub its_row : Instance → ℕ
its_row node = node.row

-- the rows of the nodes directly in node i
unfoldable pub rows_below : List Instance → ℕ → List ℕ
rows_below nodes i = map its_row (filter (is_below i) nodes)

-- the rows of the nodes at the top of module m
unfoldable pub rows_top : List Instance → ℕ → List ℕ
rows_top nodes m = map its_row (filter (is_top m) nodes)

-- a row is a node of data that has a count
pub record IsCounted (rows : List Row) (groupings : List (Option ℕ)) (i : ℕ) : Type 0 where
  pub unit : unit_at rows i ≡ 1
  pub count : 0 < count_at rows groupings i

-- the row of a node is a node of data that has a count
abbrev pub HasCount : List Row → List (Option ℕ) → Instance → Type 0
HasCount rows groupings node = IsCounted rows groupings (its_row node)

-- the nodes that stand at and below these nodes in the end
unfoldable pub weight : List Row → List (Option ℕ) → List Instance → ℕ
weight rows groupings nodes = total_of (map (count_at rows groupings) (map its_row nodes))

-- the modules below n are at the top, and what stands in the nodes below `next` is there
pub record IsGrowing (rows : List Row) (groupings : List (Option ℕ)) (n next : ℕ) (nodes : List Instance) : Type 0 where
  pub done : (i : ℕ) (node : Instance) → i < next → slice_get nodes i ≡ Some node → rows_below nodes i ≡ kept_below rows groupings node.row
  pub rest : (i : ℕ) → next ≤ i → rows_below nodes i ≡ []
  pub outermost : (m : ℕ) → m < n → rows_top nodes m ≡ grown_members rows groupings m
  pub others : (m : ℕ) → n ≤ m → rows_top nodes m ≡ []
  pub parents : (i : ℕ) (node : Instance) → slice_get nodes i ≡ Some node → IfSome node.parent (λ p. (p < i) × (owner_of nodes p ≡ Some node.owner))
  pub owners : (i : ℕ) (node : Instance) → slice_get nodes i ≡ Some node → node.owner < n
  pub numbered : AreNumbered nodes
  pub held : (i : ℕ) (node : Instance) → slice_get nodes i ≡ Some node → IfSome node.parent (λ p. p < next)
  pub counted : All (HasCount rows groupings) nodes
  pub begun : next ≤ length nodes
  pub few : next + weight rows groupings (drop next nodes) ≤ counts_before rows groupings n
  pub bound : next + weight rows groupings (drop next nodes) ≤ 20000
