-- The nodes of the tree of modules (RFC 7950 sections 3, 7.13 and 7.21.1).
use Rattle.std.specs.Prelude.{◌≡◌, ℕ, suc, ◌+◌, ◌<◌, ◌≤◌, List, [], ◌∷◌, length, map, take, Bool, true, false, ◌==◌, ◌&&◌, ◌||◌, nat_lt, Option, Some, None, IfSome, unwrap_or, is_some, if◌then◌else◌, slice_get}
use Rattle.std.specs.List.{find, range_with_len}
use Rattle.nm_schema_statements.specs.declared.row.Row.{Row}
use Rattle.nm_schema_statements.specs.Rows.{roots, same_parent}
use Rattle.nm_schema_uses.specs.Passing.{kept_members}
use Rattle.nm_schema_uses.specs.Sizes.{total_of, count_of, height_of}
use Rattle.nm_schema_nodes.specs.declared.instance.Instance.{Instance}

-- the rows of modules, the grouping of each uses, and the nodes of the tree
pub record Expanded : Type 0 where
  pub rows : List Row
  pub groupings : List (Option ℕ)
  pub nodes : List Instance

-- rows with their groupings and the nodes of the tree
abbrev pub expanded : List Row → List (Option ℕ) → List Instance → Expanded
expanded rows groupings nodes = record { rows = rows; groupings = groupings; nodes = nodes }

-- the kept members of row i that are known: neither state themselves nor in a choice that is (RFC 7950 sections 7.9.2, 7.13 and 7.21.1)
unfoldable pub kept_below : List Row → List (Option ℕ) → ℕ → List ℕ
kept_below rows groupings i = unwrap_or (kept_members rows groupings i) []

-- the row of module m
unfoldable pub module_row : List Row → ℕ → Option ℕ
module_row rows m = slice_get (roots rows) m

-- ---- the limits: at most 20,000 nodes, and none with more than 64 above it (this project's own)

-- the nodes of configuration at and below row i, and 0 where they aren't known
unfoldable pub count_at : List Row → List (Option ℕ) → ℕ → ℕ
count_at rows groupings i = unwrap_or (count_of rows groupings i) 0

-- the most of them that stand one in another, and 0 where that isn't known
unfoldable pub height_at : List Row → List (Option ℕ) → ℕ → ℕ
height_at rows groupings i = unwrap_or (height_of rows groupings i) 0

-- the nodes of the first so many modules
unfoldable pub counts_before : List Row → List (Option ℕ) → ℕ → ℕ
counts_before rows groupings n = total_of (map (count_at rows groupings) (take n (roots rows)))

-- how deep nodes stand in a module, where there is one
abbrev pub height_in : List Row → List (Option ℕ) → Option ℕ → ℕ
height_in rows groupings None = 0
height_in rows groupings (Some i) = height_at rows groupings i

-- with module m there are too many nodes, or one in it stands too deep
unfoldable pub is_large : List Row → List (Option ℕ) → ℕ → Bool
is_large rows groupings m = nat_lt 20000 (counts_before rows groupings (m + 1)) || nat_lt 65 (height_in rows groupings (module_row rows m))

-- the first module that is too large
unfoldable pub first_large : List Row → List (Option ℕ) → Option ℕ
first_large rows groupings = find (is_large rows groupings) (range_with_len 0 (length (roots rows)))

-- module m comes before the first that is too large, or none is
abbrev pub comes_before : ℕ → Option ℕ → Bool
comes_before m None = true
comes_before m (Some large) = nat_lt m large

-- the nodes of a module can be counted: there is one, and nothing in it leads to itself
abbrev pub has_count : List Row → List (Option ℕ) → Option ℕ → Bool
has_count rows groupings None = false
has_count rows groupings (Some i) = is_some (count_of rows groupings i)

-- module m is expanded: it comes before each that is too large, and its nodes can be counted (this project's own)
unfoldable pub is_grown : List Row → List (Option ℕ) → ℕ → Bool
is_grown rows groupings m = comes_before m (first_large rows groupings) && has_count rows groupings (module_row rows m)

-- the rows of configuration at the top of a module, where there is one
abbrev pub kept_in : List Row → List (Option ℕ) → Option ℕ → List ℕ
kept_in rows groupings None = []
kept_in rows groupings (Some i) = kept_below rows groupings i

-- the rows of the nodes at the top of module m
unfoldable pub grown_members : List Row → List (Option ℕ) → ℕ → List ℕ
grown_members rows groupings m = if is_grown rows groupings m then kept_in rows groupings (module_row rows m) else []

-- ---- nodes

-- the numbers of the items that pass a test, of which the first is item n
unfoldable pub places_of : {X : Type 0} → (X → Bool) → ℕ → List X → List ℕ
places_of test n [] = []
places_of test n (x ∷ xs) = if test x then n ∷ places_of test (suc n) xs else places_of test (suc n) xs

-- a node stands directly in node i
unfoldable pub is_below : ℕ → Instance → Bool
is_below i node = same_parent node.parent (Some i)

-- a node stands at the top of module m
unfoldable pub is_top : ℕ → Instance → Bool
is_top m node = same_parent node.parent None && node.owner == m

-- the nodes directly in node i, in order
unfoldable pub children : List Instance → ℕ → List ℕ
children nodes i = places_of (is_below i) 0 nodes

-- the nodes at the top of module m, in order
unfoldable pub tops : List Instance → ℕ → List ℕ
tops nodes m = places_of (is_top m) 0 nodes

-- the row that a node is an instance of
abbrev pub row_in : Option Instance → Option ℕ
row_in None = None
row_in (Some node) = Some node.row

-- the row of node i
unfoldable pub row_of : List Instance → ℕ → Option ℕ
row_of nodes i = row_in (slice_get nodes i)

-- the module that a node is of
abbrev pub owner_in : Option Instance → Option ℕ
owner_in None = None
owner_in (Some node) = Some node.owner

-- the number of the module whose tree node i is in
unfoldable pub owner_of : List Instance → ℕ → Option ℕ
owner_of nodes i = owner_in (slice_get nodes i)

-- so many nodes stand above node i
pub data HasAbove (nodes : List Instance) : ℕ → ℕ → Type 0 where
  outermost : {i : ℕ} (node : Instance) → slice_get nodes i ≡ Some node → node.parent ≡ None → HasAbove nodes i 0
  within : {i n : ℕ} (node : Instance) (parent : ℕ) → slice_get nodes i ≡ Some node → node.parent ≡ Some parent
      → HasAbove nodes parent n → HasAbove nodes i (suc n)

-- one place to stand comes no later than another: the tops of the modules first, in order, and then the nodes by number (this project's own)
abbrev pub IsNoLater : Option ℕ → ℕ → Option ℕ → ℕ → Type 0
IsNoLater None m None n = m ≤ n
IsNoLater None m (Some q) n = Unit {0}
IsNoLater (Some p) m None n = ⊥
IsNoLater (Some p) m (Some q) n = p ≤ q

-- no node stands at an earlier place than one of a smaller number: nodes are numbered level by level
abbrev pub AreNumbered : List Instance → Type 0
AreNumbered nodes = (i j : ℕ) (x y : Instance) → i < j → slice_get nodes i ≡ Some x → slice_get nodes j ≡ Some y → IsNoLater x.parent x.owner y.parent y.owner

-- these are the nodes of the modules that are expanded: in each module and each node those of its kept members that are known, in order; each node in
-- an earlier one of its module (RFC 7950 section 7.13: nodes of a used grouping belong to the using module); and they are numbered by where they stand
pub record IsExpansion (rows : List Row) (groupings : List (Option ℕ)) (nodes : List Instance) : Type 0 where
  pub outermost : (m : ℕ) → m < length (roots rows) → map (row_of nodes) (tops nodes m) ≡ map (λ row. Some row) (grown_members rows groupings m)
  pub below : (i : ℕ) (node : Instance) → slice_get nodes i ≡ Some node
      → map (row_of nodes) (children nodes i) ≡ map (λ row. Some row) (kept_below rows groupings node.row)
  pub parents : (i : ℕ) (node : Instance) → slice_get nodes i ≡ Some node → IfSome node.parent (λ p. (p < i) × (owner_of nodes p ≡ Some node.owner))
  pub owners : (i : ℕ) (node : Instance) → slice_get nodes i ≡ Some node → node.owner < length (roots rows)
  pub numbered : AreNumbered nodes
  pub few : length nodes ≤ 20000
  pub shallow : (i n : ℕ) → HasAbove nodes i n → n ≤ 64
