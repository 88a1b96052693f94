-- Places in rows that stand in path order.
use Rattle.std.specs.Prelude.{ℕ, suc, ◌+◌, Bool, true, false, cond, not, ◌&&◌, ◌||◌, List, [], ◌∷◌, Option, Some, None, T, is_some, take}
use Rattle.std.specs.List.{splice}
use Rattle.std.specs.Ordering.{is_lt, is_le, eq_by_cmp}
use Rattle.std.specs.FinMap.{is_sorted, find, get}
use Rattle.nm_types.specs.Path.{PathStep, path_cmp}
use Rattle.nm_types.specs.declared.value.Value.{Value}
use Rattle.nm_config.specs.Rows.{Rows}
use Rattle.nm_config.specs.Under.{is_under}

-- a path, and what stands there
abbrev pub Pair : Type 0
Pair = List PathStep × Option Value

-- pairs ascend strictly by their paths
abbrev pub Ascends : List Pair → Type 0
Ascends pairs = T (is_sorted path_cmp pairs)

-- how many pairs stand at the front whose paths pass a test
abbrev pub front : (List PathStep → Bool) → List Pair → ℕ
front test [] = 0
front test (pair ∷ pairs) = cond (test pair.0) (suc (front test pairs)) 0

-- a path stands before another
abbrev pub is_before : List PathStep → List PathStep → Bool
is_before other path = is_lt (path_cmp path other)

-- a path stands before a node, or is at or below it
abbrev pub is_before_or_under : List PathStep → List PathStep → Bool
is_before_or_under node path = is_lt (path_cmp path node) || is_under node path

-- a path stands after another; each does after none
abbrev pub is_after : Option (List PathStep) → List PathStep → Bool
is_after None path = true
is_after (Some other) path = is_lt (path_cmp other path)

-- a path isn't after another
abbrev pub is_up_to : Option (List PathStep) → List PathStep → Bool
is_up_to None path = false
is_up_to (Some other) path = is_le (path_cmp path other)

-- the pair at a place is that of a path
abbrev pub is_pair_of : List PathStep → Option Pair → Bool
is_pair_of path None = false
is_pair_of path (Some pair) = eq_by_cmp path_cmp path pair.0

-- what the pair at a place says of a path
abbrev pub said_of : List PathStep → Option Pair → Option (Option Value)
said_of path None = None
said_of path (Some pair) = cond (eq_by_cmp path_cmp path pair.0) (Some pair.1) None

-- a row is the first after some, and stands before a path
abbrev pub comes_before : Option (List PathStep) → List PathStep → Bool
comes_before None path = false
comes_before (Some next) path = is_lt (path_cmp next path)

-- rows as they are seen among pairs: what has a value
abbrev pub present : List Pair → List (List PathStep × Value)
present [] = []
present ((path, None) ∷ pairs) = present pairs
present ((path, Some value) ∷ pairs) = (path, value) ∷ present pairs

-- at a path no row stands
abbrev pub gone_at : List PathStep → Pair
gone_at path = (path, None)

-- how many pairs say that a row is gone
abbrev pub gone_in : List Pair → ℕ
gone_in [] = 0
gone_in (pair ∷ pairs) = cond (not (is_some pair.1)) 1 0 + gone_in pairs

-- how many pairs say of a path without a row in a base that there is one
abbrev pub added_in : Rows → List Pair → ℕ
added_in base [] = 0
added_in base (pair ∷ pairs) = cond (is_some pair.1 && not (is_some (get base pair.0))) 1 0 + added_in base pairs

-- a row of the base before pairs from its path on: what the first says of it where that is its own, and else it
abbrev pub row_with : List PathStep → Value → List Pair → List (List PathStep × Value)
row_with path value [] = (path, value) ∷ []
row_with path value (pair ∷ pairs) = cond (eq_by_cmp path_cmp path pair.0) (present (pair ∷ [])) ((path, value) ∷ [])

-- the pairs behind those of a row
abbrev pub behind_row : List PathStep → List Pair → List Pair
behind_row path [] = []
behind_row path (pair ∷ pairs) = cond (eq_by_cmp path_cmp path pair.0) pairs (pair ∷ pairs)

-- pairs with others in the place of those at or below a node
abbrev pub with_under : List PathStep → List Pair → List Pair → List Pair
with_under node pairs others = splice pairs (front (is_before node) pairs) (front (is_before_or_under node) pairs) others

-- what is said of a path: at or below a node what others say, and elsewhere what was said before
abbrev pub said_below : List PathStep → List Pair → List PathStep → Option (Option Value) → Option (Option Value)
said_below node others path before = cond (is_under node path) (find path_cmp path others) before

-- the rows at the pairs before a path
abbrev pub rows_before : List PathStep → List Pair → List (List PathStep × Value)
rows_before path pairs = present (take (front (is_before path) pairs) pairs)
