-- What has to go where a row comes: the nodes of the other cases of each choice in one of whose cases it comes (RFC 7950 section 7.9).
use Rattle.std.specs.Prelude.{ℕ, List, [], ◌∷◌, ◌++◌, Bool, false, not, ◌&&◌, ◌==◌, Option, Some, None, if◌then◌else◌}
use Rattle.std.specs.List.{list_any, flat_map}
use Rattle.nm_types.specs.Path.{PathStep}
use Rattle.nm_schema_tree.specs.Nodes.{SchemaTree, same_parent, parent_of, choice_at}
use Rattle.nm_path.specs.Spelling.{node_of}
use Rattle.nm_validate_rules.specs.Cases.{bare, numbers, cases_over}

-- two nodes are of one choice; what is in no choice isn't
abbrev pub is_one_choice : Option ℕ → Option ℕ → Bool
is_one_choice (Some k) (Some other) = k == other
is_one_choice _ _ = false

-- two cases are other cases of one choice
abbrev pub is_other_case : SchemaTree → ℕ → ℕ → Bool
is_other_case t c other = not (other == c) && is_one_choice (choice_at t.cases c) (choice_at t.cases other)

-- node y stands in another case of the choice of case c
unfoldable pub is_in_other : SchemaTree → ℕ → ℕ → Bool
is_in_other t y c = list_any (is_other_case t c) (cases_over t y)

-- nodes x and y stand in one node, or at the top, in two cases of one choice
unfoldable pub are_rivals : SchemaTree → ℕ → ℕ → Bool
are_rivals t x y = same_parent (parent_of t.nodes x) (parent_of t.nodes y) && list_any (is_in_other t y) (cases_over t x)

-- the path of node y at a place, where node x comes there and the two are rivals
abbrev pub rival_at : SchemaTree → List PathStep → ℕ → ℕ → List (List PathStep)
rival_at t above x y = if are_rivals t x y then (above ++ bare t.nodes y ∷ []) ∷ [] else []

-- the paths of the rivals of node x, which comes at a place
abbrev pub rivals_of : SchemaTree → List PathStep → ℕ → List (List PathStep)
rivals_of t above x = flat_map (rival_at t above x) (numbers t.nodes)

-- the paths of the rivals of a node, where there is one
abbrev pub rivals_at : SchemaTree → List PathStep → Option ℕ → List (List PathStep)
rivals_at t above None = []
rivals_at t above (Some x) = rivals_of t above x

-- the paths of the rivals of each node on the way of some steps
abbrev pub ousted_from : SchemaTree → List PathStep → List PathStep → List (List PathStep)
ousted_from t above [] = []
ousted_from t above (s ∷ ss) = rivals_at t above (node_of t (above ++ s ∷ [])) ++ ousted_from t (above ++ s ∷ []) ss

-- the paths of what has to go where a row comes: the rivals of each node on the way down to it, and its own
abbrev pub ousted_by : SchemaTree → List PathStep → List (List PathStep)
ousted_by t path = ousted_from t [] path
