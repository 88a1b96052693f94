-- Values of the nodes of a graph, each from the values of the nodes that it leads to.
use Rattle.std.specs.Prelude.{◌≡◌, ◌<◌, ℕ, zero, suc, List, [], ◌∷◌, length, map, Contains, Option, None, Some, slice_index_or, option_map, option_and_then}
use Rattle.nm_graph.specs.Graph.{Graph, successors_of}

-- what gives a node's value from those of its successors, in order; a successor may have none
abbrev pub Step : Type 0 → Type 0
Step Y = ℕ → List (Option Y) → Option Y

-- a node has no value where one of its successors has none
abbrev pub IsStrict : {Y : Type 0} → Step Y → Type 0
IsStrict {Y} step = (node : ℕ) (values : List (Option Y)) → Contains values None → step node values ≡ None

-- the values, where there is each of them
abbrev pub all_there : {Y : Type 0} → List (Option Y) → Option (List Y)
all_there [] = Some []
all_there (None ∷ values) = None
all_there (Some value ∷ values) = option_map (λ others. value ∷ others) (all_there values)

-- a step that asks for the value of each successor
abbrev pub strict : {Y : Type 0} → (ℕ → List Y → Option Y) → Step Y
strict step node values = option_and_then (step node) (all_there values)

-- the value of a node from those that at most so many steps make
abbrev pub value_within : {Y : Type 0} → Step Y → Graph → ℕ → ℕ → Option Y
value_within step graph zero node = None
value_within step graph (suc steps) node = step node (map (value_within step graph steps) (successors_of graph node))

-- the value of a node; no value takes more steps than there are nodes, and a node that leads to a cycle has none (this project's own)
unfoldable pub value_of : {Y : Type 0} → Step Y → Graph → ℕ → Option Y
value_of step graph node = value_within step graph (length graph) node

-- the values that stand at some nodes
abbrev pub values_at : {Y : Type 0} → List (Option Y) → List ℕ → List (Option Y)
values_at values [] = []
values_at values (node ∷ nodes) = slice_index_or values node None ∷ values_at values nodes

-- each node has its value
pub record Holds {Y : Type 0} (step : Step Y) (graph : Graph) (values : List (Option Y)) : Type 0 where
  pub size : length values ≡ length graph
  pub each : (node : ℕ) → node < length graph → slice_index_or values node None ≡ value_of step graph node

-- the nodes that were valued have their values, and no others have one
pub record Valued {Y : Type 0} (step : Step Y) (graph : Graph) (nodes : List ℕ) (values : List (Option Y)) : Type 0 where
  pub size : length values ≡ length graph
  pub done : (node : ℕ) → Contains nodes node → slice_index_or values node None ≡ value_of step graph node
  pub rest : (node : ℕ) → ¬ (Contains nodes node) → slice_index_or values node None ≡ None
