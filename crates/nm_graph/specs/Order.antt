-- Orders of the nodes of a graph.
use Rattle.std.specs.Prelude.{◌≡◌, ℕ, suc, ◌<◌, ◌≤◌, Bool, true, List, [], ◌∷◌, ◌++◌, length, All, Contains, slice_index_or, false, ◌⊎◌}
use Rattle.nm_graph.specs.Graph.{Graph, successors_of, Leads}

-- an order grows node by node: a node comes once, and after all that it leads to (this project's own)
pub data IsOrder (graph : Graph) : List ℕ → Type 0 where
  none : IsOrder graph []
  after : (nodes : List ℕ) (node : ℕ) → IsOrder graph nodes → All (Contains nodes) (successors_of graph node)
      → ¬ (Contains nodes node) → IsOrder graph (nodes ++ node ∷ [])

-- no node below a number leads to itself
abbrev pub NoneBelow : Graph → ℕ → Type 0
NoneBelow graph n = (node : ℕ) → node < n → ¬ (Leads graph node node)

-- no node leads to itself
abbrev pub IsAcyclic : Graph → Type 0
IsAcyclic graph = (node : ℕ) → ¬ (Leads graph node node)

-- the least node that leads to itself
pub record IsLeastCycle (graph : Graph) (node : ℕ) : Type 0 where
  pub leads : Leads graph node node
  pub least : NoneBelow graph node

-- a node leads to one that isn't among these nodes
pub record LeadsOutside (graph : Graph) (nodes : List ℕ) (node : ℕ) : Type 0 where
  pub next : ℕ
  pub leads : Contains (successors_of graph node) next
  pub outside : ¬ (Contains nodes next)

-- a node is among these, or leads to one that isn't
abbrev pub IsSettled : Graph → List ℕ → ℕ → Type 0
IsSettled graph nodes node = Contains nodes node ⊎ LeadsOutside graph nodes node

-- so are all nodes below a number
abbrev pub AreSettled : Graph → List ℕ → ℕ → Type 0
AreSettled graph nodes n = (node : ℕ) → node < n → IsSettled graph nodes node

-- marked nodes
abbrev pub IsMarked : List Bool → ℕ → Type 0
IsMarked marks node = slice_index_or marks node false ≡ true

-- how many are marked
abbrev pub count_marked : List Bool → ℕ
count_marked [] = 0
count_marked (true ∷ marks) = suc (count_marked marks)
count_marked (false ∷ marks) = count_marked marks

-- the marks tell which nodes an order has
pub record Tells (graph : Graph) (nodes : List ℕ) (marks : List Bool) : Type 0 where
  pub order : IsOrder graph nodes
  pub size : length marks ≡ length graph
  pub marked : (node : ℕ) → Contains nodes node → IsMarked marks node
  pub listed : (node : ℕ) → IsMarked marks node → Contains nodes node
  pub count : length nodes ≡ count_marked marks

-- the nodes that lead to no cycle, in an order (this project's own)
pub record IsWholeOrder (graph : Graph) (nodes : List ℕ) : Type 0 where
  pub order : IsOrder graph nodes
  pub settled : AreSettled graph nodes (length graph)
  pub most : length nodes ≤ length graph
  pub within : All (λ node. node < length graph) nodes
