-- Graphs: a list with a row for each node, which has the nodes that the node leads to.
use Rattle.std.specs.Prelude.{◌≡◌, ℕ, zero, suc, ◌<◌, List, [], ◌∷◌, length, All, Contains, ◌⊎◌}
use Rattle.std.specs.declared.vec.Vec.{Vec}
use Rattle.std.specs.declared.alloc.Global.{Global}

-- a graph: row i has the nodes that node i leads to
abbrev pub Graph : Type 0
Graph = List (Vec ℕ Global)

-- the nodes that a node leads to in one step (this project's own)
unfoldable pub successors_of : Graph → ℕ → List ℕ
successors_of [] i = []
successors_of (row ∷ rows) zero = row.items
successors_of (row ∷ rows) (suc i) = successors_of rows i

-- each node leads to nodes of the graph (this project's own)
abbrev pub IsGraph : Graph → Type 0
IsGraph graph = All (λ row. All (λ node. node < length graph) row.items) graph

-- a node leads to another in one step, or in one step and further ones (this project's own)
pub data Leads (graph : Graph) : ℕ → ℕ → Type 0 where
  one : {i j : ℕ} → Contains (successors_of graph i) j → Leads graph i j
  further : {i j : ℕ} (k : ℕ) → Contains (successors_of graph i) k → Leads graph k j → Leads graph i j

-- a node is another, or leads to it (this project's own)
abbrev pub Reaches : Graph → ℕ → ℕ → Type 0
Reaches graph i j = (i ≡ j) ⊎ Leads graph i j

-- some of these nodes reaches a node (this project's own)
abbrev pub ReachedFrom : Graph → List ℕ → ℕ → Type 0
ReachedFrom graph starts j = (start : ℕ) × Contains starts start × Reaches graph start j
