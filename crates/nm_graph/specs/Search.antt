-- What a search keeps true of the nodes that it has found.
use Rattle.std.specs.Prelude.{◌≡◌, ℕ, Bool, true, false, List, length, All, Contains, ◌⊎◌, ◌<◌, ◌≤◌, count_by, take, slice_index_or}
use Rattle.nm_graph.specs.declared.reach.Search.{Search}
use Rattle.nm_graph.specs.Graph.{Graph, successors_of, ReachedFrom}

-- a node is found
abbrev pub Has : Search → ℕ → Type 0
Has search i = slice_index_or search.is_found.items i false ≡ true

-- the nodes that are listed are those that are found, each once
pub record IsSearch (search : Search) : Type 0 where
  pub each : All (Has search) search.nodes.items
  pub listed : (i : ℕ) → Has search i → Contains search.nodes.items i
  pub once : length search.nodes.items ≡ count_by (λ found. found) search.is_found.items

-- a search went on from before and found each of some nodes, and none but those
pub record Finds (before : Search) (more : List ℕ) (search : Search) : Type 0 where
  pub size : length search.is_found.items ≡ length before.is_found.items
  pub begins : take (length before.nodes.items) search.nodes.items ≡ before.nodes.items
  pub longer : length before.nodes.items ≤ length search.nodes.items
  pub kept : (i : ℕ) → Has before i → Has search i
  pub found : All (Has search) more
  pub only : (i : ℕ) → Contains search.nodes.items i → Contains before.nodes.items i ⊎ Contains more i

-- a search from some nodes has found what the first of its nodes lead to in one step, and nothing that isn't reached
pub record IsReaching (graph : Graph) (starts : List ℕ) (next : ℕ) (search : Search) : Type 0 where
  pub sound : IsSearch search
  pub size : length search.is_found.items ≡ length graph
  pub begun : next ≤ length search.nodes.items
  pub started : All (Has search) starts
  pub right : All (ReachedFrom graph starts) search.nodes.items
  pub closed : (k : ℕ) → k < next → All (Has search) (successors_of graph (slice_index_or search.nodes.items k 0))
