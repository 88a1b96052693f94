-- Rows that bring what others bring, and share it (this project's own).
use Rattle.std.specs.Prelude.{◌≡◌, ℕ, List, [], ◌∷◌, Option, Some, None, slice_index_or}
use Rattle.nm_graph.specs.Graph.{Graph, successors_of}
use Rattle.nm_schema_names.specs.Clash.{known_at}

-- the one row of a list of one
abbrev pub lone_of : List ℕ → Option ℕ
lone_of [] = None
lone_of (i ∷ []) = Some i
lone_of (i ∷ j ∷ nodes) = None

-- a row that leads to one row and brings something brings what that row brings
abbrev pub AreShared : Graph → List (Option (List ℕ)) → Type 0
AreShared graph brought = (i j : ℕ) (nodes : List ℕ) → lone_of (successors_of graph i) ≡ Some j
    → known_at brought i ≡ Some nodes → known_at brought j ≡ Some nodes

-- the row that is given for row i, and else the row itself
abbrev pub source_at : List ℕ → ℕ → ℕ
source_at sources i = slice_index_or sources i i

-- each row brings what the row brings that is given for it
abbrev pub AreSources : List (Option (List ℕ)) → List ℕ → Type 0
AreSources brought sources = (i : ℕ) → known_at brought (source_at sources i) ≡ known_at brought i
