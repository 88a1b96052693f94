-- What stands in an order leads to no cycle.
use Rattle.std.proofs.Common.{◌≡◌, ◌<◌, ◌≤◌, ℕ, Bool, List, [], ◌∷◌, ◌++◌, zero, suc, length, All, Contains, refl, sym, subst, inl, inr, ◌⊎◌, arith, IsTrue, true, false, slice_index_or}
use Rattle.std.proofs.lemmas.List.Elements.{Contains-append_left, Contains-append_cases, All-contains}
use Rattle.std.proofs.lemmas.Bool.{cases_lt}
use Rattle.nm_graph.specs.Graph.{Graph, successors_of, Leads, one, further, ReachedFrom, Reaches}
use Rattle.nm_graph.specs.Order.{IsOrder, none, after, Tells, IsMarked, NoneBelow, IsAcyclic}
use Rattle.nm_graph.proofs.Leading.{reaches-before}
use Rattle.nm_graph.proofs.Orders.{of_one}

no_elements : (i : ℕ) → Contains [] i → ⊥
no_elements i c = omega (arith, c.1)

-- what the last node leads to stands before it
from_last : (graph : Graph) (nodes : List ℕ) (node j : ℕ) → All (Contains nodes) (successors_of graph node) → ((k : ℕ) → Contains nodes k → Leads graph k j → Contains nodes j) → Leads graph node j → Contains nodes j
from_last graph nodes node j ready old (one c) = All-contains (Contains nodes) (successors_of graph node) j ready c
from_last graph nodes node j ready old (further k c l) = old k (All-contains (Contains nodes) (successors_of graph node) k ready c) l

closed_after : (graph : Graph) (nodes : List ℕ) (node i j : ℕ) → All (Contains nodes) (successors_of graph node) → ((k : ℕ) → Contains nodes k → Leads graph k j → Contains nodes j)
    → Leads graph i j → Contains nodes i ⊎ Contains (node ∷ []) i → Contains nodes j
closed_after graph nodes node i j ready earlier leads (inl old) = earlier i old leads
closed_after graph nodes node i j ready earlier leads (inr last) = from_last graph nodes node j ready earlier (subst (λ (x : ℕ). Leads graph x j) (of_one node i last) leads)

-- what an order's nodes lead to stands in it
pub closed : (graph : Graph) {nodes : List ℕ} → IsOrder graph nodes → (i j : ℕ) → Contains nodes i → Leads graph i j → Contains nodes j
closed graph none i j there leads = absurd (no_elements i there)
closed graph (after nodes node order ready fresh) i j there leads =
    Contains-append_left nodes (node ∷ []) j (closed_after graph nodes node i j ready (λ k c l. closed graph order k j c l) leads (Contains-append_cases nodes (node ∷ []) i there))

acyclic_after : (graph : Graph) (nodes : List ℕ) (node i : ℕ) → All (Contains nodes) (successors_of graph node) → ¬ (Contains nodes node)
    → ((k j : ℕ) → Contains nodes k → Leads graph k j → Contains nodes j) → ((k : ℕ) → Contains nodes k → ¬ (Leads graph k k)) → Leads graph i i → Contains nodes i ⊎ Contains (node ∷ []) i → ⊥
acyclic_after graph nodes node i ready fresh earlier old leads (inl there) = old i there leads
acyclic_after graph nodes node i ready fresh earlier old leads (inr last) =
    let itself : Leads graph node node = subst (λ (x : ℕ). Leads graph x x) (of_one node i last) leads in
    fresh (from_last graph nodes node node ready (λ k c l. earlier k node c l) itself)

-- no node of an order leads to itself
pub acyclic : (graph : Graph) {nodes : List ℕ} → IsOrder graph nodes → (i : ℕ) → Contains nodes i → ¬ (Leads graph i i)
acyclic graph none i there leads = absurd (no_elements i there)
acyclic graph (after nodes node order ready fresh) i there leads =
    acyclic_after graph nodes node i ready fresh (closed graph order) (acyclic graph order) leads (Contains-append_cases nodes (node ∷ []) i there)

pub marked-acyclic : (graph : Graph) (nodes : List ℕ) (marks : List Bool) → Tells graph nodes marks → (i : ℕ) → IsMarked marks i → ¬ (Leads graph i i)
marked-acyclic graph nodes marks tells i marked = acyclic graph tells.order i (tells.listed i marked)

-- a node leads to itself where one that it leads to reaches it
pub itself-from_reached : (graph : Graph) (node : ℕ) → ReachedFrom graph (successors_of graph node) node → Leads graph node node
itself-from_reached graph node r = reaches-before graph node r.0 node r.1 r.2

pub reached-from_itself : (graph : Graph) (node : ℕ) → Leads graph node node → ReachedFrom graph (successors_of graph node) node
reached-from_itself graph node (one c) = (node, c, inl refl)
reached-from_itself graph node (further k c l) = (k, c, inr l)

no_successors : (graph : Graph) (i : ℕ) → length graph ≤ i → successors_of graph i ≡ []
unfolding successors_of
no_successors [] i le = refl
no_successors (row ∷ rows) zero le = absurd (omega (arith, le))
no_successors (row ∷ rows) (suc i) le = no_successors rows i (omega (arith, le))

leads_nowhere : (graph : Graph) (i j : ℕ) → length graph ≤ i → ¬ (Leads graph i j)
leads_nowhere graph i j le (one c) = no_elements j (rw (no_successors graph i le) at c)
leads_nowhere graph i j le (further k c l) = no_elements k (rw (no_successors graph i le) at c)

-- no node leads to itself where none below the count of nodes does
pub acyclic-from_below : (graph : Graph) (n : ℕ) → length graph ≤ n → NoneBelow graph n → IsAcyclic graph
acyclic-from_below graph n le below node leads = below_or (cases_lt node n)
  where
    below_or : (node < n) ⊎ (n ≤ node) → ⊥
    below_or (inl under) = below node under leads
    below_or (inr past) = leads_nowhere graph node node (omega (arith, le, past)) leads
