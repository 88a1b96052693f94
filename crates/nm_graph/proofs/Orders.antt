-- A node is added to an order.
use Rattle.std.proofs.Common.{arith, ◌≡◌, ◌<◌, ◌+◌, ◌≤◌, ℕ, zero, suc, Bool, true, false, List, [], ◌∷◌, ◌++◌, length, take, replicate, All, Contains, slice_index_or, slice_set, refl, sym, ap, ◌∙◌, ◌⊎◌, inl, inr}
use Rattle.std.proofs.lemmas.List.Elements.{Contains-get_or, Contains-append_left, Contains-append_right, Contains-append_cases}
use Rattle.std.proofs.lemmas.List.{length-set, length-append, length-replicate, take_all}
use Rattle.nm_graph.specs.Graph.{Graph, successors_of}
use Rattle.nm_graph.specs.Order.{IsOrder, none, after, IsMarked, Tells, count_marked}

pub count-set : (marks : List Bool) (i : ℕ) → i < length marks → ¬ (IsMarked marks i) → count_marked (slice_set marks i true) ≡ count_marked marks + 1
count-set [] i le unmarked = omega arith
count-set (false ∷ marks) zero le unmarked = omega arith
count-set (true ∷ marks) zero le unmarked = absurd (unmarked refl)
count-set (false ∷ marks) (suc i) le unmarked = count-set marks i (omega arith) unmarked
count-set (true ∷ marks) (suc i) le unmarked = omega (arith, count-set marks i (omega arith) unmarked)

pub count-le : (marks : List Bool) → count_marked marks ≤ length marks
count-le [] = omega arith
count-le (true ∷ marks) = omega (arith, count-le marks)
count-le (false ∷ marks) = omega (arith, count-le marks)

-- a mark tells of one node
pub one_marked : (marks : List Bool) (i node : ℕ) → IsMarked (slice_set marks node true) i → IsMarked marks i ⊎ (i ≡ node)
one_marked [] i node marked = inl marked
one_marked (m ∷ marks) zero zero marked = inr refl
one_marked (m ∷ marks) (suc i) zero marked = inl marked
one_marked (m ∷ marks) zero (suc node) marked = inl marked
one_marked (m ∷ marks) (suc i) (suc node) marked = or_suc (one_marked marks i node marked)
  where
    or_suc : IsMarked marks i ⊎ (i ≡ node) → IsMarked marks i ⊎ (suc i ≡ suc node)
    or_suc (inl x) = inl x
    or_suc (inr e) = inr (ap suc e)

pub still_marked : (marks : List Bool) (i node : ℕ) → IsMarked marks i → IsMarked (slice_set marks node true) i
still_marked [] i node marked = marked
still_marked (m ∷ marks) zero zero marked = refl
still_marked (m ∷ marks) (suc i) zero marked = marked
still_marked (m ∷ marks) zero (suc node) marked = marked
still_marked (m ∷ marks) (suc i) (suc node) marked = still_marked marks i node marked

pub now_marked : (marks : List Bool) (node : ℕ) → node < length marks → IsMarked (slice_set marks node true) node
now_marked [] node le = absurd (omega arith)
now_marked (m ∷ marks) zero le = refl
now_marked (m ∷ marks) (suc node) le = now_marked marks node (omega arith)

pub last_there : (nodes : List ℕ) (node : ℕ) → Contains (nodes ++ node ∷ []) node
last_there nodes node = Contains-append_right nodes (node ∷ []) node (0, omega arith, refl)

pub of_one : (node i : ℕ) → Contains (node ∷ []) i → i ≡ node
of_one node i (zero, lt, is) = sym is
of_one node i (suc k, lt, is) = omega arith

pub tells_after : (graph : Graph) (nodes : List ℕ) (marks : List Bool) (node : ℕ)
    → Tells graph nodes marks → node < length graph → All (IsMarked marks) (successors_of graph node) → ¬ (IsMarked marks node)
    → Tells graph (nodes ++ node ∷ []) (slice_set marks node true)
tells_after graph nodes marks node tells within ready new =
    let inside : node < length marks = rw tells.size within in
    record {
      order = after nodes node tells.order (λ k d lt. tells.listed (slice_index_or (successors_of graph node) k d) (ready k d lt)) (λ there. new (tells.marked node there));
      size = length-set marks node true ∙ tells.size;
      marked = λ i there. marked_after i inside (Contains-append_cases nodes (node ∷ []) i there);
      listed = λ i marked. listed_after i (one_marked marks i node marked);
      count = length-append nodes (node ∷ []) ∙ (ap (λ n. n + 1) tells.count ∙ sym (count-set marks node inside new));
    }
  where
    marked_after : (i : ℕ) → node < length marks → Contains nodes i ⊎ Contains (node ∷ []) i → IsMarked (slice_set marks node true) i
    marked_after i inside (inl there) = still_marked marks i node (tells.marked i there)
    marked_after i inside (inr there) = rw (of_one node i there) (now_marked marks node inside)

    listed_after : (i : ℕ) → IsMarked marks i ⊎ (i ≡ node) → Contains (nodes ++ node ∷ []) i
    listed_after i (inl marked) = Contains-append_left nodes (node ∷ []) i (tells.listed i marked)
    listed_after i (inr is) = rw is (last_there nodes node)

pub all_of_take : {X : Type 0} (P : X → Type 0) (n : ℕ) (xs : List X) → length xs ≤ n → All P (take n xs) → All P xs
all_of_take P n xs le all = rw (take_all n xs le) at all

-- an order has at most all nodes
pub at_most_all : (graph : Graph) (nodes : List ℕ) (marks : List Bool) → Tells graph nodes marks → length nodes ≤ length graph
at_most_all graph nodes marks tells = omega (arith, tells.count, tells.size, count-le marks)

false_is_true : false ≡ true → ⊥
false_is_true e = grind arith

none_marked : (n i : ℕ) → ¬ (IsMarked (replicate n false) i)
none_marked zero i marked = false_is_true marked
none_marked (suc n) zero marked = false_is_true marked
none_marked (suc n) (suc i) marked = none_marked n i marked

count-none : (n : ℕ) → count_marked (replicate n false) ≡ 0
count-none zero = refl
count-none (suc n) = count-none n

-- an order begins with no node
pub tells_none : (graph : Graph) (marks : List Bool) → marks ≡ replicate (length graph) false → Tells graph [] marks
tells_none graph marks is = rw is (record {
  order = none;
  size = length-replicate (length graph) false;
  marked = λ i c. absurd (omega (arith, c.1));
  listed = λ i marked. absurd (none_marked (length graph) i marked);
  count = sym (count-none (length graph));
})

marked_within : (marks : List Bool) (i : ℕ) → IsMarked marks i → i < length marks
marked_within [] i marked = absurd (false_is_true marked)
marked_within (m ∷ marks) zero marked = omega arith
marked_within (m ∷ marks) (suc i) marked = omega (arith, marked_within marks i marked)

-- an order has nodes of the graph
pub within_graph : (graph : Graph) (nodes : List ℕ) (marks : List Bool) → Tells graph nodes marks → All (λ node. node < length graph) nodes
within_graph graph nodes marks tells k d lt =
    let marked : slice_index_or nodes k d < length marks = marked_within marks (slice_index_or nodes k d) (tells.marked (slice_index_or nodes k d) (Contains-get_or nodes k d lt)) in
    omega (arith, marked, tells.size)
