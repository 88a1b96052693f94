-- Values along an order are the values of the nodes.
use Rattle.std.proofs.Common.{◌≡◌, ◌≢◌, ◌<◌, ◌≤◌, ◌+◌, ◌∙◌, ℕ, zero, suc, Bool, List, [], ◌∷◌, ◌++◌, length, take, replicate, map, All, Contains, Option, None, Some, is_some, true, option_map, slice_index_or, slice_set, refl, sym, ap, subst, inl, inr, ◌⊎◌, arith}
use Rattle.std.proofs.lemmas.List.Elements.{Contains-append_cases, Contains-append_left, Contains-append_right, All-contains}
use Rattle.std.proofs.lemmas.List.{length-append, length-replicate, take-append-le, get_or_append_left, take_more, length-set, get_or-set_same, get_or-set_other}
use Rattle.std.proofs.Math.Seq.{take-append_seam, get_or-append_seam}
use Rattle.std.proofs.lemmas.Bool.{cases_lt, cases_eq}
use Rattle.nm_graph.specs.Graph.{Graph, IsGraph, successors_of, one}
use Rattle.nm_graph.specs.Order.{IsOrder, none, after, IsWholeOrder, AreSettled, IsSettled, LeadsOutside}
use Rattle.nm_graph.specs.Value.{Step, IsStrict, value_within, value_of, values_at, all_there, Holds, Valued}
use Rattle.nm_graph.specs.ValueLaws.{one_missing}
use Rattle.nm_graph.proofs.Orders.{of_one}
use Rattle.nm_graph.proofs.Leading.{successors-within}
use Rattle.nm_graph.proofs.Acyclic.{closed}

here : (node : ℕ) (nodes : List ℕ) → Contains (node ∷ nodes) node
here node nodes = (0, omega arith, refl)

further_in : (first : ℕ) (nodes : List ℕ) (node : ℕ) → Contains nodes node → Contains (first ∷ nodes) node
further_in first nodes node c = (suc c.0, omega (arith, c.1), c.2)

cons-same : {Y : Type 0} (x y : Option Y) (xs ys : List (Option Y)) → x ≡ y → xs ≡ ys → x ∷ xs ≡ y ∷ ys
cons-same x y xs ys first others = rw (first, others) refl

-- two ways to value some nodes that agree on each
map-same : {Y : Type 0} (f g : ℕ → Option Y) (nodes : List ℕ) → ((node : ℕ) → Contains nodes node → f node ≡ g node) → map f nodes ≡ map g nodes
map-same f g [] same = refl
map-same f g (node ∷ nodes) same = cons-same (f node) (g node) (map f nodes) (map g nodes) (same node (here node nodes)) (map-same f g nodes (λ other c. same other (further_in node nodes other c)))

-- the values that stand at nodes are theirs
values_at-are : {Y : Type 0} (values : List (Option Y)) (f : ℕ → Option Y) (nodes : List ℕ) → ((node : ℕ) → Contains nodes node → slice_index_or values node None ≡ f node) → values_at values nodes ≡ map f nodes
values_at-are values f [] same = refl
values_at-are values f (node ∷ nodes) same =
    cons-same (slice_index_or values node None) (f node) (values_at values nodes) (map f nodes) (same node (here node nodes)) (values_at-are values f nodes (λ other c. same other (further_in node nodes other c)))

values_at-map : {Y : Type 0} (values : List (Option Y)) (nodes : List ℕ) → values_at values nodes ≡ map (λ (n : ℕ). slice_index_or values n None) nodes
values_at-map values nodes = values_at-are values (λ (n : ℕ). slice_index_or values n None) nodes (λ node c. refl)

none_among : {Y : Type 0} (f : ℕ → Option Y) (nodes : List ℕ) (node : ℕ) → Contains nodes node → f node ≡ None → Contains (map f nodes) None
none_among f [] node c is = absurd (omega (arith, c.1))
none_among f (first ∷ nodes) node (zero, lt, at) is = (0, omega arith, ap f at ∙ is)
none_among f (first ∷ nodes) node (suc k, lt, at) is =
    let rest : Contains (map f nodes) None = none_among f nodes node (k, omega (arith, lt), at) is in
    (suc rest.0, omega (arith, rest.1), rest.2)

none_at : {Y : Type 0} (n node : ℕ) → slice_index_or {A = Option Y} (replicate n None) node None ≡ None
none_at zero node = refl
none_at (suc n) zero = refl
none_at (suc n) (suc node) = none_at n node

module _ {Y : Type 0} (step : Step Y) (graph : Graph) where
  abbrev Steady : List ℕ → Type 0
  Steady nodes = (node k l : ℕ) → Contains nodes node → length nodes ≤ k → length nodes ≤ l → value_within step graph k node ≡ value_within step graph l node

  steady_next : (nodes : List ℕ) (node k l : ℕ) → All (Contains nodes) (successors_of graph node) → Steady nodes → length nodes < k → length nodes < l → value_within step graph k node ≡ value_within step graph l node
  steady_next nodes node zero l ready steady lt lt' = absurd (omega (arith, lt))
  steady_next nodes node (suc k) zero ready steady lt lt' = absurd (omega (arith, lt'))
  steady_next nodes node (suc k) (suc l) ready steady lt lt' =
      ap (step node) (map-same (value_within step graph k) (value_within step graph l) (successors_of graph node)
      (λ next c. steady next k l (All-contains (Contains nodes) (successors_of graph node) next ready c) (omega (arith, lt)) (omega (arith, lt'))))

  steady_cases : (nodes : List ℕ) (last node k l : ℕ) → All (Contains nodes) (successors_of graph last) → Steady nodes → length nodes < k → length nodes < l → Contains nodes node ⊎ Contains (last ∷ []) node → value_within step graph k node ≡ value_within step graph l node
  steady_cases nodes last node k l ready steady lt lt' (inl old) = steady node k l old (omega (arith, lt)) (omega (arith, lt'))
  steady_cases nodes last node k l ready steady lt lt' (inr new) = rw (of_one last node new) (steady_next nodes last k l ready steady lt lt')

  -- with as many steps as an order has nodes, its nodes have their values
  pub steady : {nodes : List ℕ} → IsOrder graph nodes → Steady nodes
  steady none node k l c le le' = absurd (omega (arith, c.1))
  steady (after nodes last order ready fresh) node k l c le le' =
      let more : length (nodes ++ last ∷ []) ≡ length nodes + 1 = length-append nodes (last ∷ []) in
      steady_cases nodes last node k l ready (steady order) (omega (arith, more, le)) (omega (arith, more, le')) (Contains-append_cases nodes (last ∷ []) node c)

  -- a value is its step's, from the values of the successors
  pub value_of-step : (nodes : List ℕ) (node : ℕ) → IsOrder graph nodes → length nodes ≤ length graph → Contains nodes node → value_of step graph node ≡ step node (map (value_of step graph) (successors_of graph node))
  unfolding value_of
  value_of-step nodes node order le c = steady order node (length graph) (suc (length graph)) c le (omega (arith, le))

  outside_case : (nodes : List ℕ) → IsStrict step → IsGraph graph → (k node : ℕ) → ((next : ℕ) → next < length graph → ¬ (Contains nodes next) → value_within step graph k next ≡ None) → ¬ (Contains nodes node) → IsSettled graph nodes node → value_within step graph (suc k) node ≡ None
  outside_case nodes strict is k node outside out (inl there) = absurd (out there)
  outside_case nodes strict is k node outside out (inr o) =
      let lt : o.next < length graph = All-contains (λ next. next < length graph) (successors_of graph node) o.next (successors-within graph is node) o.leads in
      strict node (map (value_within step graph k) (successors_of graph node)) (none_among (value_within step graph k) (successors_of graph node) o.next o.leads (outside o.next lt o.outside))

  -- nodes that are in no order have no value
  pub outside_none : (nodes : List ℕ) → IsStrict step → IsGraph graph → AreSettled graph nodes (length graph) → (k node : ℕ) → node < length graph → ¬ (Contains nodes node) → value_within step graph k node ≡ None
  outside_none nodes strict is settled zero node lt out = refl
  outside_none nodes strict is settled (suc k) node lt out = outside_case nodes strict is k node (outside_none nodes strict is settled k) out (settled node lt)

  before_cases : (nodes : List ℕ) (last i d : ℕ) → All (Contains nodes) (successors_of graph last) → (i < length nodes → All (Contains (take i nodes)) (successors_of graph (slice_index_or nodes i d))) → i < length (nodes ++ last ∷ []) → (i < length nodes) ⊎ (length nodes ≤ i) → All (Contains (take i (nodes ++ last ∷ []))) (successors_of graph (slice_index_or (nodes ++ last ∷ []) i d))
  before_cases nodes last i d ready earlier lt (inl under) = rw (take-append-le i nodes (last ∷ []) (omega (arith, under)), get_or_append_left nodes (last ∷ []) d i under) (earlier under)
  before_cases nodes last i d ready earlier lt (inr past) =
      let is : i ≡ length nodes = omega (arith, length-append nodes (last ∷ []), lt, past) in
      rw (is, take-append_seam nodes (last ∷ []), get_or-append_seam nodes last [] d) ready

  -- what a node of an order leads to stands before it
  pub before : {nodes : List ℕ} → IsOrder graph nodes → (i d : ℕ) → i < length nodes → All (Contains (take i nodes)) (successors_of graph (slice_index_or nodes i d))
  before none i d lt = absurd (omega (arith, lt))
  before (after nodes last order ready fresh) i d lt = before_cases nodes last i d ready (before order i d) lt (cases_lt i (length nodes))

  -- nothing is valued at first
  pub valued_none : (values : List (Option Y)) → values ≡ replicate (length graph) None → Valued step graph [] values
  valued_none values is = rw is (record { size = length-replicate (length graph) None; done = λ node c. absurd (omega (arith, c.1)); rest = λ node out. none_at (length graph) node })

  -- the value that a step gives is the node's
  pub value-is : (nodes : List ℕ) (i : ℕ) (values : List (Option Y)) (value : Option Y) (node : ℕ) → IsWholeOrder graph nodes → i < length nodes → node ≡ slice_index_or nodes i node
      → Valued step graph (take i nodes) values → value ≡ step node (values_at values (successors_of graph node)) → value ≡ value_of step graph node
  value-is nodes i values value node order lt at valued given =
      let ready : All (Contains (take i nodes)) (successors_of graph node) = rw (sym at) at (before order.order i node lt) in
      let those : values_at values (successors_of graph node) ≡ map (value_of step graph) (successors_of graph node) =
      values_at-are values (value_of step graph) (successors_of graph node) (λ next c. valued.done next (All-contains (Contains (take i nodes)) (successors_of graph node) next ready c)) in
      given ∙ ap (step node) those ∙ sym (value_of-step nodes node order.order order.most (i, lt, sym at))

  set_done : (nodes : List ℕ) (values : List (Option Y)) (value : Option Y) (node other : ℕ) → node < length values → value ≡ value_of step graph node → Valued step graph nodes values → Contains nodes other ⊎ Contains (node ∷ []) other → (other ≡ node) ⊎ (other ≢ node)
      → slice_index_or (slice_set values node value) other None ≡ value_of step graph other
  set_done nodes values value node other within is valued c (inl same) = rw same (get_or-set_same values node value None within ∙ is)
  set_done nodes values value node other within is valued (inl old) (inr differs) = get_or-set_other values node other value None differs ∙ valued.done other old
  set_done nodes values value node other within is valued (inr new) (inr differs) = absurd (differs (of_one node other new))

  set_rest : (nodes : List ℕ) (values : List (Option Y)) (value : Option Y) (node other : ℕ) → Valued step graph nodes values → ¬ (Contains (nodes ++ node ∷ []) other) → slice_index_or (slice_set values node value) other None ≡ None
  set_rest nodes values value node other valued out =
      get_or-set_other values node other value None (λ same. out (rw same (Contains-append_right nodes (node ∷ []) node (here node []))))
      ∙ valued.rest other (λ c. out (Contains-append_left nodes (node ∷ []) other c))

  -- a node more is valued
  pub valued_more : (nodes : List ℕ) (i : ℕ) (values : List (Option Y)) (value : Option Y) (node : ℕ) → IsWholeOrder graph nodes → i < length nodes → node ≡ slice_index_or nodes i node → node < length graph
      → Valued step graph (take i nodes) values → value ≡ step node (values_at values (successors_of graph node)) → Valued step graph (take (i + 1) nodes) (slice_set values node value)
  valued_more nodes i values value node order lt at within valued given =
      let more : take (i + 1) nodes ≡ take i nodes ++ node ∷ [] = take_more nodes i node lt ∙ ap (λ (n : ℕ). take i nodes ++ n ∷ []) (sym at) in
      let is : value ≡ value_of step graph node = value-is nodes i values value node order lt at valued given in
      rw more (record {
        size = length-set values node value ∙ valued.size;
        done = λ other c. set_done (take i nodes) values value node other (rw (valued.size) within) is valued (Contains-append_cases (take i nodes) (node ∷ []) other c) (cases_eq other node);
        rest = λ other out. set_rest (take i nodes) values value node other valued out;
      })

  all_cases : (nodes : List ℕ) (values : List (Option Y)) (node : ℕ) → IsStrict step → IsGraph graph → IsWholeOrder graph nodes → node < length graph → Valued step graph nodes values → IsSettled graph nodes node → slice_index_or values node None ≡ value_of step graph node
  unfolding value_of
  all_cases nodes values node strict is order lt valued (inl there) = valued.done node there
  all_cases nodes values node strict is order lt valued (inr o) =
      let out : ¬ (Contains nodes node) = λ c. o.outside (closed graph order.order node o.next c (one o.leads)) in
      valued.rest node out ∙ sym (outside_none nodes strict is order.settled (length graph) node lt out)

  -- all nodes are valued
  pub valued_all : (nodes : List ℕ) (values : List (Option Y)) → IsStrict step → IsGraph graph → IsWholeOrder graph nodes → Valued step graph nodes values → Holds step graph values
  valued_all nodes values strict is order valued = record { size = valued.size; each = λ node lt. all_cases nodes values node strict is order lt valued (order.settled node lt) }

abbrev pub HasValue : {Y : Type 0} → List (Option Y) → ℕ → Type 0
HasValue values node = is_some (slice_index_or values node None) ≡ true

cons_there : {Y : Type 0} (first : Option Y) (values : List (Option Y)) → is_some first ≡ true → is_some (all_there values) ≡ true → is_some (all_there (first ∷ values)) ≡ true
cons_there None values there others = there
cons_there (Some value) values there others = some_mapped value (all_there values) others
  where
    some_mapped : {Y : Type 0} (value : Y) (others : Option (List Y)) → is_some others ≡ true → is_some (option_map (λ others. value ∷ others) others) ≡ true
    some_mapped value None there = there
    some_mapped value (Some others) there = refl

-- each of some nodes has a value
pub all_there-each : {Y : Type 0} (values : List (Option Y)) (nodes : List ℕ) → All (HasValue values) nodes → is_some (all_there (values_at values nodes)) ≡ true
all_there-each values [] each = refl
all_there-each values (node ∷ nodes) each =
    cons_there (slice_index_or values node None) (values_at values nodes) (each 0 node (omega arith)) (all_there-each values nodes (λ k d lt. each (suc k) d (omega (arith, lt))))

-- one of them has none
pub all_there-missing : {Y : Type 0} (values : List (Option Y)) (nodes : List ℕ) (node : ℕ) → Contains nodes node → slice_index_or values node None ≡ None → all_there (values_at values nodes) ≡ None
all_there-missing values nodes node c missing = one_missing (values_at values nodes) (rw (values_at-map values nodes) (none_among (λ (n : ℕ). slice_index_or values n None) nodes node c missing))
