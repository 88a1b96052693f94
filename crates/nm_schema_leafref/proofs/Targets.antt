-- The graph of leafrefs.
use Rattle.std.proofs.Common.{◌≡◌, ◌<◌, ◌≤◌, ◌+◌, ◌∙◌, ◌⊎◌, ◌↔◌, inl, inr, ℕ, zero, suc, List, [], ◌∷◌, ◌++◌, length, All, Contains, Bool, true, false, Option, Some, None, slice_index_or, slice_set, refl, sym, ap, subst, arith, if◌then◌else◌}
use Rattle.std.proofs.lemmas.Bool.{cases_lt}
use Rattle.std.proofs.lemmas.List.Elements.{All-nil}
use Rattle.nm_graph.specs.Graph.{Graph, IsGraph, successors_of, Leads}
use Rattle.nm_graph.specs.Graph as graphs
use Rattle.nm_graph.specs.Order.{IsMarked, IsWholeOrder}
use Rattle.nm_graph.proofs.Acyclic.{acyclic}
use Rattle.nm_graph.proofs.Orders.{one_marked}
use Rattle.nm_schema_uses.specs.Config.{LeadsBy, one, further, Marks}
use Rattle.nm_schema_uses.specs.Holding.{Draws}
use Rattle.nm_schema_uses.proofs.Graphs.{successors-past}
use Rattle.nm_schema_nodes.specs.Expansion.{Expanded}
use Rattle.nm_schema_leafref.specs.declared.led.Led.{Led}
use Rattle.nm_schema_leafref.specs.declared.led.Led.TheVariants as led
use Rattle.nm_schema_leafref.specs.declared.led.Spot.{Spot}
use Rattle.nm_schema_leafref.specs.declared.led.Spot.TheVariants as spot
use Rattle.nm_schema_typing.specs.Leafref.{LeafrefPath}
use Rattle.nm_schema_statements.specs.Rows.{module_at}
use Rattle.nm_schema_nodes.specs.Expansion.{owner_of}
use Rattle.nm_schema_leafref.specs.Place.{is_leaf_node}
use Rattle.nm_schema_leafref.specs.Walk.{path_row, path_at, led_to, led_from, led_by, led_if, led_along, ended, walked, begun}
use Rattle.nm_schema_leafref.specs.Target.{targets, target_in, up_of, IsCircular}
use Rattle.nm_schema_leafref.specs.Known.{targets_in, AreWithin, LeadsBack}
use Rattle.nm_schema_leafref.proofs.Lists.{past}
use Rattle.nm_schema_leafref.proofs.Places.{row-past}

-- ---- past the last node

pub path_row-past : (typedefs : List (Option ℕ)) (t : Expanded) (x : ℕ) → length t.nodes ≤ x → path_row typedefs t x ≡ None
unfolding path_row
path_row-past typedefs t x le = rw (row-past t.nodes x le) refl

pub led_to-past : (typedefs : List (Option ℕ)) (t : Expanded) (x : ℕ) → length t.nodes ≤ x → led_to typedefs t x ≡ None
unfolding led_to
led_to-past typedefs t x le = rw (path_row-past typedefs t x le) refl

pub up_of-past : (typedefs : List (Option ℕ)) (t : Expanded) (x : ℕ) → length t.nodes ≤ x → up_of typedefs t x ≡ 0
unfolding up_of
up_of-past typedefs t x le = rw (path_row-past typedefs t x le) refl

pub targets-past : (typedefs : List (Option ℕ)) (t : Expanded) (x : ℕ) → length t.nodes ≤ x → targets typedefs t x ≡ []
unfolding targets
targets-past typedefs t x le = rw (led_to-past typedefs t x le) refl

-- ---- what is led to is a node

false_true : false ≡ true → ⊥
false_true e = grind (arith, e)

leaf-within : (t : Expanded) (y : ℕ) → is_leaf_node t y ≡ true → (y < length t.nodes) ⊎ (length t.nodes ≤ y) → y < length t.nodes
unfolding is_leaf_node
leaf-within t y e (inl lt) = lt
leaf-within t y e (inr le) = absurd (false_true (rw (row-past t.nodes y le) at e))

abbrev IsWithin : ℕ → Option Led → Type 0
IsWithin n found = All (λ y. y < n) (target_in found)

one-within : (n y : ℕ) → y < n → All (λ i. i < n) (y ∷ [])
one-within n y lt zero d h = lt
one-within n y lt (suc k) d h = absurd (omega (arith, h))

leaf_or : (t : Expanded) (y : ℕ) (b : Bool) → is_leaf_node t y ≡ b → IsWithin (length t.nodes) (Some (if b then led.Node y else led.Missing))
leaf_or t y true e = one-within (length t.nodes) y (leaf-within t y e (cases_lt y (length t.nodes)))
leaf_or t y false e = All-nil (λ i. i < length t.nodes)

ended-within : (t : Expanded) (s : Spot) → IsWithin (length t.nodes) (Some (ended t s))
ended-within t spot.Root = All-nil (λ i. i < length t.nodes)
ended-within t (spot.Node y) = leaf_or t y (is_leaf_node t y) refl
ended-within t spot.Missing = All-nil (λ i. i < length t.nodes)
ended-within t spot.Unknown = All-nil (λ i. i < length t.nodes)

led_along-within : (t : Expanded) (w m x : ℕ) (p : LeafrefPath) → IsWithin (length t.nodes) (Some (led_along t w m x p))
unfolding led_along
led_along-within t w m x p = ended-within t (walked t w m (begun t x p.start) p.nodes)

led_if-within : (t : Expanded) (x : ℕ) (w m : Option ℕ) (p : Option LeafrefPath) → IsWithin (length t.nodes) (Some (led_if t x w m p))
led_if-within t x None m p = All-nil (λ i. i < length t.nodes)
led_if-within t x (Some w) None p = All-nil (λ i. i < length t.nodes)
led_if-within t x (Some w) (Some m) None = All-nil (λ i. i < length t.nodes)
led_if-within t x (Some w) (Some m) (Some p) = led_along-within t w m x p

led_by-within : (t : Expanded) (x p : ℕ) → IsWithin (length t.nodes) (Some (led_by t x p))
unfolding led_by
led_by-within t x p = led_if-within t x (module_at t.rows p) (owner_of t.nodes x) (path_at t.rows p)

led_from-within : (t : Expanded) (x : ℕ) (p : Option ℕ) → IsWithin (length t.nodes) (led_from t x p)
led_from-within t x None = All-nil (λ i. i < length t.nodes)
led_from-within t x (Some p) = led_by-within t x p

pub led_to-within : (typedefs : List (Option ℕ)) (t : Expanded) (x : ℕ) → IsWithin (length t.nodes) (led_to typedefs t x)
unfolding led_to
led_to-within typedefs t x = led_from-within t x (path_row typedefs t x)

-- ---- the graph

abbrev pub AreLeds : List (Option ℕ) → Expanded → List (Option Led) → Type 0
AreLeds typedefs t leds = (x : ℕ) → slice_index_or leds x None ≡ led_to typedefs t x

targets-alike : (typedefs : List (Option ℕ)) (t : Expanded) (leds : List (Option Led)) → AreLeds typedefs t leds → (x : ℕ) → targets_in leds x ≡ targets typedefs t x
unfolding targets_in targets
targets-alike typedefs t leds h x = ap target_in (h x)

pub are_within : (typedefs : List (Option ℕ)) (t : Expanded) (leds : List (Option Led)) → AreLeds typedefs t leds → length leds ≡ length t.nodes → AreWithin leds
unfolding targets_in
are_within typedefs t leds h size = λ x. rw (h x, size) (led_to-within typedefs t x)

pub draws-targets : (typedefs : List (Option ℕ)) (t : Expanded) (leds : List (Option Led)) (graph : Graph) → AreLeds typedefs t leds → length leds ≡ length t.nodes → Draws (targets_in leds) (length leds) graph → Draws (targets typedefs t) (length t.nodes) graph
draws-targets typedefs t leds graph h size d = record { size = d.size ∙ size; each = λ i. d.each i ∙ targets-alike typedefs t leds h i }

pub targets_in-past : (leds : List (Option Led)) (x : ℕ) → length leds ≤ x → targets_in leds x ≡ []
unfolding targets_in
targets_in-past leds x le = rw (past leds x None le) refl

pub target-in : (leds : List (Option Led)) (x : ℕ) (nodes : List ℕ) (found : Option Led) → nodes ≡ target_in found → found ≡ slice_index_or leds x None → nodes ≡ targets_in leds x
unfolding targets_in
target-in leds x nodes found e is = e ∙ ap target_in is

-- ---- cycles

along : (graph : Graph) (next : ℕ → List ℕ) → ((i : ℕ) → successors_of graph i ≡ next i) → (i j : ℕ) → Leads graph i j → LeadsBy next i j
along graph next e i j (graphs.one c) = one (subst (λ (ns : List ℕ). Contains ns j) (e i) c)
along graph next e i j (graphs.further k c l) = further k (subst (λ (ns : List ℕ). Contains ns k) (e i) c) (along graph next e k j l)

back : (graph : Graph) (next : ℕ → List ℕ) → ((i : ℕ) → successors_of graph i ≡ next i) → (i j : ℕ) → LeadsBy next i j → Leads graph i j
back graph next e i j (one c) = graphs.one (subst (λ (ns : List ℕ). Contains ns j) (sym (e i)) c)
back graph next e i j (further k c l) = graphs.further k (subst (λ (ns : List ℕ). Contains ns k) (sym (e i)) c) (back graph next e k j l)

pub circular-marks : (typedefs : List (Option ℕ)) (t : Expanded) (graph : Graph) (marks : List Bool) → Draws (targets typedefs t) (length t.nodes) graph → Marks (LeadsBack graph) marks → Marks (IsCircular typedefs t) marks
circular-marks typedefs t graph marks d h = λ i. ((λ m. along graph (targets typedefs t) d.each i i ((h i).0 m)), (λ l. (h i).1 (back graph (targets typedefs t) d.each i i l)))

nothing_there : (i : ℕ) → Contains [] i → ⊥
nothing_there i c = omega (arith, c.1)

leads_nowhere : (graph : Graph) (i j : ℕ) → length graph ≤ i → Leads graph i j → ⊥
leads_nowhere graph i j le (graphs.one c) = nothing_there j (rw (successors-past graph i le) at c)
leads_nowhere graph i j le (graphs.further k c l) = nothing_there k (rw (successors-past graph i le) at c)

-- the marks of the nodes below n
pub record MarksBelow (graph : Graph) (n : ℕ) (marks : List Bool) : Type 0 where
  pub size : length marks ≡ n
  pub each : (i : ℕ) → i < n → (slice_index_or marks i false ≡ true) ↔ LeadsBack graph i

front : (xs : List Bool) (y : Bool) (i : ℕ) → i < length xs → slice_index_or (xs ++ y ∷ []) i false ≡ slice_index_or xs i false
front [] y i lt = absurd (omega arith)
front (x ∷ xs) y zero lt = refl
front (x ∷ xs) y (suc i) lt = front xs y i (omega arith)

last : (xs : List Bool) (y : Bool) → slice_index_or (xs ++ y ∷ []) (length xs) false ≡ y
last [] y = refl
last (x ∷ xs) y = last xs y

more : (graph : Graph) (n : ℕ) (marks : List Bool) (b : Bool) → MarksBelow graph n marks → (b ≡ true) ↔ LeadsBack graph n → (i : ℕ) → i < n + 1 → (i < n) ⊎ (n ≤ i) → (slice_index_or (marks ++ b ∷ []) i false ≡ true) ↔ LeadsBack graph i
more graph n marks b h is i lt (inl under) = rw (front marks b i (omega (arith, h.size))) (h.each i under)
more graph n marks b h is i lt (inr at) =
    let e : i ≡ n = omega arith in
    let g : n ≡ length marks = sym h.size in
    rw (e) (subst (λ k. (slice_index_or (marks ++ b ∷ []) k false ≡ true) ↔ LeadsBack graph n) (sym g) (rw (last marks b) is))

size_more : (xs : List Bool) (y : Bool) (n : ℕ) → length xs ≡ n → length (xs ++ y ∷ []) ≡ n + 1
size_more [] y n e = omega (arith, e)
size_more (x ∷ xs) y zero e = absurd (omega (arith, e))
size_more (x ∷ xs) y (suc n) e = omega (arith, size_more xs y n (omega (arith, e)))

pub marks-more : (graph : Graph) (n : ℕ) (marks : List Bool) (b : Bool) → MarksBelow graph n marks → (b ≡ true) ↔ LeadsBack graph n → MarksBelow graph (n + 1) (marks ++ b ∷ [])
marks-more graph n marks b h is = record { size = size_more marks b n h.size; each = λ i lt. more graph n marks b h is i lt (cases_lt i n) }

all : (graph : Graph) (marks : List Bool) → MarksBelow graph (length graph) marks → (i : ℕ) → (i < length graph) ⊎ (length graph ≤ i) → (slice_index_or marks i false ≡ true) ↔ LeadsBack graph i
all graph marks h i (inl lt) = h.each i lt
all graph marks h i (inr le) = ((λ m. absurd (false_true (sym (past marks i false (omega (arith, h.size))) ∙ m))), (λ l. absurd (leads_nowhere graph i i le l)))

pub marks-all : (graph : Graph) (marks : List Bool) → MarksBelow graph (length graph) marks → Marks (LeadsBack graph) marks
marks-all graph marks h = λ i. all graph marks h i (cases_lt i (length graph))

-- a node of an order doesn't lead to itself
pub ordered-not : (graph : Graph) (order : List ℕ) (i : ℕ) → IsWholeOrder graph order → Contains order i → (false ≡ true) ↔ LeadsBack graph i
ordered-not graph order i h c = ((λ e. absurd (false_true e)), (λ l. absurd (acyclic graph h.order i c l)))

-- marks tell only of these nodes
abbrev pub MarkOnly : List ℕ → List Bool → Type 0
MarkOnly nodes marks = (i : ℕ) → slice_index_or marks i false ≡ true → Contains nodes i

pub only_none : (nodes : List ℕ) (n i : ℕ) (marks : List Bool) → slice_index_or marks i false ≡ false → slice_index_or marks i false ≡ true → Contains nodes i
only_none nodes n i marks e m = absurd (false_true (sym e ∙ m))

only_or : (nodes : List ℕ) (node i : ℕ) → Contains nodes node → (Contains nodes i) ⊎ (i ≡ node) → Contains nodes i
only_or nodes node i c (inl there) = there
only_or nodes node i c (inr is) = rw is c

map_left : (marks : List Bool) (nodes : List ℕ) (i node : ℕ) → MarkOnly nodes marks → (IsMarked marks i) ⊎ (i ≡ node) → (Contains nodes i) ⊎ (i ≡ node)
map_left marks nodes i node h (inl m) = inl (h i m)
map_left marks nodes i node h (inr e) = inr e

pub only_more : (nodes : List ℕ) (marks : List Bool) (node : ℕ) → MarkOnly nodes marks → Contains nodes node → MarkOnly nodes (slice_set marks node true)
only_more nodes marks node h c = λ i m. only_or nodes node i c (map_left marks nodes i node h (one_marked marks i node m))
