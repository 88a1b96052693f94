-- What is reached in a graph, and the graph without state.
use Rattle.std.proofs.Common.{◌≡◌, ◌∙◌, ◌<◌, ◌≤◌, ◌+◌, ◌↔◌, ◌⊎◌, inl, inr, ℕ, List, [], ◌∷◌, ◌++◌, length, All, Contains, filter, Bool, true, false, slice_index_or, get_or, refl, sym, ap, subst, arith}
use Rattle.std.proofs.lemmas.Bool.{cases_lt}
use Rattle.std.proofs.lemmas.Option.{slice_get_past}
use Rattle.std.proofs.lemmas.List.Elements.{All-filter, All-nil, All-push, All-contains, Contains-append_left, Contains-push}
use Rattle.nm_schema_statements.specs.declared.row.Row.{Row}
use Rattle.nm_schema_statements.specs.Rows.{roots}
use Rattle.nm_graph.specs.Graph.{Graph, IsGraph, successors_of, Leads, Reaches, ReachedFrom}
use Rattle.nm_graph.specs.Graph as graphs
use Rattle.nm_schema_uses.specs.Holding.{Draws}
use Rattle.nm_schema_uses.specs.Config.{is_state, is_kept, LeadsBy, one, further, ReachesBy, IsRooted, IsBelowState, Marks, kept_of}
use Rattle.nm_schema_uses.specs.Passing.{is_plain, plain_of}
use Rattle.nm_schema_uses.specs.declared.settings.Settings.{Settings}
use Rattle.nm_schema_uses.specs.Settled.{AreSettings}
use Rattle.nm_schema_uses.proofs.Graphs.{IsDrawn, drawn_more, drawn_all, drawn-graph, successors-within, successors-read, successors-past}
use Rattle.std.specs.declared.vec.Vec.{Vec}
use Rattle.std.specs.declared.alloc.Global.{Global}
use mathlib.Core.Path.{fun_ext}

leads_by : (graph : Graph) (i j : ℕ) → Leads graph i j → LeadsBy (successors_of graph) i j
leads_by graph i j (graphs.one c) = one c
leads_by graph i j (graphs.further k c l) = further k c (leads_by graph k j l)

leads-back : (graph : Graph) (i j : ℕ) → LeadsBy (successors_of graph) i j → Leads graph i j
leads-back graph i j (one c) = graphs.one c
leads-back graph i j (further k c l) = graphs.further k c (leads-back graph k j l)

reaches_by : (graph : Graph) (i j : ℕ) → Reaches graph i j → ReachesBy (successors_of graph) i j
reaches_by graph i j (inl e) = inl e
reaches_by graph i j (inr l) = inr (leads_by graph i j l)

reaches-back : (graph : Graph) (i j : ℕ) → ReachesBy (successors_of graph) i j → Reaches graph i j
reaches-back graph i j (inl e) = inl e
reaches-back graph i j (inr l) = inr (leads-back graph i j l)

pub rooted-marks : (graph : Graph) (rows : List Row) (marks : List Bool) → ((i : ℕ) → (slice_index_or marks i false ≡ true) ↔ ReachedFrom graph (roots rows) i) → Marks (IsRooted (successors_of graph) rows) marks
rooted-marks graph rows marks h = λ i. ((λ m. let r = (h i).0 m in (r.0, r.1, reaches_by graph r.0 i r.2)), (λ (r : IsRooted (successors_of graph) rows i). (h i).1 (r.0, r.1, reaches-back graph r.0 i r.2)))

pub state-marks : (graph : Graph) (rows : List Row) (states : List ℕ) (marks : List Bool) → All (λ i. is_state rows i ≡ true) states → ((i : ℕ) → is_state rows i ≡ true → Contains states i)
    → ((i : ℕ) → (slice_index_or marks i false ≡ true) ↔ ReachedFrom graph states i) → Marks (IsBelowState (successors_of graph) rows) marks
state-marks graph rows states marks each listed h = λ i. (
  (λ m. let r = (h i).0 m in (r.0, All-contains (λ k. is_state rows k ≡ true) states r.0 each r.1, reaches_by graph r.0 i r.2)),
  (λ (r : IsBelowState (successors_of graph) rows i). (h i).1 (r.0, listed r.0 r.1, reaches-back graph r.0 i r.2)),
)

-- the rows below a number that are state
pub record HaveStates (rows : List Row) (n : ℕ) (states : List ℕ) : Type 0 where
  pub each : All (λ i. is_state rows i ≡ true) states
  pub listed : (i : ℕ) → i < n → is_state rows i ≡ true → Contains states i
  pub within : All (λ i. i < length rows) states

pub states_none : (rows : List Row) → HaveStates rows 0 []
states_none rows = record { each = All-nil (λ i. is_state rows i ≡ true); listed = λ i lt. absurd (omega arith); within = All-nil (λ i. i < length rows) }

listed_more : (rows : List Row) (n : ℕ) (states : List ℕ) → HaveStates rows n states → (i : ℕ) → i < n + 1 → is_state rows i ≡ true → (i < n) ⊎ (n ≤ i) → Contains (states ++ n ∷ []) i
listed_more rows n states h i lt is (inl under) = Contains-append_left states (n ∷ []) i (h.listed i under is)
listed_more rows n states h i lt is (inr past) = let e : i ≡ n = omega arith in rw e (Contains-push states n)

pub states_more : (rows : List Row) (n : ℕ) (states : List ℕ) → HaveStates rows n states → n < length rows → is_state rows n ≡ true → HaveStates rows (n + 1) (states ++ n ∷ [])
states_more rows n states h lt is = record {
  each = All-push (λ i. is_state rows i ≡ true) states n h.each is;
  listed = λ i under s. listed_more rows n states h i under s (cases_lt i n);
  within = All-push (λ i. i < length rows) states n h.within lt;
}

listed_same : (rows : List Row) (n : ℕ) (states : List ℕ) → HaveStates rows n states → is_state rows n ≡ false → (i : ℕ) → i < n + 1 → is_state rows i ≡ true → (i < n) ⊎ (n ≤ i) → Contains states i
listed_same rows n states h other i lt is (inl under) = h.listed i under is
listed_same rows n states h other i lt is (inr past) =
    let e : i ≡ n = omega arith in
    let f : is_state rows n ≡ true = subst (λ k. is_state rows k ≡ true) e is in
    let g : true ≡ false = sym f ∙ other in
    absurd (cc)

pub states_same : (rows : List Row) (n : ℕ) (states : List ℕ) → HaveStates rows n states → is_state rows n ≡ false → HaveStates rows (n + 1) states
states_same rows n states h other = record { each = h.each; listed = λ i under s. listed_same rows n states h other i under s (cases_lt i n); within = h.within }

state-within : (rows : List Row) (i : ℕ) → is_state rows i ≡ true → (i < length rows) ⊎ (length rows ≤ i) → i < length rows
unfolding is_state
state-within rows i is (inl lt) = lt
state-within rows i is (inr le) = let e = slice_get_past rows i le in let f : false ≡ true = rw e at is in absurd (cc)

pub states_all : (rows : List Row) (n : ℕ) (states : List ℕ) → HaveStates rows n states → length rows ≤ n → (i : ℕ) → is_state rows i ≡ true → Contains states i
states_all rows n states h le i is = let lt = state-within rows i is (cases_lt i (length rows)) in h.listed i (omega arith) is

-- those that pass a test, of what rows lead to
abbrev pub picked_of : (ℕ → Bool) → (ℕ → List ℕ) → ℕ → List ℕ
picked_of test next i = filter test (next i)

pub picked_more : (test : ℕ → Bool) (graph picked : Graph) (n : ℕ) (read : Vec ℕ Global) (row : List ℕ) (nodes : Vec ℕ Global) → IsGraph graph → n < length graph → read ≡ get_or graph n read → row ≡ read.items → nodes.items ≡ filter test row
    → IsDrawn (picked_of test (successors_of graph)) (length graph) picked n → IsDrawn (picked_of test (successors_of graph)) (length graph) (picked ++ nodes ∷ []) (n + 1)
picked_more test graph picked n read row nodes within lt at e is h =
    drawn_more (picked_of test (successors_of graph)) (length graph) picked n nodes (All-filter test (λ node. node < length graph) (successors_of graph n) (successors-within graph within n)) h
    (is ∙ ap (λ (l : List ℕ). filter test l) (e ∙ successors-read graph n read lt at))

picked-past : (test : ℕ → Bool) (graph : Graph) (i : ℕ) → length graph ≤ i → filter test (successors_of graph i) ≡ []
picked-past test graph i le = rw (successors-past graph i le) refl

pub picked_all : (test : ℕ → Bool) (graph picked : Graph) (n : ℕ) → n ≡ length graph → IsDrawn (picked_of test (successors_of graph)) (length graph) picked n → Draws (picked_of test (successors_of graph)) (length graph) picked
picked_all test graph picked n all h = drawn_all (picked_of test (successors_of graph)) (length graph) picked (subst (λ n. IsDrawn (picked_of test (successors_of graph)) (length graph) picked n) all h) (picked-past test graph)

pub picked-graph : (test : ℕ → Bool) (graph picked : Graph) (n : ℕ) → n ≡ length graph → IsDrawn (picked_of test (successors_of graph)) (length graph) picked n → IsGraph picked
picked-graph test graph picked n all h = drawn-graph (picked_of test (successors_of graph)) (length graph) picked (subst (λ n. IsDrawn (picked_of test (successors_of graph)) (length graph) picked n) all h)

draws-again : (before after : ℕ → List ℕ) (count : ℕ) (graph : Graph) → ((i : ℕ) → before i ≡ after i) → Draws before count graph → Draws after count graph
draws-again before after count graph same h = record { size = h.size; each = λ i. h.each i ∙ same i }

kept-picked : (next : ℕ → List ℕ) (rows : List Row) (i : ℕ) → picked_of (is_kept rows) next i ≡ kept_of next rows i
unfolding kept_of
kept-picked next rows i = refl

plain-picked : (next : ℕ → List ℕ) (rows : List Row) (i : ℕ) → picked_of (is_plain rows) next i ≡ plain_of next rows i
unfolding plain_of
plain-picked next rows i = refl

pub draws-kept : (next : ℕ → List ℕ) (rows : List Row) (count : ℕ) (graph : Graph) → Draws (picked_of (is_kept rows) next) count graph → Draws (kept_of next rows) count graph
draws-kept next rows count graph h = draws-again (picked_of (is_kept rows) next) (kept_of next rows) count graph (kept-picked next rows) h

pub draws-plain : (next : ℕ → List ℕ) (rows : List Row) (count : ℕ) (graph : Graph) → Draws (picked_of (is_plain rows) next) count graph → Draws (plain_of next rows) count graph
draws-plain next rows count graph h = draws-again (picked_of (is_plain rows) next) (plain_of next rows) count graph (plain-picked next rows) h

pub marks-along : (P : (ℕ → List ℕ) → ℕ → Type 0) (next : ℕ → List ℕ) (count : ℕ) (graph : Graph) (marks : List Bool) → Draws next count graph → Marks (P (successors_of graph)) marks → Marks (P next) marks
marks-along P next count graph marks h m = let same : successors_of graph ≡ next = fun_ext h.each in subst (λ (n : ℕ → List ℕ). Marks (P n) marks) same m

pub settings-along : (rows : List Row) (next : ℕ → List ℕ) (count : ℕ) (graph : Graph) (settings : Settings) → Draws next count graph → AreSettings (successors_of graph) rows settings → AreSettings next rows settings
settings-along rows next count graph settings h s = let same : successors_of graph ≡ next = fun_ext h.each in subst (λ (n : ℕ → List ℕ). AreSettings n rows settings) same s
