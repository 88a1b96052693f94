-- The graph of what rows lead to.
use Rattle.std.proofs.Common.{◌≡◌, ◌<◌, ◌≤◌, ◌+◌, ◌∙◌, ◌⊎◌, inl, inr, ℕ, zero, suc, List, [], ◌∷◌, ◌++◌, length, get_or, slice_get, Bool, true, false, Option, Some, None, IfSome, All, filter, option_to_list, refl, sym, ap, subst, arith, if◌then◌else◌}
use Rattle.std.proofs.lemmas.Grind.{common_steps}
use Rattle.std.proofs.lemmas.List.{length-append}
use Rattle.std.proofs.lemmas.Bool.{cases_lt}
use Rattle.std.proofs.lemmas.Option.{slice_get_past}
use Rattle.std.proofs.lemmas.List.Elements.{All-filter, All-nil, All-push}
use Rattle.std.specs.declared.vec.Vec.{Vec}
use Rattle.std.specs.declared.alloc.Global.{Global}
use Rattle.nm_schema_statements.specs.declared.row.Row.{Row}
use Rattle.nm_schema_statements.specs.Rows.{children, AreRows}
use Rattle.nm_graph.specs.Graph.{Graph, IsGraph, successors_of}
use Rattle.nm_schema_uses.specs.Holding.{is_holder, is_uses, is_part_at, grouping_at, led_to, holding, is_data_at, bringing, AreNamed, AreLeading, Draws, IsHolding}

-- after so many rows, the graph has what these lead to, all of it rows
pub record IsDrawn (next : ℕ → List ℕ) (count : ℕ) (graph : Graph) (n : ℕ) : Type 0 where
  pub size : length graph ≡ n
  pub each : (i : ℕ) → i < n → successors_of graph i ≡ next i
  pub within : All (λ (row : Vec ℕ Global). All (λ node. node < count) row.items) graph

successors-front : (graph : Graph) (row : Vec ℕ Global) (i : ℕ) → i < length graph → successors_of (graph ++ row ∷ []) i ≡ successors_of graph i
unfolding successors_of
successors-front [] row i lt = absurd (omega arith)
successors-front (r ∷ graph) row zero lt = refl
successors-front (r ∷ graph) row (suc i) lt = successors-front graph row i (omega arith)

successors-last : (graph : Graph) (row : Vec ℕ Global) → successors_of (graph ++ row ∷ []) (length graph) ≡ row.items
unfolding successors_of
successors-last [] row = refl
successors-last (r ∷ graph) row = successors-last graph row

pub successors-past : (graph : Graph) (i : ℕ) → length graph ≤ i → successors_of graph i ≡ []
unfolding successors_of
successors-past [] i le = refl
successors-past (r ∷ graph) zero le = absurd (omega arith)
successors-past (r ∷ graph) (suc i) le = successors-past graph i (omega arith)

children-within : (rows : List Row) → AreRows rows → (i : ℕ) → All (λ node. node < length rows) (children rows i)
children-within rows h i = λ k d lt. let e : get_or (children rows i) k d ≡ get_or (children rows i) k 0 = grind (arith, common_steps) in rw e ((h.within i k lt).1)

named-within : (rows : List Row) (grouping : Option ℕ) → IfSome grouping (λ g. g < length rows) → All (λ node. node < length rows) (option_to_list grouping)
named-within rows None h = All-nil (λ node. node < length rows)
named-within rows (Some g) h = λ k d lt. let z : k ≡ 0 = omega arith in rw z h

at-named : (rows : List Row) (groupings : List (Option ℕ)) (i : ℕ) → AreNamed rows groupings → (i < length groupings) ⊎ (length groupings ≤ i) → IfSome (grouping_at groupings i) (λ g. g < length rows)
at-named rows groupings i h (inl lt) = h i None lt
at-named rows groupings i h (inr le) = let e : grouping_at groupings i ≡ None = grind (arith, common_steps) in rw e tt

led_to-within : (rows : List Row) (groupings : List (Option ℕ)) (i : ℕ) (row : Option Row) → AreRows rows → AreNamed rows groupings → All (λ node. node < length rows) (led_to rows groupings i row)
led_to-within rows groupings i None h named = All-nil (λ node. node < length rows)
led_to-within rows groupings i (Some r) h named =
    elim (is_holder r.word) as (λ b. All (λ node. node < length rows) (if b then filter (is_part_at rows) (children rows i) else (if is_uses r.word then option_to_list (grouping_at groupings i) else []))) [
      | true ↦ All-filter (is_part_at rows) (λ node. node < length rows) (children rows i) (children-within rows h i)
      | false ↦ elim (is_uses r.word) as (λ b. All (λ node. node < length rows) (if b then option_to_list (grouping_at groupings i) else [])) [
        | true ↦ named-within rows (grouping_at groupings i) (at-named rows groupings i named (cases_lt i (length groupings)))
        | false ↦ All-nil (λ node. node < length rows)
      ]
    ]

pub holding-within : (rows : List Row) (groupings : List (Option ℕ)) (i : ℕ) → AreRows rows → AreNamed rows groupings → All (λ node. node < length rows) (holding rows groupings i)
unfolding holding
holding-within rows groupings i h named = led_to-within rows groupings i (slice_get rows i) h named

pub holding-past : (rows : List Row) (groupings : List (Option ℕ)) (i : ℕ) → length rows ≤ i → holding rows groupings i ≡ []
unfolding holding
holding-past rows groupings i le = rw (slice_get_past rows i le) refl

unless_all : (b : Bool) (P : ℕ → Type 0) (nodes : List ℕ) → All P nodes → All P (if b then [] else nodes)
unless_all true P nodes h = All-nil P
unless_all false P nodes h = h

pub bringing-within : (rows : List Row) (groupings : List (Option ℕ)) (i : ℕ) → AreRows rows → AreNamed rows groupings → All (λ node. node < length rows) (bringing rows groupings i)
unfolding bringing
bringing-within rows groupings i h named = unless_all (is_data_at rows i) (λ node. node < length rows) (holding rows groupings i) (holding-within rows groupings i h named)

unless_none : (b : Bool) (nodes : List ℕ) → nodes ≡ [] → (if b then [] else nodes) ≡ []
unless_none true nodes e = refl
unless_none false nodes e = e

pub bringing-past : (rows : List Row) (groupings : List (Option ℕ)) (i : ℕ) → length rows ≤ i → bringing rows groupings i ≡ []
unfolding bringing
bringing-past rows groupings i le = unless_none (is_data_at rows i) (holding rows groupings i) (holding-past rows groupings i le)

module _ (next : ℕ → List ℕ) (count : ℕ) where
  pub drawn_none : IsDrawn next count [] 0
  drawn_none = record { size = refl; each = λ i lt. absurd (omega arith); within = All-nil (λ (row : Vec ℕ Global). All (λ node. node < count) row.items) }

  push_each : (graph : Graph) (n : ℕ) (row : Vec ℕ Global) → IsDrawn next count graph n → row.items ≡ next n → (i : ℕ) → i < n + 1 → (i < n) ⊎ (n ≤ i) → successors_of (graph ++ row ∷ []) i ≡ next i
  push_each graph n row h is i lt (inl front) = successors-front graph row i (omega (arith, h.size)) ∙ h.each i front
  push_each graph n row h is i lt (inr past) =
      let e : i ≡ length graph = omega (arith, h.size) in
      let f : i ≡ n = omega arith in
      ap (λ k. successors_of (graph ++ row ∷ []) k) e ∙ successors-last graph row ∙ is ∙ ap next (sym f)

  pub drawn_more : (graph : Graph) (n : ℕ) (row : Vec ℕ Global) → All (λ node. node < count) (next n) → IsDrawn next count graph n → row.items ≡ next n → IsDrawn next count (graph ++ row ∷ []) (n + 1)
  drawn_more graph n row within h is = record {
    size = length-append graph (row ∷ []) ∙ ap (λ k. k + 1) h.size;
    each = λ i lt. push_each graph n row h is i lt (cases_lt i n);
    within = All-push (λ (r : Vec ℕ Global). All (λ node. node < count) r.items) graph row h.within (rw is within);
  }

  all_each : (graph : Graph) → IsDrawn next count graph count → ((i : ℕ) → count ≤ i → next i ≡ []) → (i : ℕ) → (i < count) ⊎ (count ≤ i) → successors_of graph i ≡ next i
  all_each graph h past i (inl lt) = h.each i lt
  all_each graph h past i (inr le) = successors-past graph i (omega (arith, h.size)) ∙ sym (past i le)

  pub drawn_all : (graph : Graph) → IsDrawn next count graph count → ((i : ℕ) → count ≤ i → next i ≡ []) → Draws next count graph
  drawn_all graph h past = record { size = h.size; each = λ i. all_each graph h past i (cases_lt i count) }

  pub drawn-graph : (graph : Graph) → IsDrawn next count graph count → IsGraph graph
  drawn-graph graph h = subst (λ n. All (λ (row : Vec ℕ Global). All (λ node. node < n) row.items) graph) (sym h.size) h.within

successors-all : (graph : Graph) (P : ℕ → Type 0) → All (λ (row : Vec ℕ Global). All P row.items) graph → (i : ℕ) → All P (successors_of graph i)
unfolding successors_of
successors-all [] P h i = λ k d l. absurd (omega arith)
successors-all (r ∷ rows) P h zero = h 0 r (omega arith)
successors-all (r ∷ rows) P h (suc i) = successors-all rows P (λ k d l. h (suc k) d (omega arith)) i

pub successors-within : (graph : Graph) → IsGraph graph → (i : ℕ) → All (λ node. node < length graph) (successors_of graph i)
successors-within graph h i = successors-all graph (λ node. node < length graph) h i

pub all-leading : (rows : List Row) (groupings : List (Option ℕ)) (graph : Graph) → IsHolding rows groupings graph → IsGraph graph → AreLeading rows groupings
all-leading rows groupings graph h is = λ i.
    subst (λ (nodes : List ℕ). All (λ node. node < length rows) nodes) (h.each i) (subst (λ n. All (λ node. node < n) (successors_of graph i)) h.size (successors-within graph is i))

-- what is read at a row is what it leads to
pub successors-read : (graph : Graph) (i : ℕ) (row : Vec ℕ Global) → i < length graph → row ≡ get_or graph i row → row.items ≡ successors_of graph i
unfolding successors_of
successors-read [] i row h e = absurd (omega arith)
successors-read (r ∷ rows) zero row h e = ap (λ (v : Vec ℕ Global). v.items) e
successors-read (r ∷ rows) (suc i) row h e = successors-read rows i row (omega arith) e

-- a grouping that is given is a row
abbrev pub IsNamed : List Row → Option ℕ → Type 0
IsNamed rows grouping = IfSome grouping (λ g. g < length rows)
