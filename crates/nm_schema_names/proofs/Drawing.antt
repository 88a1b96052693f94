-- The graph of what rows claim.
use Rattle.std.proofs.Common.{◌≡◌, ◌≢◌, ◌<◌, ◌≤◌, ◌+◌, ◌∙◌, ◌⊎◌, inl, inr, ℕ, zero, suc, List, [], ◌∷◌, ◌++◌, length, set, slice_get, Bool, true, false, not, cond, ◌&&◌, ◌||◌, Option, Some, None, IfSome, All, filter, option_to_list, refl, sym, ap, subst, arith, if◌then◌else◌}
use Rattle.std.specs.List.{range_with_len}
use Rattle.std.proofs.lemmas.Grind.{common_steps}
use Rattle.std.proofs.lemmas.List.{length-set, append-nil, map-id}
use Rattle.std.proofs.lemmas.List.FromFn.{length-range_with_len, get_or-range_with_len, filter_of_map_range_with_len_more}
use Rattle.std.proofs.lemmas.List.Elements.{All-filter, All-nil, All-cons}
use Rattle.std.proofs.lemmas.Bool.{cases_lt, cases_eq}
use Rattle.std.proofs.lemmas.Option.{slice_get_past}
use Rattle.std.specs.declared.vec.Vec.{Vec}
use Rattle.std.specs.declared.alloc.Global.{Global}
use Rattle.nm_schema_statements.specs.declared.row.Row.{Row}
use Rattle.nm_schema_statements.specs.Rows.{same_parent}
use Rattle.nm_graph.specs.Graph.{Graph, IsGraph, successors_of}
use Rattle.nm_schema_uses.specs.Holding.{is_node, is_uses, grouping_at, AreNamed, Draws}
use Rattle.nm_schema_uses.proofs.Graphs.{IsDrawn, successors-past}
use Rattle.nm_schema_names.proofs.Holders.{other_row, same_row}
use Rattle.nm_schema_names.specs.Clash.{holder_of, is_held, claiming_in, claiming, gathers_in, gathers, claiming_to, AreClaiming, PutsClaim}

-- ---- graphs

successors-set_same : (graph : Graph) (h : ℕ) (row : Vec ℕ Global) → h < length graph → successors_of (set graph h row) h ≡ row.items
unfolding successors_of
successors-set_same [] h row lt = absurd (omega arith)
successors-set_same (r ∷ graph) zero row lt = refl
successors-set_same (r ∷ graph) (suc h) row lt = successors-set_same graph h row (omega arith)

successors-set_other : (graph : Graph) (h i : ℕ) (row : Vec ℕ Global) → i ≢ h → successors_of (set graph h row) i ≡ successors_of graph i
unfolding successors_of
successors-set_other [] h i row other = refl
successors-set_other (r ∷ graph) zero zero row other = absurd (other refl)
successors-set_other (r ∷ graph) zero (suc i) row other = refl
successors-set_other (r ∷ graph) (suc h) zero row other = refl
successors-set_other (r ∷ graph) (suc h) (suc i) row other = successors-set_other graph h i row (λ e. other (ap (λ k. suc k) e))

-- what holds of all that each row leads to
each-row : (graph : Graph) (P : ℕ → Type 0) → ((i : ℕ) → All P (successors_of graph i)) → All (λ (row : Vec ℕ Global). All P row.items) graph
unfolding successors_of
each-row [] P h = All-nil (λ (row : Vec ℕ Global). All P row.items)
each-row (r ∷ graph) P h = All-cons (λ (row : Vec ℕ Global). All P row.items) r graph (h 0) (each-row graph P (λ i. h (suc i)))

-- ---- numbers of rows

range-within : (n count : ℕ) → n ≤ count → All (λ node. node < count) (range_with_len 0 n)
range-within n count le = λ k d lt.
    let size = length-range_with_len 0 n in
    let e = get_or-range_with_len 0 n k d (omega arith) in omega arith

filter-more : (p : ℕ → Bool) (n : ℕ) → filter p (range_with_len 0 (n + 1)) ≡ filter p (range_with_len 0 n) ++ cond (p n) (n ∷ []) []
filter-more p n =
    ap (λ (l : List ℕ). filter p l) (sym (map-id (range_with_len 0 (n + 1)))) ∙ filter_of_map_range_with_len_more p (λ i. i) 0 n n (omega arith)
    ∙ ap (λ (l : List ℕ). filter p l ++ cond (p n) (n ∷ []) []) (map-id (range_with_len 0 n))

named-within : (rows : List Row) (grouping : Option ℕ) → IfSome grouping (λ g. g < length rows) → All (λ node. node < length rows) (option_to_list grouping)
named-within rows None h = All-nil (λ node. node < length rows)
named-within rows (Some g) h = λ k d lt. let z : k ≡ 0 = omega arith in rw z h

at-named : (rows : List Row) (groupings : List (Option ℕ)) (i : ℕ) → AreNamed rows groupings → (i < length groupings) ⊎ (length groupings ≤ i) → IfSome (grouping_at groupings i) (λ g. g < length rows)
at-named rows groupings i h (inl lt) = h i None lt
at-named rows groupings i h (inr le) = let e : grouping_at groupings i ≡ None = grind (arith, common_steps) in rw e tt

module _ (rows : List Row) where
  never_put : (b : Bool) (before more : List ℕ) → before ≡ (if b && false then more else before)
  never_put true before more = refl
  never_put false before more = refl

  pub puts-none : (at : ℕ) (graph : Graph) → PutsClaim rows None at graph graph
  puts-none at graph = (refl, λ i. never_put (gathers rows i) (successors_of graph i) (successors_of graph i ++ at ∷ []))

  kept_each : (h at i : ℕ) (graph : Graph) → gathers rows h ≡ false → (i ≡ h) ⊎ (i ≢ h) → successors_of graph i ≡ (if gathers rows i && same_parent (Some h) (Some i) then successors_of graph i ++ at ∷ [] else successors_of graph i)
  kept_each h at i graph is (inl same) = rw (same, is) refl
  kept_each h at i graph is (inr other) = rw (other_row h i other) (never_put (gathers rows i) (successors_of graph i) (successors_of graph i ++ at ∷ []))

  pub puts-kept : (h at : ℕ) (graph : Graph) → gathers rows h ≡ false → PutsClaim rows (Some h) at graph graph
  puts-kept h at graph is = (refl, λ i. kept_each h at i graph is (cases_eq i h))

  put_each : (h at i : ℕ) (graph : Graph) (row : Vec ℕ Global) → gathers rows h ≡ true → h < length graph → row.items ≡ successors_of graph h ++ at ∷ [] → (i ≡ h) ⊎ (i ≢ h)
      → successors_of (set graph h row) i ≡ (if gathers rows i && same_parent (Some h) (Some i) then successors_of graph i ++ at ∷ [] else successors_of graph i)
  put_each h at i graph row is lt items (inl same) = rw (same, is, same_row h) (successors-set_same graph h row lt ∙ items)
  put_each h at i graph row is lt items (inr other) =
      rw (other_row h i other) (successors-set_other graph h i row other ∙ never_put (gathers rows i) (successors_of graph i) (successors_of graph i ++ at ∷ []))

  pub puts-row : (h at : ℕ) (graph : Graph) (row : Vec ℕ Global) → gathers rows h ≡ true → h < length graph → row.items ≡ successors_of graph h ++ at ∷ [] → PutsClaim rows (Some h) at graph (set graph h row)
  puts-row h at graph row is lt items = (length-set graph h row, λ i. put_each h at i graph row is lt items (cases_eq i h))

all_claimed : (node uses : Bool) (held named : List ℕ) → (if not (node || uses) then held else (if node then [] else (if uses then named else held))) ≡ (if node then [] else (if uses then named else held))
all_claimed true uses held named = refl
all_claimed false true held named = refl
all_claimed false false held named = refl

module _ (rows : List Row) (groupings : List (Option ℕ)) where
  claiming_in-within : (i : ℕ) (row : Option Row) → AreNamed rows groupings → All (λ node. node < length rows) (claiming_in rows groupings i row)
  claiming_in-within i None named = All-nil (λ node. node < length rows)
  claiming_in-within i (Some r) named =
      elim (is_node r.word) as (λ b. All (λ node. node < length rows) (if b then [] else (if is_uses r.word then option_to_list (grouping_at groupings i) else filter (is_held rows i) (range_with_len 0 (length rows))))) [
        | true ↦ All-nil (λ node. node < length rows)
        | false ↦ elim (is_uses r.word) as (λ b. All (λ node. node < length rows) (if b then option_to_list (grouping_at groupings i) else filter (is_held rows i) (range_with_len 0 (length rows)))) [
          | true ↦ named-within rows (grouping_at groupings i) (at-named rows groupings i named (cases_lt i (length groupings)))
          | false ↦ All-filter (is_held rows i) (λ node. node < length rows) (range_with_len 0 (length rows)) (range-within (length rows) (length rows) (omega arith))
        ]
      ]

  claiming-within : (i : ℕ) → AreNamed rows groupings → All (λ node. node < length rows) (claiming rows groupings i)
  unfolding claiming
  claiming-within i named = claiming_in-within i (slice_get rows i) named

  claiming-past : (i : ℕ) → length rows ≤ i → claiming rows groupings i ≡ []
  unfolding claiming
  claiming-past i le = rw (slice_get_past rows i le) refl

  pub claiming_to-within : (n i : ℕ) → AreNamed rows groupings → n ≤ length rows → All (λ node. node < length rows) (claiming_to rows groupings n i)
  claiming_to-within n i named le =
      elim (gathers rows i) as (λ b. All (λ node. node < length rows) (if b then filter (is_held rows i) (range_with_len 0 n) else claiming rows groupings i)) [
        | true ↦ All-filter (is_held rows i) (λ node. node < length rows) (range_with_len 0 n) (range-within n (length rows) le)
        | false ↦ claiming-within i named
      ]

  claiming_in-all : (i : ℕ) (row : Option Row) → (if gathers_in row then filter (is_held rows i) (range_with_len 0 (length rows)) else claiming_in rows groupings i row) ≡ claiming_in rows groupings i row
  claiming_in-all i None = refl
  claiming_in-all i (Some r) = all_claimed (is_node r.word) (is_uses r.word) (filter (is_held rows i) (range_with_len 0 (length rows))) (option_to_list (grouping_at groupings i))

  claiming_to-all : (i : ℕ) → claiming_to rows groupings (length rows) i ≡ claiming rows groupings i
  unfolding gathers claiming
  claiming_to-all i = claiming_in-all i (slice_get rows i)

  pub claiming_none : (n : ℕ) (graph : Graph) → IsDrawn (claiming_to rows groupings 0) (length rows) graph n → n ≡ length rows → AreClaiming rows groupings 0 graph
  claiming_none n graph h all = record { size = h.size ∙ all; each = λ i lt. h.each i (omega arith) }

  next_each : (b s : Bool) (l front back other : List ℕ) (n : ℕ) → back ≡ front ++ cond s (n ∷ []) [] → l ≡ (if b then front else other) → (if b && s then l ++ n ∷ [] else l) ≡ (if b then back else other)
  next_each true true l front back other n more is = rw is (sym more)
  next_each true false l front back other n more is = is ∙ sym (append-nil front) ∙ sym more
  next_each false s l front back other n more is = is

  held-is : (i n : ℕ) → is_held rows i n ≡ same_parent (holder_of rows n) (Some i)
  unfolding is_held
  held-is i n = refl

  held-next : (i n : ℕ) → filter (is_held rows i) (range_with_len 0 (n + 1)) ≡ filter (is_held rows i) (range_with_len 0 n) ++ cond (same_parent (holder_of rows n) (Some i)) (n ∷ []) []
  held-next i n = filter-more (is_held rows i) n ∙ ap (λ b. filter (is_held rows i) (range_with_len 0 n) ++ cond b (n ∷ []) []) (held-is i n)

  pub claiming_more : (n : ℕ) (graph after : Graph) (holder : Option ℕ) → AreClaiming rows groupings n graph → holder ≡ holder_of rows n → PutsClaim rows holder n graph after → AreClaiming rows groupings (n + 1) after
  claiming_more n graph after holder h is puts = record {
    size = puts.0 ∙ h.size;
    each = λ i lt. puts.1 i ∙ ap (λ (o : Option ℕ). if gathers rows i && same_parent o (Some i) then successors_of graph i ++ n ∷ [] else successors_of graph i) is
        ∙ next_each (gathers rows i) (same_parent (holder_of rows n) (Some i)) (successors_of graph i) (filter (is_held rows i) (range_with_len 0 n)) (filter (is_held rows i) (range_with_len 0 (n + 1))) (claiming rows groupings i) n (held-next i n) (h.each i lt);
  }

  all_each : (graph : Graph) → AreClaiming rows groupings (length rows) graph → (i : ℕ) → (i < length rows) ⊎ (length rows ≤ i) → successors_of graph i ≡ claiming rows groupings i
  all_each graph h i (inl lt) = h.each i lt ∙ claiming_to-all i
  all_each graph h i (inr le) = let size = h.size in successors-past graph i (omega arith) ∙ sym (claiming-past i le)

  pub claiming_all : (n : ℕ) (graph : Graph) → AreClaiming rows groupings n graph → n ≡ length rows → Draws (claiming rows groupings) (length rows) graph
  claiming_all n graph h all =
      let f : AreClaiming rows groupings (length rows) graph = subst (λ m. AreClaiming rows groupings m graph) all h in
      record { size = f.size; each = λ i. all_each graph f i (cases_lt i (length rows)) }

  pub claiming-graph : (graph : Graph) → AreNamed rows groupings → Draws (claiming rows groupings) (length rows) graph → IsGraph graph
  claiming-graph graph named h =
      let each : (i : ℕ) → All (λ node. node < length rows) (successors_of graph i) = λ i. subst (λ (l : List ℕ). All (λ node. node < length rows) l) (sym (h.each i)) (claiming-within i named) in
      subst (λ n. All (λ (row : Vec ℕ Global). All (λ node. node < n) row.items) graph) (sym h.size) (each-row graph (λ node. node < length rows) each)
